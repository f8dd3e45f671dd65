use Rattle.std.proofs.Common.{◌≡◌, ◌++◌, take}
use Rattle.std.specs.Prelude.{string_bytes}
use Rattle.std.specs.List.{flat_map}
use Rattle.stations.proofs.Naming.{behind_comma}
use Rattle.stations.proofs.words.put_more.Given as goal

-- the names so far are there
abbrev pub invariant-loop-actor : goal.invariant-loop-actor
invariant-loop-actor l = string_bytes l.text ≡ string_bytes l.fn.text
    ++ flat_map (behind_comma l.cast) (take l.actor-index l.actors)
