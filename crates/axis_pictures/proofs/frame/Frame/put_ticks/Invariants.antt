use Rattle.std.proofs.Common.{◌≡◌, ◌++◌}
use Rattle.std.specs.Prelude.{string_bytes}
use Rattle.std.specs.List.{flat_map}
use Rattle.quorum_sets.specs.Masters.{numbers_below}
use Rattle.axis_pictures.specs.Frames.{tick_text}
use Rattle.axis_pictures.proofs.frame.Frame.put_ticks.Given as goal

-- those so far are there
abbrev pub invariant-loop-tick : goal.invariant-loop-tick
invariant-loop-tick l =
    string_bytes l.text
    ≡ string_bytes l.initial.text ++ flat_map (tick_text l.self l.first) (numbers_below l.tick)
