use Rattle.std.proofs.Common.{◌≡◌, ◌++◌, take}
use Rattle.std.specs.Prelude.{string_bytes}
use Rattle.std.specs.List.{flat_map}
use Rattle.run_page.specs.Plant.{interlock_text}
use Rattle.run_page.proofs.plant.put_interlocks.Given as goal

-- those so far have their lines
abbrev pub invariant-loop-interlock : goal.invariant-loop-interlock
invariant-loop-interlock l = string_bytes l.text ≡ string_bytes l.initial.text ++ flat_map interlock_text (take l.interlock-index l.interlocks)
