use Rattle.std.proofs.Common.{◌≡◌, ◌++◌, take}
use Rattle.std.specs.Prelude.{string_bytes}
use Rattle.std.specs.List.{flat_map}
use Rattle.run_page.specs.Plant.{alarm_text}
use Rattle.run_page.proofs.plant.put_alarms.Given as goal

-- those so far have their lines
abbrev pub invariant-loop-alarm : goal.invariant-loop-alarm
invariant-loop-alarm l = string_bytes l.text ≡ string_bytes l.initial.text ++ flat_map alarm_text (take l.alarm-index l.alarms)
