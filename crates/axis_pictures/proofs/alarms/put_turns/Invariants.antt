use Rattle.std.proofs.Common.{◌≡◌, ◌++◌, take}
use Rattle.std.specs.Prelude.{string_bytes}
use Rattle.std.specs.List.{flat_map}
use Rattle.axis_pictures.specs.Plots.{alarm_shown}
use Rattle.axis_pictures.proofs.alarms.put_turns.Given as goal

-- those so far have their turns
abbrev pub invariant-loop-alarm : goal.invariant-loop-alarm
invariant-loop-alarm l =
    string_bytes l.text
    ≡ string_bytes l.initial.text ++ flat_map (alarm_shown l.frame l.number l.point l.executed) (take l.alarm-index l.alarms)
