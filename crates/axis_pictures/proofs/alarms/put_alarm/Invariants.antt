use Rattle.std.proofs.Common.{◌≡◌, ◌++◌, drop}
use Rattle.std.specs.Prelude.{string_bytes}
use Rattle.axis_pictures.specs.Plots.{alarm_left, alarm_text, alarm_turn}
use Rattle.axis_pictures.specs.Turns.{turns}
use Rattle.axis_pictures.proofs.alarms.put_alarm.Given as goal

-- the turns so far, and those of the rest behind them, are all turns
abbrev pub invariant-loop-place : goal.invariant-loop-place
invariant-loop-place l =
    string_bytes l.text
    ++ turns (alarm_turn l.frame l.number l.point l.alarm) (alarm_left l.number l.point l.alarm) l.place l.state
    (drop l.place l.executed)
    ≡ string_bytes l.initial.text ++ alarm_text l.frame l.number l.point l.executed l.alarm
