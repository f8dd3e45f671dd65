-- One alarm: when a value raises it, when one clears it, and what acknowledging it changes. (This project's own.)
use Rattle.std.specs.Prelude.{Bool, true, false, if◌then◌else◌, ℤ, ◌+ℤ◌, ◌-ℤ◌, int_le, int_lt}
use Rattle.alarm_rules.specs.declared.alarm.AlarmKind.{AlarmKind}
use Rattle.alarm_rules.specs.declared.alarm.AlarmKind.TheVariants.{High, Low}
use Rattle.alarm_rules.specs.declared.alarm.AlarmState.{AlarmState}
use Rattle.alarm_rules.specs.declared.alarm.AlarmState.TheVariants.{Quiet, Raised, Acknowledged}
use Rattle.alarm_rules.specs.declared.alarm.AlarmRule.{AlarmRule}

-- whether an alarm is raised, acknowledged or not
abbrev pub is_raised : AlarmState → Bool
is_raised Quiet = false
is_raised Raised = true
is_raised Acknowledged = true

abbrev pub reaches_by : AlarmKind → ℤ → ℤ → Bool
reaches_by High limit v = int_le limit v
reaches_by Low limit v = int_le v limit

-- whether a value reaches the limit (this project's own)
abbrev pub reaches : AlarmRule → ℤ → Bool
reaches r v = reaches_by r.kind r.limit v

abbrev pub leaves_by : AlarmKind → ℤ → ℤ → ℤ → Bool
leaves_by High limit band v = int_lt v (limit -ℤ band)
leaves_by Low limit band v = int_lt (limit +ℤ band) v

-- whether a value has left the limit by more than the band (this project's own)
abbrev pub leaves : AlarmRule → ℤ → Bool
leaves r v = leaves_by r.kind r.limit r.band v

-- the state after a value: a quiet alarm is raised where the value reaches the limit, and a raised one
-- cleared where the value leaves it, which forgets that it was acknowledged
abbrev pub next_state : AlarmRule → ℤ → AlarmState → AlarmState
next_state r v Quiet = if reaches r v then Raised else Quiet
next_state r v Raised = if leaves r v then Quiet else Raised
next_state r v Acknowledged = if leaves r v then Quiet else Acknowledged
