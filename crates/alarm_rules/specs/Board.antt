-- All alarms of a plant with their states, and what a value of a point changes of them. (This project's own.)
use Rattle.std.specs.Prelude.{ℕ, suc, ◌==◌, Bool, true, false, if◌then◌else◌, List, [], ◌∷◌, ◌++◌, map, Option, Some}
use Rattle.std.specs.Prelude.{None, ℤ, slice_get, position}
use Rattle.std.specs.Option.{option_to_list, option_map_or}
use Rattle.std.specs.Str.{bytes_eq}
use Rattle.alarm_rules.specs.declared.alarm.AlarmState.{AlarmState}
use Rattle.alarm_rules.specs.declared.alarm.AlarmState.TheVariants.{Quiet}
use Rattle.alarm_rules.specs.declared.alarm.AlarmRule.{AlarmRule}
use Rattle.alarm_rules.specs.declared.alarms.Change.{Change}
use Rattle.alarm_rules.specs.declared.alarms.Change.TheVariants.{Raised, Cleared}
use Rattle.alarm_rules.specs.Alarm.{is_raised, next_state}

-- alarms, and the state of each
pub record Board : Type 0 where
  pub rules : List AlarmRule
  pub states : List AlarmState

-- no alarm is raised
abbrev pub quiet : List AlarmRule → List AlarmState
quiet rules = map (λ _. Quiet) rules

abbrev pub change_between : ℕ → Bool → Bool → Option Change
change_between number false false = None
change_between number false true = Some (Raised number)
change_between number true false = Some (Cleared number)
change_between number true true = None

-- what a value of a point does to the alarm of that number
abbrev pub change : ℕ → ℤ → ℕ → AlarmRule → AlarmState → Option Change
change point v number r s = if r.point == point then change_between number (is_raised s)
    (is_raised (next_state r v s)) else None

-- what a value of a point does to alarms that are numbered from a first one on, in number order
abbrev pub changes : ℕ → ℤ → ℕ → List AlarmRule → List AlarmState → List Change
changes point v number [] states = []
changes point v number (r ∷ rs) [] = []
changes point v number (r ∷ rs) (s ∷ ss) = option_to_list (change point v number r s)
    ++ changes point v (suc number) rs ss

-- the state of one alarm after a value of a point
abbrev pub state_after : ℕ → ℤ → AlarmRule → AlarmState → AlarmState
state_after point v r s = if r.point == point then next_state r v s else s

-- the states after a value of a point: those of its alarms follow their rules
abbrev pub seen : ℕ → ℤ → List AlarmRule → List AlarmState → List AlarmState
seen point v [] states = states
seen point v (r ∷ rs) [] = []
seen point v (r ∷ rs) (s ∷ ss) = state_after point v r s ∷ seen point v rs ss

-- whether the alarm of that number is there and raised
abbrev pub is_raised_at : List AlarmState → ℕ → Bool
is_raised_at states alarm = option_map_or is_raised (slice_get states alarm) false

-- the number of the first alarm with a name
abbrev pub alarm_named : List AlarmRule → List ℕ → Option ℕ
alarm_named rules name = position (λ r. bytes_eq r.name name) rules
