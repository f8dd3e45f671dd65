use Rattle.std.proofs.Common.{◌≡◌, ◌++◌, drop, length}
use Rattle.alarm_rules.specs.Board.{changes}
use Rattle.alarm_rules.proofs.alarms.Alarms.changes.Given as goal

-- what is told so far, and what the rest changes, is what all change
abbrev pub invariant-loop-number : goal.invariant-loop-number
invariant-loop-number l =
    (l.told.items ++ changes l.point l.value l.number (drop l.number l.rule-items)
    (drop l.number l.self-inside.states.items)
    ≡ changes l.point l.value 0 l.rule-items l.self-inside.states.items)
    × (length l.self-inside.states.items ≡ length l.rule-items)
