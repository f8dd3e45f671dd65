use Rattle.std.proofs.Common.{◌≡◌, ◌++◌, take, drop, length}
use Rattle.alarm_rules.specs.Board.{seen}
use Rattle.alarm_rules.proofs.alarms.settle.Given as goal

-- the states settled so far, and the rest after the value, are all after the value
abbrev pub invariant-loop-number : goal.invariant-loop-number
invariant-loop-number l =
    (take l.number l.states ++ seen l.point l.value (drop l.number l.rules) (drop l.number l.states)
    ≡ seen l.point l.value l.rules l.initial.states)
    × (length l.states ≡ length l.rules)
