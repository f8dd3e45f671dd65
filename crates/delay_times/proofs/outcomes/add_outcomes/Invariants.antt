use Rattle.std.proofs.Common.{◌≡◌, ◌++◌, map, take}
use Rattle.delay_times.specs.Outcomes.{outcome_of}
use Rattle.delay_times.proofs.outcomes.add_outcomes.Given as goal

-- the actors so far have their outcomes
abbrev pub invariant-loop-actor : goal.invariant-loop-actor
invariant-loop-actor l =
    l.outcomes.items ≡ l.initial.outcomes.items ++ map (outcome_of l.happenings l.saying) (take l.actor-index l.actors)
