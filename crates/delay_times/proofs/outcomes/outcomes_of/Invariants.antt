use Rattle.std.proofs.Common.{◌≡◌, take}
use Rattle.std.specs.List.{flat_map}
use Rattle.delay_times.specs.Outcomes.{all_outcomes}
use Rattle.delay_times.proofs.outcomes.outcomes_of.Given as goal

-- the updates so far have theirs
abbrev pub invariant-loop-saying : goal.invariant-loop-saying
invariant-loop-saying l =
    l.outcomes.items ≡ flat_map (all_outcomes l.happenings l.proxies l.masters) (take l.saying-index l.sayings)
