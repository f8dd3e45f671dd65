use Rattle.std.proofs.Common.{◌≡◌, drop, max}
use Rattle.std.specs.List.{filter_map}
use Rattle.delay_times.specs.Reigns.{executed_between, longest_gap}
use Rattle.delay_times.proofs.reigns.longest_idle.Given as goal

-- the longest so far, and what is still to come from the last execution on
abbrev pub invariant-loop-happening : goal.invariant-loop-happening
invariant-loop-happening l =
    max l.longest (longest_gap l.last
    (filter_map (executed_between l.from l.to) (drop l.happening-index l.happenings)) l.to)
    ≡ longest_gap l.from (filter_map (executed_between l.from l.to) l.happenings) l.to
