use Rattle.std.proofs.Common.{◌≡◌, length, map, take}
use Rattle.std.specs.List.{filter_map}
use Rattle.world_history.specs.State.{executed_if}
use Rattle.run_questions.proofs.trend.counting.executed_counts.Given as goal

-- those of the benches so far are counted
abbrev pub invariant-loop-bench : goal.invariant-loop-bench
invariant-loop-bench l = l.counts.items ≡ map length (filter_map executed_if (take l.bench-index l.benches))
