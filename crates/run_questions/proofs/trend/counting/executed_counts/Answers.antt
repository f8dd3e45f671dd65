-- Each bench of a correct master adds how many updates it executed, and any other bench none. So the counts so
-- far are those of the benches so far.
use Rattle.std.proofs.Common.{◌∙◌, length, map, ap}
use Rattle.std.specs.List.{filter_map}
use Rattle.std.proofs.lemmas.List.{take_all}
use Rattle.world_history.specs.State.{executed_if}
use Rattle.run_questions.proofs.VotesGathered.{counts_more}
use Rattle.run_questions.proofs.trend.counting.executed_counts.Goals as goal

pub loop-bench-preserved : goal.loop-bench-preserved
loop-bench-preserved c =
    counts_more executed_if c.args.benches.now c.loop-bench.bench-index c.bench-item.result _ _ _
    c.loop-bench-test.true c.bench-item.is c.loop-bench.invariant c.executions.ensures c.in_ok-push_count.ensures

pub returns : goal.returns
returns c =
    c.loop-bench.invariant
    ∙ ap (λ xs. map length (filter_map executed_if xs))
    (take_all c.loop-bench.bench-index c.args.benches.now c.loop-bench-test.false)
