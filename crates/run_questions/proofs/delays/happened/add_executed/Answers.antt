use Rattle.run_questions.specs.DelaysText.{happening_at, execution_of}
use Rattle.run_questions.proofs.Watched.{told_more}
use Rattle.run_questions.proofs.delays.happened.add_executed.Goals as goal

pub loop-update-preserved : goal.loop-update-preserved
loop-update-preserved c =
    told_more (happening_at c.args.place.stamp c.args.place.actor) execution_of c.args.updates.now
    c.loop-update.update-index _ c.args.happened.now.items _ _ c.loop-update-test.true c.loop-update.invariant
    c.in_ok-add.ensures
