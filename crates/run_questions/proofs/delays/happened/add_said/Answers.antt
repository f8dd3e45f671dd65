use Rattle.run_questions.specs.DelaysText.{happening_at, spoken_in}
use Rattle.run_questions.proofs.Watched.{spoken_more}
use Rattle.run_questions.proofs.delays.happened.add_said.Goals as goal

pub loop-body-preserved : goal.loop-body-preserved
loop-body-preserved c =
    spoken_more (happening_at c.args.place.stamp c.args.place.actor) spoken_in c.args.said.now c.loop-body.body-index
    c.body-item.result c.spoken_in.result c.args.happened.now.items _ _ c.loop-body-test.true c.body-item.is
    c.loop-body.invariant c.spoken_in.ensures c.in_ok-add_if.ensures
