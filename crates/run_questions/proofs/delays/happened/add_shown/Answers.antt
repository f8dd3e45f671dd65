use Rattle.run_questions.specs.DelaysText.{happening_at, shown_of}
use Rattle.run_questions.proofs.Watched.{told_more}
use Rattle.run_questions.proofs.delays.happened.add_shown.Goals as goal

pub loop-notice-preserved : goal.loop-notice-preserved
loop-notice-preserved c =
    told_more (happening_at c.args.place.stamp c.args.place.actor) shown_of c.args.notices.now
    c.loop-notice.notice-index _ c.args.happened.now.items _ _ c.loop-notice-test.true c.loop-notice.invariant
    c.in_ok-add.ensures
