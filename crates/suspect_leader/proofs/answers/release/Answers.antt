-- Moves one after another are a move. What a body released stays released, since no later move brings it back.
use Rattle.suspect_leader.proofs.Early.{moved_again, gone_more}
use Rattle.suspect_leader.proofs.answers.release.Goals as goal

pub loop-body-preserved : goal.loop-body-preserved
loop-body-preserved c = (
  moved_again c.args.pending.now.keys c.args.early.now.keys c.loop-body.pending.keys c.loop-body.early.keys
      c.release_after.new.pending.keys c.release_after.new.early.keys c.loop-body.invariant.0
      c.release_after.ensures.moved,
  λ to number lt.
      gone_more c.loop-body.pending.keys c.loop-body.early.keys c.release_after.new.pending.keys
      c.release_after.new.early.keys c.args.bodies.now c.loop-body.body-index c.body-item.result
      c.body-item.result to number c.loop-body-test.true c.body-item.is c.release_after.ensures.moved
      (c.loop-body.invariant.1 to number lt) (c.in_ok-release_after.ensures.gone to number lt),
)
