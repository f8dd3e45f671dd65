use Rattle.suspect_leader.proofs.Sets.{settled_more}
use Rattle.suspect_leader.proofs.answers.settle.Goals as goal

pub loop-body-preserved : goal.loop-body-preserved
loop-body-preserved c = λ s.
    settled_more s c.args.bodies.now c.loop-body.body-index c.body-item.result c.body-item.result
    c.loop-body.pending.keys c.settle_one.new.pending.keys c.args.pending.now.keys c.loop-body-test.true
    c.body-item.is (c.settle_one.ensures s) (c.loop-body.invariant s)
