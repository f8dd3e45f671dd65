use Rattle.std.proofs.Common.{ap, subst}
use Rattle.suspect_leader.specs.MeasureState.{MeasureState}
use Rattle.suspect_leader.proofs.Early.{AllEarly, answers_begin}
use Rattle.suspect_leader.proofs.measure.Measure.push_answers.Goals as goal

pub loop-saying-init : goal.loop-saying-init
loop-saying-init c =
    answers_begin c.self.inside.sizes.n c.args.self.now c.self.inside.pending.keys c.self.inside.early.keys
    c.into_iter-saying-iterator.result c.args.bodies.now.items c.into_iter-saying-iterator.ensures.into_iter_gives.0
    (ap (λ (k : MeasureState). k.pending) c.self.view_is)
    (subst (λ (k : MeasureState). AllEarly c.self.inside.sizes.n k.said c.self.inside.early.keys)
    c.self.view_is c.self.invariant.3)
