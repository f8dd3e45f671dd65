use Rattle.std.proofs.Common.{◌∙◌}
use Rattle.master_points.proofs.EffectLaws.{to_each-step}
use Rattle.master_points.proofs.master.to_each.Goals as goal

pub loop-place-preserved : goal.loop-place-preserved
loop-place-preserved c = to_each-step _ _ _ _ _ _ c.loop-place-test.true c.in_ok-push.ensures.ok
    ∙ c.loop-place.invariant
