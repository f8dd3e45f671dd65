-- An effect speaks to clients that are there and changes what can be changed, so once its orders are given
-- nothing can fail. Where they can't be given nothing has changed.
use Rattle.std.proofs.Common.{◌≡◌, ◌+◌, ◌∙◌, ap, subst, length}
use Rattle.master_points.specs.Orders.{Held, AreOwned}
use Rattle.master_points.proofs.EffectLaws.{orders-addressed, step-possible}
use Rattle.master_points.proofs.master.Master.apply.Goals as goal

pub give-requires : goal.give-requires
give-requires c =
    let all : length c.deref_mut.result.now ≡ c.args.self.now.site.devices + c.args.self.now.site.screens =
    ap length c.deref_mut.ensures.value
    ∙ (c.self.invariant.0 ∙ ap (λ (h : Held). h.site.devices + h.site.screens) c.self.view_is) in
    orders-addressed c.args.self.now c.args.update.now _ _ c.in_ok-effect.effect c.in_ok-effect.ensures
    c.as_slice.ensures all c.requires
    (subst (λ (h : Held). AreOwned h.site.devices h.state.table.points) c.self.view_is c.self.invariant.1)

pub settle-requires : goal.settle-requires
settle-requires c =
    step-possible c.args.self.now c.args.update.now c.in_ok-effect.effect
    (record { table = c.self.inside.points; board = c.self.inside.alarms }) c.in_ok-effect.ensures
    (ap (λ (h : Held). h.state) c.self.view_is)
