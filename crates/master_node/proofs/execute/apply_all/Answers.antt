-- The points are held after the updates so far, one more each turn. Each update is of a client that is there,
-- so it can be applied.
use Rattle.std.proofs.Common.{refl, ◌∙◌, ap, arith}
use Rattle.master_points.specs.Orders.{held_after}
use Rattle.master_node.proofs.Plants.{update_there, update_more}
use Rattle.plain_lists.proofs.Lists.{take_whole}
use Rattle.master_node.proofs.execute.apply_all.Goals as goal

pub loop-update-init : goal.loop-update-init
loop-update-init c = refl

pub apply-requires : goal.apply-requires
apply-requires c = update_there c.args.points.now c.loop-update.points c.args.updates.now c.loop-update.update-index _
    c.loop-update.invariant c.requires c.loop-update-test.true

pub loop-update-preserved : goal.loop-update-preserved
loop-update-preserved c = update_more c.args.points.now c.loop-update.points c.apply.new.self c.args.updates.now
    c.loop-update.update-index _ c.loop-update.invariant c.in_ok-apply.ensures.ok c.loop-update-test.true

pub returns : goal.returns
returns c = c.loop-update.invariant ∙ ap (held_after c.args.points.now)
    (take_whole c.args.updates.now c.loop-update.update-index (omega arith))
