use Rattle.std.proofs.Common.{◌∙◌}
use Rattle.global_order.proofs.Marking.{mark-none, mark-one}
use Rattle.global_order.proofs.due.push_mark.Goals as goal

pub returns-then-s-ne0 : goal.returns-then-s-ne0
returns-then-s-ne0 c = λ words marked. mark-none words c.args.bodies.now.items c.args.s c.if-s-ne0.true

pub returns : goal.returns
returns c = λ words marked. c.in_ok-push.ensures.items ∙ mark-one words c.args.bodies.now.items c.args.marked c.args.s
    c.if-s-ne0.false c.requires marked
