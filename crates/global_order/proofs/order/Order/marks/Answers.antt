-- For number 0 there are none. Else those held for the stable number are the quorum of the definition.
use Rattle.std.proofs.Common.{◌∙◌, ap}
use Rattle.protocol_rules.specs.Order.{marks_for}
use Rattle.global_order.specs.OrderState.{IsOrderOf}
use Rattle.global_order.specs.Held.{state_of}
use Rattle.global_order.proofs.Alike.{inside}
use Rattle.global_order.proofs.Certifying.{marks-none, marks-some, if_ok}
use Rattle.global_order.proofs.order.Order.marks.Goals as goal

pub returns-then-self-eq0 : goal.returns-then-self-eq0
returns-then-self-eq0 c = λ g facts said is.
    let held : IsOrderOf g (state_of c.self.inside) facts said =
    inside c.self.inside c.args.self.now c.self.view_is g facts said is in
    c.new.ensures.items ∙ marks-none g facts c.self.inside.stable c.if-self-eq0.true
    ∙ ap (marks_for g facts) held.stable

pub returns : goal.returns
returns c = if_ok c.marks_of.result _ _ (λ marks told g facts said is.
    let held : IsOrderOf g (state_of c.self.inside) facts said =
    inside c.self.inside c.args.self.now c.self.view_is g facts said is in
    told g facts held.sizes held.marks ∙ marks-some g facts c.self.inside.stable c.if-self-eq0.false
    ∙ ap (marks_for g facts) held.stable) c.marks_of.ensures
