-- In a closed view there is no base; in an open one it is that of the view's plan, as the order holds it.
use Rattle.std.proofs.Common.{sym, ◌∙◌, ap}
use Rattle.std.specs.Option.{option_copied}
use Rattle.protocol_rules.specs.Facts.{facts_of}
use Rattle.master_answers.proofs.Lacked.{base_closed, base_open}
use Rattle.master_answers.proofs.lacking_words.open_base.Goals as goal

pub returns-then-not-is_open : goal.returns-then-not-is_open
returns-then-not-is_open c g me taken known past said k =
    base_closed (facts_of g known) _ _ (sym (c.is_open.ensures g me known said k.views) ∙ c.if-not-is_open.true)

pub returns-in-Some : goal.returns-in-Some
returns-in-Some c g me taken known past said k =
    base_open (facts_of g known) _ c.view.result _ _ (sym (c.is_open.ensures g me known said k.views) ∙ c.if-not-is_open.false)
    (c.view.ensures g me known said k.views) (ap option_copied (sym c.in-Some.is) ∙ c.plan.ensures g _ said k.order)

pub returns-in-None : goal.returns-in-None
returns-in-None c g me taken known past said k =
    base_open (facts_of g known) _ c.view.result _ _ (sym (c.is_open.ensures g me known said k.views) ∙ c.if-not-is_open.false)
    (c.view.ensures g me known said k.views) (ap option_copied (sym c.in-None.is) ∙ c.plan.ensures g _ said k.order)
