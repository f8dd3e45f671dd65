-- By the cases of the definition: no plan is known, the number is one that the plan is based on, one that it
-- has, or one beyond it, for which the first proposal counts.
use Rattle.std.proofs.Common.{◌-◌, ◌∙◌, ap, arith}
use Rattle.std.specs.Option.{option_copied}
use Rattle.global_order.specs.Offered.{fits}
use Rattle.global_order.proofs.Answering.{offered-none, offered-below, offered-planned, offered-proposed, if-get-fits}
use Rattle.global_order.proofs.Answering.{copied-fits}
use Rattle.global_order.proofs.offers.offered_in.Goals as goal

pub returns-in_err-plan-clause-value : goal.returns-in_err-plan-clause-value
returns-in_err-plan-clause-value c =
    λ facts has. rw c.from_residual.ensures
    (offered-none facts c.args.v c.args.s (c.in_err-plan.ensures.value facts has))

pub returns-then-s-plan-clause-value : goal.returns-then-s-plan-clause-value
returns-then-s-plan-clause-value c = λ facts has. offered-below facts c.args.v c.args.s c.in_ok-plan.plan.now
    (c.in_ok-plan.ensures.value facts has) c.if-s-plan.true

pub returns-then-place-len-clause-value : goal.returns-then-place-len-clause-value
returns-then-place-len-clause-value c = λ facts has.
    c.get.ensures ∙ offered-planned facts c.args.v c.args.s c.in_ok-plan.plan.now
    (c.in_ok-plan.ensures.value facts has) (omega (arith, c.if-s-plan.false))
    (omega (arith, c.if-place-len.true, c.len.ensures))

pub returns-then-place-len-clause-fit : goal.returns-then-place-len-clause-fit
returns-then-place-len-clause-fit c =
    copied-fits c.get.result (if-get-fits c.in_ok-plan.plan.now.rows (c.args.s - c.in_ok-plan.plan.now.base - 1)
    (option_copied c.get.result) c.in_ok-plan.ensures.fit c.get.ensures)

pub returns-clause-value : goal.returns-clause-value
returns-clause-value c = λ facts has.
    c.get-2.ensures.value ∙ has.proposals c.args.v c.args.s
    ∙ offered-proposed facts c.args.v c.args.s c.in_ok-plan.plan.now (c.in_ok-plan.ensures.value facts has)
    (omega (arith, c.if-s-plan.false)) (omega (arith, c.if-place-len.false, c.len.ensures))

pub returns-clause-fit : goal.returns-clause-fit
returns-clause-fit c = copied-fits c.get-2.result
    (ap fits c.get-2.ensures.value ∙ c.requires.proposals (c.args.v, c.args.s))
