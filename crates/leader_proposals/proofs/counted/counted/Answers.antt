-- Up to the base of the plan the rows ordered count, above it those offered. All rows of an order whose facts
-- have few rows are few.
use Rattle.std.proofs.Common.{nat_le, sym, ◌∙◌, arith}
use Rattle.std.proofs.lemmas.Bool.{cond-true, cond-false, le-leb, lt-leb}
use Rattle.protocol_rules.specs.Order.{ordered, offered}
use Rattle.leader_proposals.proofs.Few.{few-ordered, few-offered, few-read}
use Rattle.leader_proposals.proofs.counted.counted.Goals as goal

pub returns-then-s-plan-clause-rows : goal.returns-then-s-plan-clause-rows
returns-then-s-plan-clause-rows c g facts said is =
    c.ordered.ensures g facts said is
    ∙ sym (cond-true (nat_le c.args.s c.args.plan.now.base) (ordered g facts c.args.s) (offered facts c.args.v c.args.s)
    (le-leb c.args.s c.args.plan.now.base c.if-s-plan.true))

pub returns-else-s-plan-clause-rows : goal.returns-else-s-plan-clause-rows
returns-else-s-plan-clause-rows c g facts said is =
    c.offered.ensures g facts said is
    ∙ sym (cond-false (nat_le c.args.s c.args.plan.now.base) (ordered g facts c.args.s) (offered facts c.args.v c.args.s)
    (lt-leb c.args.s c.args.plan.now.base (omega (arith, c.if-s-plan.false))))

pub returns-then-s-plan-clause-few : goal.returns-then-s-plan-clause-few
returns-then-s-plan-clause-few c =
    let r = c.requires in
    few-read c.ordered.result
    (few-ordered r.group r.facts c.args.s _ (c.ordered.ensures r.group r.facts r.said r.is) r.few)

pub returns-else-s-plan-clause-few : goal.returns-else-s-plan-clause-few
returns-else-s-plan-clause-few c =
    let r = c.requires in
    few-read c.offered.result
    (few-offered r.facts c.args.v c.args.s _ (c.offered.ensures r.group r.facts r.said r.is) r.few)
