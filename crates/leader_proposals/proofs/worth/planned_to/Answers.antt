-- A sum that stops at the greatest number of 64 bits is above the limit too, which cuts it.
use Rattle.std.proofs.Common.{◌-◌, ◌^◌, ◌≤◌, sym, ◌∙◌, ap, arith}
use Rattle.std.specs.Option.{option_copied}
use Rattle.leader_proposals.proofs.Worthy.{planned-none, planned-some}
use Rattle.leader_proposals.proofs.worth.planned_to.Goals as goal

pub returns-in-None : goal.returns-in-None
returns-in-None c g facts said is = planned-none facts c.args.view c.args.limit
    (sym (ap option_copied (sym c.in-None.is) ∙ c.plan.ensures g facts said is))

pub returns-in-Some : goal.returns-in-Some
returns-in-Some c g facts said is =
    let fits : c.args.limit ≤ 2 ^ 64 - 1 = omega arith in
    planned-some facts c.args.view c.args.limit (2 ^ 64 - 1) c.len.result c.saturating_add.result c.min.result
    c.in-Some.plan.now (sym (ap option_copied (sym c.in-Some.is) ∙ c.plan.ensures g facts said is)) c.len.ensures
    c.saturating_add.ensures fits c.min.ensures
