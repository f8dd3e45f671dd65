-- By the plan: where none is known nothing is whole, else its base decides.
use Rattle.std.proofs.Common.{sym, ◌∙◌, ap}
use Rattle.std.specs.Option.{option_copied}
use Rattle.leader_proposals.proofs.Offering.{whole-none, whole-some}
use Rattle.leader_proposals.proofs.counted.is_whole.Goals as goal

pub returns-in-None : goal.returns-in-None
returns-in-None c g facts ordered is = whole-none g facts c.args.view
    (sym (ap option_copied (sym c.in-None.is) ∙ c.plan.ensures g facts ordered is))

pub returns-in-Some : goal.returns-in-Some
returns-in-Some c g facts ordered is = whole-some g facts c.args.view c.in-Some.plan.now c.gapless.result
    (sym (ap option_copied (sym c.in-Some.is) ∙ c.plan.ensures g facts ordered is))
    (c.gapless.ensures g facts ordered is)
