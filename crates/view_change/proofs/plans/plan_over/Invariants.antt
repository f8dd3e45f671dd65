use Rattle.std.proofs.Common.{◌≡◌, ◌+◌, map}
use Rattle.protocol_rules.specs.Group.{Group}
use Rattle.protocol_rules.specs.Words.{numbers_from}
use Rattle.protocol_rules.specs.Plans.{planned}
use Rattle.view_change.proofs.plans.plan_over.Given as goal

abbrev pub invariant-loop-step : goal.invariant-loop-step
invariant-loop-step g l = (h : Group) → l.sizes.n ≡ h.n →
    l.rows ≡ map (planned h (map g.R.BringsReport.brought l.reports)) (numbers_from (l.base + 1) l.step)
