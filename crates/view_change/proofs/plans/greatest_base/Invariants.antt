use Rattle.std.proofs.Common.{◌≡◌, map, take, max}
use Rattle.protocol_rules.specs.Words.{greatest_of}
use Rattle.view_change.proofs.plans.greatest_base.Given as goal

abbrev pub invariant-loop-holder : goal.invariant-loop-holder
invariant-loop-holder g l =
    l.base ≡ max 0 (greatest_of (map (λ r. r.base) (take l.holder-index (map g.R.BringsReport.brought l.reports))))
