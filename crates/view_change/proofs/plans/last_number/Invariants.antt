use Rattle.std.proofs.Common.{◌≡◌, map, take}
use Rattle.protocol_rules.specs.Words.{greatest_of}
use Rattle.protocol_rules.specs.Plans.{certificates_of}
use Rattle.view_change.proofs.plans.last_number.Given as goal

abbrev pub invariant-loop-holder : goal.invariant-loop-holder
invariant-loop-holder g l =
    l.last ≡ greatest_of (map (λ c. c.s)
    (certificates_of (take l.holder-index (map g.R.BringsReport.brought l.reports))))
