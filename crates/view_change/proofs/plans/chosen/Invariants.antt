use Rattle.std.proofs.Common.{◌≡◌, take, map, filter, IsTrue}
use Rattle.std.specs.Option.{option_copied, IfSome}
use Rattle.protocol_rules.specs.Words.{best_by}
use Rattle.protocol_rules.specs.Plans.{goes_before, certificates_of}
use Rattle.view_change.specs.Planning.{is_for, is_spelled}
use Rattle.view_change.proofs.plans.chosen.Given as goal

abbrev pub invariant-loop-holder : goal.invariant-loop-holder
invariant-loop-holder g l =
    (option_copied l.best ≡ best_by goes_before
    (filter (is_for l.s) (certificates_of (take l.holder-index (map g.R.BringsReport.brought l.reports)))))
    × IfSome (option_copied l.best) (λ c. IsTrue (is_spelled c))
