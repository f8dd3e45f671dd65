-- What was found so far is the best of those before and of the certificates gone over, and is spelled.
use Rattle.std.proofs.Common.{◌≡◌, ◌++◌, List, take, filter, IsTrue}
use Rattle.std.specs.Option.{option_copied, IfSome}
use Rattle.message_types.specs.declared.ordering.Certificate.{Certificate}
use Rattle.protocol_rules.specs.Words.{best_by}
use Rattle.protocol_rules.specs.Plans.{goes_before}
use Rattle.view_change.specs.Planning.{is_for, is_spelled}
use Rattle.view_change.proofs.plans.best_among.Given as goal

abbrev pub invariant-loop-certificate : goal.invariant-loop-certificate
invariant-loop-certificate l =
    ((before : List Certificate) → option_copied l.fn.best ≡ best_by goes_before (filter (is_for l.s) before) →
    option_copied l.found ≡ best_by goes_before
    (filter (is_for l.s) (before ++ take l.certificate-index l.certificates)))
    × IfSome (option_copied l.found) (λ c. IsTrue (is_spelled c))
