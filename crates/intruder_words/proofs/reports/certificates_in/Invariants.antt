use Rattle.std.proofs.Common.{◌≡◌, Some, map, take}
use Rattle.global_order.specs.OrderState.{Where}
use Rattle.intruder_words.specs.Speaking.{all_of, certificate_known}
use Rattle.intruder_words.proofs.reports.certificates_in.Given as goal

abbrev pub invariant-loop-item : goal.invariant-loop-item
invariant-loop-item l = Where l.order
    (λ g facts said. all_of (map (certificate_known g facts) (take l.item-index l.items)) ≡ Some l.known)
