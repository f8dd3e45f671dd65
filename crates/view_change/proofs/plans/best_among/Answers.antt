-- The better of the best so far and one certificate more is one step of the definition, and is spelled since both are.
use Rattle.std.proofs.Common.{◌≡◌, true, subst, sym}
use Rattle.std.specs.Option.{option_copied, IfSome}
use Rattle.view_change.specs.Planning.{is_spelled}
use Rattle.view_change.proofs.Best.{best-step, better-spelled}
use Rattle.plain_lists.proofs.Lists.{all_at}
use Rattle.view_change.proofs.plans.best_among.Goals as goal

pub loop-certificate-preserved : goal.loop-certificate-preserved
loop-certificate-preserved c = (
  λ before start. best-step c.args.s before c.args.certificates.now c.loop-certificate.certificate-index
      c.certificate-item.result (option_copied c.loop-certificate.found) (option_copied c.better-found.result)
      c.loop-certificate-test.true c.certificate-item.is (c.loop-certificate.invariant.0 before start)
      c.better-found.ensures,
  subst (λ o. IfSome o (λ d. is_spelled d ≡ true)) (sym c.better-found.ensures)
      (better-spelled c.args.s (option_copied c.loop-certificate.found) c.certificate-item.result
      c.loop-certificate.invariant.1
      (all_at is_spelled c.args.certificates.now c.loop-certificate.certificate-index c.certificate-item.result
      c.requires.others c.loop-certificate-test.true c.certificate-item.is)),
)
