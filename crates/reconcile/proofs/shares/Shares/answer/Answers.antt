use Rattle.std.proofs.Common.{List, ℕ, refl, sym, subst, arith}
use Rattle.reconcile.specs.Shares.{AreSharesOf}
use Rattle.reconcile.proofs.Sharing.{share_told}
use Rattle.reconcile.proofs.shares.Shares.answer.Goals as goal

pub returns : goal.returns
returns c answered shares = share_told c.self.inside.answered _ c.args.asker (omega arith) refl answered
    (subst (λ (l : List ℕ). AreSharesOf l answered) (sym c.self.view_is) shares)
