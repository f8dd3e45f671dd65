-- The signer's figure takes the greater number, whether it is a commit's or a mark's.
use Rattle.std.proofs.Common.{◌≡◌, ◌≤◌, refl, sym, ◌∙◌, ap, subst, arith}
use Rattle.quorum_sets.proofs.Numbered.{masters_few}
use Rattle.lacking.specs.Come.{FurthestState, IsFurthestOf}
use Rattle.lacking.proofs.Coming.{learn, commit_tells, mark_tells}
use Rattle.lacking.proofs.furthest.Furthest.take.Goals as goal

pub returns-clause-commit : goal.returns-clause-commit
returns-clause-commit c f own number g facts is =
    let n : c.self.inside.sizes.n ≡ g.n = ap (λ (m : FurthestState). m.group.n) c.self.view_is ∙ is.masters in
    let few : c.self.inside.sizes.n ≤ 14 = masters_few c.self.inside.sizes in
    learn g _ _ facts _ c.args.signer c.args.s (commit_tells f c.args.signer c.args.s own number) refl
    (λ j lt. c.keep_greater.ensures j (omega arith))
    (subst (λ (old : FurthestState). IsFurthestOf g old facts) (sym c.self.view_is) is)

pub returns-clause-mark : goal.returns-clause-mark
returns-clause-mark c f own number g facts is =
    let n : c.self.inside.sizes.n ≡ g.n = ap (λ (m : FurthestState). m.group.n) c.self.view_is ∙ is.masters in
    let few : c.self.inside.sizes.n ≤ 14 = masters_few c.self.inside.sizes in
    learn g _ _ facts _ c.args.signer c.args.s (mark_tells f c.args.signer c.args.s own number) refl
    (λ j lt. c.keep_greater.ensures j (omega arith))
    (subst (λ (old : FurthestState). IsFurthestOf g old facts) (sym c.self.view_is) is)
