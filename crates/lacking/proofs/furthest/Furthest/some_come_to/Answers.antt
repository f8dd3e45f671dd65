use Rattle.std.proofs.Common.{◌≤◌, sym, ◌∙◌, subst, arith}
use Rattle.quorum_sets.proofs.Numbered.{masters_few}
use Rattle.lacking.specs.Come.{FurthestState, IsFurthestOf}
use Rattle.lacking.proofs.Coming.{some_come}
use Rattle.lacking.proofs.furthest.Furthest.some_come_to.Goals as goal

pub returns : goal.returns
returns c g facts is =
    let few : c.self.inside.sizes.n ≤ 14 = masters_few c.self.inside.sizes in
    c.greatest_reached.ensures
    ∙ some_come g _ facts c.leading-numbers.result.now c.leading-numbers.ensures (omega arith)
    (subst (λ (old : FurthestState). IsFurthestOf g old facts) (sym c.self.view_is) is)
