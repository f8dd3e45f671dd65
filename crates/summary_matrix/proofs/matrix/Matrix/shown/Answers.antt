-- The figures kept are those of what is held, and so of the words known.
use Rattle.std.proofs.Common.{◌≡◌, ◌+◌, ◌≤◌, ◌∙◌, ap, arith}
use Rattle.protocol_rules.specs.Matrix.{column}
use Rattle.quorum_sets.proofs.Numbered.{masters_few}
use Rattle.protocol_rules.specs.Words.{greatest_reached}
use Rattle.summary_matrix.specs.Held.{Summaries, rows_at}
use Rattle.summary_matrix.proofs.Latest.{shown-held}
use Rattle.summary_matrix.proofs.matrix.Matrix.shown.Goals as goal

pub returns : goal.returns
returns c g known is j lt =
    let n : c.self.inside.sizes.n ≡ g.n = ap (λ (m : Summaries). m.group.n) c.self.view_is ∙ is.masters in
    let few : c.self.inside.sizes.n ≤ 14 = masters_few c.self.inside.sizes in
    c.self.invariant.2 j (omega arith)
    ∙ ap (λ (m : Summaries). greatest_reached (m.group.f + 1) (column (rows_at m.group.n m.latest) j)) c.self.view_is
    ∙ shown-held g c.args.self.now known j is lt
