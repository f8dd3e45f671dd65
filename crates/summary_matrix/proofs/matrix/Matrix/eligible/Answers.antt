-- The figures kept are those of what is held, and so of the words known.
use Rattle.std.proofs.Common.{◌≡◌, ◌≤◌, ◌∙◌, ap, arith}
use Rattle.protocol_rules.specs.Matrix.{column}
use Rattle.quorum_sets.proofs.Numbered.{masters_few}
use Rattle.protocol_rules.specs.Words.{greatest_reached}
use Rattle.summary_matrix.specs.Held.{Summaries, rows_at}
use Rattle.summary_matrix.proofs.Latest.{eligible-held, eligible-placed}
use Rattle.summary_matrix.proofs.matrix.Matrix.eligible.Goals as goal

pub returns-clause-each : goal.returns-clause-each
returns-clause-each c g known is j lt =
    c.self.invariant.1 j lt
    ∙ ap (λ (m : Summaries). greatest_reached m.group.q (column (rows_at m.group.n m.latest) j)) c.self.view_is
    ∙ eligible-held g c.args.self.now known j is

pub returns-clause-now : goal.returns-clause-now
returns-clause-now c g known is j lt =
    let n : c.self.inside.sizes.n ≡ g.n = ap (λ (m : Summaries). m.group.n) c.self.view_is ∙ is.masters in
    let few : c.self.inside.sizes.n ≤ 14 = masters_few c.self.inside.sizes in
    returns-clause-each c g known is j (omega arith) ∙ eligible-placed g known j lt
