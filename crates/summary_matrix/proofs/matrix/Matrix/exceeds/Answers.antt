-- The latest rows make more eligible than is offered just where their reach is greater for one of the group's
-- masters, and these are at most 14.
use Rattle.std.proofs.Common.{◌≡◌, ◌≤◌, nat_lt, get_or, ◌∙◌, ap, arith}
use Rattle.std.specs.List.{list_any}
use Rattle.quorum_sets.specs.Masters.{numbers_below}
use Rattle.protocol_rules.specs.Master.{latest_rows}
use Rattle.summary_matrix.specs.Held.{Summaries}
use Rattle.summary_matrix.proofs.Latest.{exceeds-known}
use Rattle.quorum_sets.proofs.Numbered.{masters_few}
use Rattle.summary_matrix.proofs.matrix.Matrix.exceeds.Goals as goal

pub returns : goal.returns
returns c g known is =
    let few : c.self.inside.sizes.n ≤ 14 = masters_few c.self.inside.sizes in
    let n : c.self.inside.sizes.n ≡ g.n = ap (λ (m : Summaries). m.group.n) c.self.view_is ∙ is.masters in
    c.exceeds.ensures ∙ ap (λ n. list_any
    (λ j. nat_lt (get_or c.args.offered.now.numbers j 0) (get_or c.eligible.result.numbers j 0))
    (numbers_below n)) n
    ∙ exceeds-known g (latest_rows g known) c.eligible.result.numbers (λ j. get_or c.args.offered.now.numbers j 0)
    (omega arith) (c.eligible.ensures.each g known is)
