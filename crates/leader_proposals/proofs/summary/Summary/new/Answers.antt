use Rattle.std.proofs.Common.{refl, arith}
use Rattle.protocol_rules.specs.Group.{group_of}
use Rattle.leader_proposals.proofs.Summing.{summary-none}
use Rattle.quorum_sets.proofs.Numbered.{masters_few}
use Rattle.leader_proposals.proofs.summary.Summary.new.Goals as goal

pub returns : goal.returns
returns c clients =
    let few = masters_few c.args.sizes in
    summary-none (group_of c.args.sizes clients) _ c.args.sizes.n c.none.result.numbers refl refl refl (omega arith)
    (λ j lt. c.none.ensures j (omega arith))
