-- A ballot's voters are the masters that acknowledged, so it has a quorum exactly where they are one; where no ballot
-- is there, nobody did.
use Rattle.std.proofs.Common.{◌≤◌, arith, ap, ◌∙◌}
use Rattle.std.specs.List.{list_any}
use Rattle.protocol_rules.specs.Preorder.{is_ack}
use Rattle.preorder.specs.Index.{ballot_has}
use Rattle.preorder.proofs.Quorums.{has_quorum-set, has_quorum-none}
use Rattle.preorder.proofs.ballots.is_acked.Goals as goal

pub returns-in-Some : goal.returns-in-Some
returns-in-Some c = λ known has.
    let sizes = c.args.sizes.now in
    let small : sizes.n ≤ 14 = omega arith in
    has_quorum-set sizes.n sizes.q c.in-Some.ballot.now.voters
    (λ m. list_any (is_ack c.args.j c.args.k c.args.digest m) known) c.is_quorum.result small c.is_quorum.ensures
    (λ m below. ap (λ o. ballot_has o m) c.in-Some.ensures.value ∙ (has c.args.j c.args.k c.args.digest).voters m below)

pub returns-in-None : goal.returns-in-None
returns-in-None c = λ known has.
    let sizes = c.args.sizes.now in
    let small : sizes.n ≤ 14 = omega arith in
    has_quorum-none sizes.n sizes.q (λ m. list_any (is_ack c.args.j c.args.k c.args.digest m) known) small (omega arith)
    (λ m below. ap (λ o. ballot_has o m) c.in-None.ensures.value ∙ (has c.args.j c.args.k c.args.digest).voters m below)
