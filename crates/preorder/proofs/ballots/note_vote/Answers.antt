-- The ballot's voters are those so far and the signer, and its update stays.
use Rattle.std.proofs.Common.{ap, ◌∙◌, nat_eq, ◌||◌}
use Rattle.preorder.specs.declared.ballots.Ballot.{Ballot}
use Rattle.quorum_sets.specs.Masters.{has_master}
use Rattle.quorum_sets.proofs.MastersLemmas.{has_master-voters_below}
use Rattle.preorder.proofs.Steps.{has_ballots-voted}
use Rattle.preorder.proofs.ballots.note_vote.Goals as goal

pub returns-clause-noted : goal.returns-clause-noted
returns-clause-noted c = λ known has.
    let ballot : Ballot = record { update = c.ballot_at-ballot.result.update; voters = c.add.new.self } in
    let signer = c.args.frame.now.signer in
    has_ballots-voted known c.args.frame.now ballot c.args.ballots.now.entries c.insert.new.self.entries
    c.ballot_at-ballot.ensures.update
    (λ m below. ap (λ set. has_master set m) c.add.ensures.added
    ∙ has_master-voters_below (λ x. nat_eq x signer || has_master c.ballot_at-ballot.result.voters x) 14 m below
    ∙ ap (λ b. nat_eq m signer || b) (c.ballot_at-ballot.ensures.voters m below))
    c.in_ok-insert.ensures.updates.0 has
