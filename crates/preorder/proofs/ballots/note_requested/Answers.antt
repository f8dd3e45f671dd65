-- A ballot that has an update keeps it, since the first with its digest counts; else it takes this one.
use Rattle.std.proofs.Common.{refl, ap, ◌∙◌, is_some}
use Rattle.preorder.specs.declared.ballots.Ballot.{Ballot}
use Rattle.std.proofs.Common.{Some}
use Rattle.preorder.proofs.Steps.{has_ballots-known, has_ballots-requested}
use Rattle.protocol_rules.proofs.FirstMet.{none_there}
use Rattle.preorder.proofs.ballots.note_requested.Goals as goal

pub returns-then-is_some-clause-noted : goal.returns-then-is_some-clause-noted
returns-then-is_some-clause-noted c = λ known has.
    has_ballots-known known c.args.frame.now c.args.digest c.args.ballots.now.entries c.requires
    (c.if-is_some.ensures ∙ ap is_some c.ballot_at-ballot.ensures.update) has

pub returns-clause-noted : goal.returns-clause-noted
returns-clause-noted c = λ known has.
    let ballot : Ballot = record {
      update = Some c.args.frame.now.body.update.body;
      voters =
          c.ballot_at-ballot.result.voters;
    } in
    has_ballots-requested known c.args.frame.now c.args.digest ballot c.args.ballots.now.entries
    c.insert.new.self.entries c.requires refl
    c.ballot_at-ballot.ensures.voters (none_there _ (c.if-is_some.ensures ∙ ap is_some c.ballot_at-ballot.ensures.update))
    c.in_ok-insert.ensures.updates.0 has
