-- The ballot takes the vote, and what it has a quorum for now is certified. An acknowledgement of another master adds
-- nothing to first requests or to what is due.
use Rattle.std.proofs.Common.{◌++◌, ◌∷◌, [], List, ◌∙◌, ap, sym, subst, refl, cond, None}
use Rattle.message_types.specs.declared.signed.Signed.{Signed}
use Rattle.message_types.specs.declared.body.Body.{Body}
use Rattle.message_types.specs.declared.body.Body.TheVariants as body
use Rattle.message_types.specs.Parts.{as_frame}
use Rattle.protocol_rules.specs.Group.{Group}
use Rattle.protocol_rules.specs.Preorder.{is_acked}
use Rattle.preorder.specs.contracts.preorder.Preorder.{the_view}
use Rattle.preorder.specs.Index.{HasCertified}
use Rattle.preorder.proofs.Viewed.{viewed}
use Rattle.preorder.proofs.Others.{firsts-other, pending-other}
use Rattle.preorder.proofs.Turning.{lanes-learn}
use Rattle.preorder.proofs.Holding.{told-learn}
use Rattle.preorder.proofs.Certified.{certifies-ack}
use Rattle.preorder.proofs.preorder.Preorder.take_ack.Goals as goal

pub returns-clause-learned : goal.returns-clause-learned
returns-clause-learned c g me taken known said is =
    let a = c.self.inside in
    let x = c.args.frame.now in
    let old = viewed g me (the_view a) c.args.self.now taken known said c.self.view_is is in
    let after : List (Signed Body) = known ++ as_frame body.PoAck x ∷ [] in
    let ballots = c.in_ok-note_vote.ensures.noted known old.ballots in
    let votes = c.is_acked-has_votes.ensures after ballots
    ∙ ap (λ (h : Group). is_acked h after x.body.j x.body.k x.body.digest) old.group in
    let candidate = c.if_acked-candidate.ensures ∙ ap (λ b. cond b c.requested-update.result None) votes
    ∙ ap (λ o. cond (is_acked g after x.body.j x.body.k x.body.digest) o None)
    (c.requested-update.ensures after ballots) in
    let certified = c.certify.ensures g known after (certifies-ack g known x c.if_acked-candidate.result candidate)
    (subst (HasCertified g known) (sym c.reserve.ensures.entries) old.certified) old.reach in
    record {
      group = old.group;
      own = old.own;
      updates = old.updates;
      numbers = old.numbers;
      firsts = firsts-other g known said (as_frame body.PoAck x) a.firsts.entries (λ j k. refl) old.firsts;
      ballots = ballots;
      certified = certified.0;
      reach = certified.1;
      pending = pending-other known said (as_frame body.PoAck x) a.pending.low a.pending.high (λ j k. refl) old.pending;
      counted = old.counted;
      lanes = lanes-learn g known said (as_frame body.PoAck x) a.lanes old.lanes;
      introduced = old.introduced;
      requested = old.requested;
      acknowledged = λ live. told-learn g known said (as_frame body.PoAck x) a.firsts.entries old.firsts
          (old.acknowledged live);
    }
