-- Each part of the index takes the request by its own clause: it may be the first for its number, one of a ballot, and
-- certified where its ballot has a quorum already. The range of numbers due grows to hold it.
use Rattle.std.proofs.Common.{◌≡◌, ◌++◌, ◌∷◌, [], List, ◌<◌, ◌≤◌, ◌∙◌, ap, sym, subst, arith, cond, Some, None, set}
use Rattle.std.proofs.Common.{min}
use Rattle.std.specs.Prelude.{slice_index}
use Rattle.message_types.specs.declared.signed.Signed.{Signed}
use Rattle.message_types.specs.declared.body.Body.{Body}
use Rattle.message_types.specs.declared.body.Body.TheVariants as body
use Rattle.message_types.specs.Digests.{digest_of_update}
use Rattle.message_types.specs.Parts.{as_frame}
use Rattle.quorum_sets.proofs.Numbered.{masters_few}
use Rattle.protocol_rules.specs.Group.{Group, group_of}
use Rattle.protocol_rules.specs.Preorder.{is_acked}
use Rattle.preorder.specs.contracts.preorder.Preorder.{the_view}
use Rattle.preorder.specs.Index.{HasFirsts, HasCertified, HasPending}
use Rattle.preorder.proofs.Viewed.{viewed}
use Rattle.preorder.proofs.Others.{pending-request}
use Rattle.preorder.proofs.Turning.{lanes-learn}
use Rattle.preorder.proofs.Holding.{told-learn}
use Rattle.preorder.proofs.Certified.{certifies-request}
use Rattle.preorder.proofs.preorder.Preorder.take_request.Goals as goal

pub returns-clause-learned : goal.returns-clause-learned
returns-clause-learned c g me taken known said is =
    let a = c.self.inside in
    let x = c.args.frame.now in
    let old = viewed g me (the_view a) c.args.self.now taken known said c.self.view_is is in
    let masters : c.args.self.now.group.n ≡ g.n = ap (λ (h : Group). h.n) is.group in
    let size : a.sizes.n ≡ g.n = ap (λ (h : Group). h.n) old.group in
    let few : a.sizes.n ≤ 14 = masters_few a.sizes in
    let signer : x.signer < c.args.self.now.group.n = c.requires.signer in
    let in_group : x.signer < g.n = omega arith in
    let small : x.signer < 14 = omega arith in
    let after : List (Signed Body) = known ++ as_frame body.PoRequest x ∷ [] in
    let u = x.body.update.body in
    let votes = c.is_acked-has_votes.ensures known old.ballots
    ∙ ap (is_acked (group_of a.sizes a.clients) known x.signer x.body.k) c.update_digest-digest.ensures
    ∙ ap (λ (h : Group). is_acked h known x.signer x.body.k (digest_of_update u)) old.group in
    let candidate = c.if_acked-candidate.ensures ∙ ap (λ b. cond b (Some u) None) votes in
    let certified = c.certify.ensures g known after
    (certifies-request g known x c.if_acked-candidate.result candidate)
    (subst (HasCertified g known) (sym c.reserve-2.ensures.entries) old.certified) old.reach in
    let widened = pending-request known said x a.pending.low a.pending.high small c.requires.first
    c.requires.last old.pending in
    record {
      group = old.group;
      own = old.own;
      updates = old.updates;
      numbers = old.numbers;
      firsts = c.note_first.ensures g known said in_group
          (subst (HasFirsts g known said) (sym c.reserve.ensures.entries) old.firsts);
      ballots = c.in_ok-note_requested.ensures.noted known old.ballots;
      certified = certified.0;
      reach = certified.1;
      pending = subst (λ l. HasPending after said l c.widen.new.pending.high) (sym c.widen.ensures.low)
          (subst (λ h. HasPending after said
          (set a.pending.low x.signer (min (slice_index a.pending.low x.signer) x.body.k)) h)
          (sym c.widen.ensures.high) widened);
      counted = old.counted;
      lanes = lanes-learn g known said (as_frame body.PoRequest x) a.lanes old.lanes;
      introduced = old.introduced;
      requested = old.requested;
      acknowledged = λ live. told-learn g known said (as_frame body.PoRequest x) a.firsts.entries old.firsts
          (old.acknowledged live);
    }
