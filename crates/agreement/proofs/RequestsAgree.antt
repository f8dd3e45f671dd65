-- Certified requests agree.
use Rattle.std.proofs.Common.{◌≡◌, ℕ, true, ◌&&◌, List, [], Some, nat_eq, sym, ◌∙◌, ap, subst}
use Rattle.std.specs.List.{flat_map, find}
use Rattle.plain_lists.specs.Lists.{IsIn, here, Begins, Within}
use Rattle.plain_lists.proofs.Members.{in_first, in_flat_map, in_filter_map_from, find_some, none_some}
use Rattle.protocol_rules.proofs.FirstMet.{first_met_from}
use Rattle.sha2.specs.Sha256.{sha256}
use Rattle.message_types.specs.declared.signed.Signed.{Signed}
use Rattle.message_types.specs.declared.updates.Update.{Update}
use Rattle.message_types.specs.declared.body.Body.{Body}
use Rattle.message_types.specs.declared.body.Body.TheVariants as body
use Rattle.message_types.specs.Parts.{inside, as_frame}
use Rattle.message_types.specs.Texts.{update_text}
use Rattle.message_types.specs.Digests.{digest_of_update}
use Rattle.protocol_rules.specs.Group.{Group}
use Rattle.protocol_rules.specs.Preorder.{certified, is_acked, update_requested, updates_requested}
use Rattle.history_rules.specs.Events.{Entry}
use Rattle.history_rules.specs.Setup.{Setup, is_correct_master}
use Rattle.history_rules.specs.Legal.{IsLegal, heard}
use Rattle.history_rules.specs.Audit.{bodies_of, texts_of, history_texts}
use Rattle.agreement.specs.Laws.{IsSound, known_by}
use Rattle.agreement.proofs.KnownAsItGrows.{learned_by, learned_more, known_of_within}
use Rattle.agreement.proofs.SpokenByKind.{if_some}
use Rattle.agreement.proofs.FramesInside.{Closed}
use Rattle.agreement.proofs.LearnedWasSaid.{learned_closed, learned_stands}
use Rattle.agreement.proofs.LearnedInPlace.{learned_good}
use Rattle.agreement.proofs.TextsTellAll.{update_text-same}
use Rattle.agreement.proofs.SaidOnce.{IsBacked, IsAck, meet, acks_backed, ack_once}

-- an update certified was requested and acknowledged
pub certified_from : (g : Group) (known : List (Signed Body)) (x k : ℕ) (u : Update) → certified g known x k ≡ Some u
    → (words : List (Signed Body)) × Within words known × IsIn u (updates_requested words x k)
    × (is_acked g words x k (digest_of_update u) ≡ true)
unfolding certified
certified_from g known x k u e =
    let met = first_met_from (λ beginning. find (λ u. is_acked g beginning x k (digest_of_update u))
    (updates_requested beginning x k)) [] known e in
    let found = find_some (λ u. is_acked g met.0 x k (digest_of_update u)) (updates_requested met.0 x k) met.2 in
    (met.0, met.1, found.0, found.1)

requested_body : (x k signer : ℕ) (word : Body) (sig : List ℕ) (u : Update) →
    update_requested x k record { signer = signer; body = word; sig = sig } ≡ Some u
    → (s : Signed Update) × IsIn (as_frame body.Update s) (inside word) × (s.body ≡ u)
requested_body x k signer (body.PoRequest b) sig u e =
    (b.update, here [], (if_some (nat_eq signer x && nat_eq b.k k) e).1)
requested_body x k signer _ sig u e = absurd (none_some e)

-- an update requested is a frame known
pub requested_known : (known words : List (Signed Body)) → Closed known → Within words known →
    (x k : ℕ) (u : Update) → IsIn u (updates_requested words x k)
    → (s : Signed Update) × IsIn (as_frame body.Update s) known × (s.body ≡ u)
requested_known known words closed within x k u h =
    let found = in_filter_map_from (update_requested x k) words h in
    let update = requested_body x k found.0.signer found.0.body found.0.sig u found.2 in
    (update.0, closed found.0 (as_frame body.Update update.0) (within found.0 found.1) update.1, update.2)

-- what a master knows at its last event of a beginning it has learned in the whole
pub known_in : (w : Setup) (history first : List Entry) (i : ℕ) → Begins first history →
    Within (known_by w first i) (learned_by w history i)
known_in w history first i b p h = subst (λ (xs : List Entry). IsIn p (learned_by w xs i)) (sym b.same)
    (learned_more w first b.rest i p (known_of_within (heard w first i) p h))

-- the texts of what a correct master learned are among the history's
pub learned_text : (w : Setup) (history : List Entry) (i : ℕ) → IsLegal w history → is_correct_master w i ≡ true →
    (p : Signed Body) → IsIn p (learned_by w history i)
    → (text : List ℕ) → IsIn text (texts_of w.group p.body) → IsIn text (history_texts w.group history)
learned_text w history i legal correct p h text within =
    let found = learned_stands w i history legal correct p h in
    in_flat_map (λ (e : Entry). flat_map (texts_of w.group) (bodies_of e))
    (subst (λ (xs : List Entry). IsIn found.1 xs) (sym found.2.whole) (in_first found.0 found.2.after))
    (in_flat_map (texts_of w.group) found.3 within)

digests_text : (a b : Update) → digest_of_update a ≡ digest_of_update b →
    sha256 (update_text a) ≡ sha256 (update_text b)
unfolding digest_of_update
digests_text a b e = e

module _ (w : Setup) (history : List Entry) (sound : IsSound w history) where
  -- an update that a correct master has certified
  certified_known : (i : ℕ) → is_correct_master w i ≡ true → (known : List (Signed Body)) →
      Within known (learned_by w history i) → (x k : ℕ) (u : Update) → certified w.group known x k ≡ Some u
      → IsBacked w history (IsAck x k (digest_of_update u))
      × ((s : Signed Update) × IsIn (as_frame body.Update s) (learned_by w history i) × (s.body ≡ u))
  certified_known i correct known within x k u e =
      let found = certified_from w.group known x k u e in (
        acks_backed w history i sound correct (learned_by w history i) (λ p h. h) found.0
            (λ p h. within p (found.1 p h)) x k (digest_of_update u) found.3,
        requested_known (learned_by w history i) found.0 (learned_closed w history i)
            (λ p h. within p (found.1 p h)) x k u found.2,
      )

  updates_same : (i j : ℕ) → is_correct_master w i ≡ true → is_correct_master w j ≡ true → (s t : Signed Update) →
      IsIn (as_frame body.Update s) (learned_by w history i) → IsIn (as_frame body.Update t) (learned_by w history j)
      → digest_of_update s.body ≡ digest_of_update t.body → s.body ≡ t.body
  updates_same i j right_i right_j s t one other e =
      update_text-same s.body t.body
      (learned_good w i history sound.legal sound.sizes right_i (as_frame body.Update s) one).1
      (learned_good w j history sound.legal sound.sizes right_j (as_frame body.Update t) other).1
      (sound.alike.alike (update_text s.body) (update_text t.body)
      (learned_text w history i sound.legal right_i (as_frame body.Update s) one (update_text s.body) (here _))
      (learned_text w history j sound.legal right_j (as_frame body.Update t) other (update_text t.body) (here _))
      (digests_text s.body t.body e))

  pub certified_same : (i j : ℕ) → is_correct_master w i ≡ true → is_correct_master w j ≡ true →
      (known more : List (Signed Body)) → Within known (learned_by w history i) → Within more (learned_by w history j)
      → (x k : ℕ) (a b : Update) → certified w.group known x k ≡ Some a → certified w.group more x k ≡ Some b → a ≡ b
  certified_same i j right_i right_j known more within_i within_j x k a b one other =
      let first = certified_known i right_i known within_i x k a one in
      let second = certified_known j right_j more within_j x k b other in
      let met = meet w history (IsAck x k (digest_of_update a)) (IsAck x k (digest_of_update b))
      sound first.0 second.0 in
      let digests : digest_of_update a ≡ digest_of_update b =
      ack_once w history met.0 sound.legal met.1 x k (digest_of_update a) (digest_of_update b)
      met.3.0 met.4.0 met.3.2 met.4.2 met.3.1 met.4.1 in
      sym first.1.2 ∙ updates_same i j right_i right_j first.1.0 second.1.0 first.1.1 second.1.1
      (ap digest_of_update first.1.2 ∙ digests ∙ ap digest_of_update (sym second.1.2)) ∙ second.1.2
