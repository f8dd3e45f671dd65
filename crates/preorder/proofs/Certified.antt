-- What one word more certifies: a request or an acknowledgement can complete the certificate of its own number alone,
-- and what was certified before stays.
use Rattle.std.proofs.Common.{◌≡◌, ℕ, Bool, true, false, cond, ◌&&◌, ◌||◌, List, [], ◌∷◌, ◌++◌, Option, Some, None}
use Rattle.std.proofs.Common.{nat_eq, is_some, refl, sym, ◌∙◌, ap, true≢false}
use Rattle.std.specs.List.{find, list_any, cons_option}
use Rattle.std.specs.Str.{bytes_eq}
use Rattle.std.proofs.Math.Bool.{or-false}
use Rattle.std.proofs.lemmas.Bool.{and_right, and_left}
use Rattle.std.proofs.lemmas.List.{append-nil}
use Rattle.std.proofs.lemmas.List.Elements.{filter_map-append}
use Rattle.std.proofs.lemmas.Slice.Eq.{bytes_eq-Decides}
use Rattle.message_types.specs.declared.signed.Signed.{Signed}
use Rattle.message_types.specs.declared.updates.Update.{Update}
use Rattle.message_types.specs.declared.preordering.PoRequest.{PoRequest}
use Rattle.message_types.specs.declared.preordering.PoAck.{PoAck}
use Rattle.message_types.specs.declared.body.Body.{Body}
use Rattle.message_types.specs.declared.body.Body.TheVariants as body
use Rattle.message_types.specs.Digests.{digest_of_update}
use Rattle.message_types.specs.Parts.{as_frame}
use Rattle.quorum_sets.specs.Quorum.{has_quorum}
use Rattle.protocol_rules.specs.Group.{Group}
use Rattle.protocol_rules.specs.Words.{or_else}
use Rattle.protocol_rules.specs.Preorder.{certified, is_acked, is_ack, updates_requested, update_requested}
use Rattle.preorder.specs.Index.{same_pair, has_digest, CertifiesAt}
use Rattle.preorder.proofs.Choice.{find-push, list_any-push}
use Rattle.protocol_rules.proofs.FirstMet.{first_met-none, first_met-push}
use Rattle.protocol_rules.proofs.Keys.{same_pair-same}

-- the update requested as (j, k) that has a quorum, over one list
abbrev candidate : Group → List (Signed Body) → ℕ → ℕ → Option Update
candidate g known j k = find (λ u. is_acked g known j k (digest_of_update u)) (updates_requested known j k)

certified-push : (g : Group) (known : List (Signed Body)) (x : Signed Body) (j k : ℕ) →
    certified g (known ++ x ∷ []) j k ≡ or_else (certified g known j k) (candidate g (known ++ x ∷ []) j k)
unfolding certified
certified-push g known x j k = first_met-push (λ beginning. candidate g beginning j k) [] known x

certified-none : (g : Group) (known : List (Signed Body)) (j k : ℕ) → certified g known j k ≡ None →
    candidate g known j k ≡ None
unfolding certified
certified-none g known j k none = first_met-none (λ beginning. candidate g beginning j k) [] known none

-- a step certifies at (j, k) alone, where what is to be had where nothing was is as said
certifies-by : (g : Group) (known : List (Signed Body)) (x : Signed Body) (j k : ℕ) (taken : Option Update) →
    ((i h : ℕ) → candidate g known i h ≡ None →
    candidate g (known ++ x ∷ []) i h ≡ cond (same_pair (j, k) (i, h)) taken None) →
    CertifiesAt g known (known ++ x ∷ []) j k taken
certifies-by g known x j k taken new i h = certified-push g known x i h ∙ by (certified g known i h) refl
  where
    stays : (here : Bool) (v : Update) → Some v ≡ cond here (Some v) (Some v)
    stays true v = refl
    stays false v = refl

    by : (old : Option Update) → certified g known i h ≡ old →
        or_else old (candidate g (known ++ x ∷ []) i h) ≡ cond (same_pair (j, k) (i, h)) (or_else old taken) old
    by (Some v) e = stays (same_pair (j, k) (i, h)) v
    by None e = new i h (certified-none g known i h e)

same_ackers : (g : Group) (known after : List (Signed Body)) (j k : ℕ) (digest : List ℕ) →
    ((m : ℕ) → list_any (is_ack j k digest m) after ≡ list_any (is_ack j k digest m) known) →
    is_acked g after j k digest ≡ is_acked g known j k digest
same_ackers g known after j k digest same = ap (has_quorum g.n g.q) (λ i m. same m i)

pub certifies-request : (g : Group) (known : List (Signed Body)) (x : Signed PoRequest) (taken : Option Update) →
    taken ≡ cond (is_acked g known x.signer x.body.k (digest_of_update x.body.update.body))
    (Some x.body.update.body) None →
    CertifiesAt g known (known ++ as_frame body.PoRequest x ∷ []) x.signer x.body.k taken
certifies-request g known x taken is_taken = certifies-by g known frame x.signer x.body.k taken new
  where
    frame : Signed Body
    frame = as_frame body.PoRequest x

    same_test : (i h : ℕ) (u : Update) → is_acked g (known ++ as_frame body.PoRequest x ∷ []) i h
        (digest_of_update u) ≡ is_acked g known i h (digest_of_update u)
    same_test i h u = same_ackers g known (known ++ as_frame body.PoRequest x ∷ []) i h (digest_of_update u)
        (λ m. list_any-push (is_ack i h (digest_of_update u) m) known (as_frame body.PoRequest x) ∙ or-false _)

    last : (i h : ℕ) (here : Bool) → same_pair (x.signer, x.body.k) (i, h) ≡ here →
        find (λ u. is_acked g known i h (digest_of_update u))
        (cons_option (cond here (Some x.body.update.body) None) []) ≡ cond here taken None
    last i h true e =
        ap (λ (key : ℕ × ℕ). cond (is_acked g known key.0 key.1 (digest_of_update x.body.update.body))
        (Some x.body.update.body) None) (sym (same_pair-same (x.signer, x.body.k) (i, h) e))
        ∙ sym is_taken
    last i h false e = refl

    new : (i h : ℕ) → candidate g known i h ≡ None →
        candidate g (known ++ as_frame body.PoRequest x ∷ []) i h ≡ cond
        (same_pair (x.signer, x.body.k) (i, h)) taken None
    new i h none =
        ap (λ (test : Update → Bool). find test (updates_requested (known ++ as_frame body.PoRequest x ∷ []) i h))
        (λ e u. same_test i h u e)
        ∙ find-push (λ u. is_acked g known i h (digest_of_update u)) (update_requested i h)
        known (as_frame body.PoRequest x)
        ∙ ap (λ old. or_else old (find (λ u. is_acked g known i h (digest_of_update u))
        (cons_option (update_requested i h (as_frame body.PoRequest x)) []))) none
        ∙ last i h (same_pair (x.signer, x.body.k) (i, h)) refl

-- where some pass now that didn't, all of one kind
find-newly : (before now kind : Update → Bool) (passes : Bool) → ((u : Update) → kind u ≡ true → now u ≡ passes) →
    ((u : Update) → kind u ≡ false → now u ≡ before u) → (us : List Update) → find before us ≡ None →
    find now us ≡ cond passes (find kind us) None
find-newly before now kind true of_kind others [] none = refl
find-newly before now kind false of_kind others [] none = refl
find-newly before now kind passes of_kind others (u ∷ us) none =
    by (before u) refl (λ rest. find-newly before now kind passes of_kind others us rest) none
  where
    both : (passes : Bool) → find now us ≡ cond passes (find kind us) None →
        cond passes (Some u) (find now us) ≡ cond passes (Some u) None
    both true more = refl
    both false more = more

    step : (is_kind : Bool) → kind u ≡ is_kind → before u ≡ false → find now us ≡ cond passes (find kind us) None →
        cond (now u) (Some u) (find now us) ≡ cond passes (cond is_kind (Some u) (find kind us)) None
    step true like missed more = ap (λ b. cond b (Some u) (find now us)) (of_kind u like) ∙ both passes more
    step false unlike missed more = ap (λ b. cond b (Some u) (find now us)) (others u unlike ∙ missed) ∙ more

    by : (b : Bool) → before u ≡ b → (find before us ≡ None → find now us ≡ cond passes (find kind us) None) →
        cond b (Some u) (find before us) ≡ None → cond (now u) (Some u) (find now us) ≡ cond passes
        (cond (kind u) (Some u) (find kind us)) None
    by true passed more none = absurd (true≢false (ap is_some none))
    by false missed more none = step (kind u) refl missed (more none)

pub certifies-ack : (g : Group) (known : List (Signed Body)) (x : Signed PoAck) (taken : Option Update) →
    taken ≡ cond (is_acked g (known ++ as_frame body.PoAck x ∷ []) x.body.j x.body.k x.body.digest)
    (find (has_digest x.body.digest) (updates_requested (known ++ as_frame body.PoAck x ∷ []) x.body.j x.body.k)) None →
    CertifiesAt g known (known ++ as_frame body.PoAck x ∷ []) x.body.j x.body.k taken
certifies-ack g known x taken is_taken = certifies-by g known (as_frame body.PoAck x) x.body.j x.body.k taken new
  where
    after : List (Signed Body)
    after = known ++ as_frame body.PoAck x ∷ []

    same_updates : (i h : ℕ) → updates_requested (known ++ as_frame body.PoAck x ∷ []) i h ≡ updates_requested known i h
    same_updates i h = filter_map-append (update_requested i h) known (as_frame body.PoAck x ∷ []) ∙ append-nil _

    no_vote : (i h : ℕ) (digest : List ℕ) →
        (same_pair (x.body.j, x.body.k) (i, h) && bytes_eq x.body.digest digest) ≡ false →
        is_acked g (known ++ as_frame body.PoAck x ∷ []) i h digest ≡ is_acked g known i h digest
    no_vote i h digest apart = same_ackers g known (known ++ as_frame body.PoAck x ∷ []) i h digest
        (λ m. list_any-push (is_ack i h digest m) known (as_frame body.PoAck x)
        ∙ ap (λ b. list_any (is_ack i h digest m) known || b)
        (regroup (nat_eq x.signer m) (nat_eq x.body.j i) (nat_eq x.body.k h) (bytes_eq x.body.digest digest)
        ∙ ap (λ b. nat_eq x.signer m && b) apart ∙ and_right (nat_eq x.signer m) false refl)
        ∙ or-false _)
      where
        regroup : (a b c e : Bool) → (((a && b) && c) && e) ≡ (a && ((b && c) && e))
        regroup true b c e = refl
        regroup false b c e = refl

    at : (i h : ℕ) (here : Bool) → same_pair (x.body.j, x.body.k) (i, h) ≡ here → candidate g known i h ≡ None →
        find (λ u. is_acked g (known ++ as_frame body.PoAck x ∷ []) i h (digest_of_update u))
        (updates_requested known i h) ≡ cond here taken None
    at i h false e none =
        ap (λ (test : Update → Bool). find test (updates_requested known i h))
        (λ p u. no_vote i h (digest_of_update u) (and_left _ _ e) p)
        ∙ none
    at i h true e none =
        find-newly (λ u. is_acked g known i h (digest_of_update u))
        (λ u. is_acked g (known ++ as_frame body.PoAck x ∷ []) i h (digest_of_update u)) (has_digest x.body.digest)
        (is_acked g (known ++ as_frame body.PoAck x ∷ []) i h x.body.digest)
        (λ u same. ap (is_acked g (known ++ as_frame body.PoAck x ∷ []) i h)
        ((bytes_eq-Decides (digest_of_update u) x.body.digest).0 same))
        (λ u other. no_vote i h (digest_of_update u) (and_right _ _ (swap (digest_of_update u) other)))
        (updates_requested known i h) none
        ∙ ap (λ us. cond (is_acked g (known ++ as_frame body.PoAck x ∷ []) i h x.body.digest)
        (find (has_digest x.body.digest) us) None) (sym (same_updates i h))
        ∙ ap (λ (key : ℕ × ℕ). cond (is_acked g (known ++ as_frame body.PoAck x ∷ []) key.0 key.1 x.body.digest)
        (find (has_digest x.body.digest) (updates_requested (known ++ as_frame body.PoAck x ∷ []) key.0 key.1))
        None)
        (sym (same_pair-same (x.body.j, x.body.k) (i, h) e))
        ∙ sym is_taken
      where
        swap : (digest : List ℕ) → bytes_eq digest x.body.digest ≡ false → bytes_eq x.body.digest digest ≡ false
        swap digest other = by (bytes_eq x.body.digest digest) refl
          where
            by : (b : Bool) → bytes_eq x.body.digest digest ≡ b → b ≡ false
            by false p = refl
            by true p = absurd (true≢false
                (sym ((bytes_eq-Decides digest x.body.digest).1 (sym ((bytes_eq-Decides x.body.digest digest).0 p)))
                ∙ other))

    new : (i h : ℕ) → candidate g known i h ≡ None →
        candidate g (known ++ as_frame body.PoAck x ∷ []) i h ≡ cond (same_pair (x.body.j, x.body.k) (i, h)) taken None
    new i h none =
        ap (find (λ u. is_acked g (known ++ as_frame body.PoAck x ∷ []) i h (digest_of_update u))) (same_updates i h)
        ∙ at i h (same_pair (x.body.j, x.body.k) (i, h)) refl none
