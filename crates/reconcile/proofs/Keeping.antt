-- What one more request or acknowledgement changes of what is kept, and what is given of it.
use Rattle.std.proofs.Common.{◌≡◌, ℕ, Bool, true, false, cond, List, [], ◌∷◌, ◌++◌, Option, Some, None, is_some}
use Rattle.std.proofs.Common.{nat_eq, take, ◌+◌, refl, sym, ◌∙◌, ap}
use Rattle.std.specs.List.{filter_map}
use Rattle.std.specs.Map.{lookup}
use Rattle.std.specs.Option.{option_map}
use Rattle.std.specs.Str.{bytes_eq}
use Rattle.message_types.specs.declared.signed.Signed.{Signed}
use Rattle.message_types.specs.declared.preordering.PoAck.{PoAck}
use Rattle.message_types.specs.declared.preordering.PoRequest.{PoRequest}
use Rattle.message_types.specs.declared.updates.Update.{Update}
use Rattle.message_types.specs.declared.body.Body.{Body}
use Rattle.message_types.specs.declared.body.Body.TheVariants as body
use Rattle.message_types.specs.Digests.{digest_of_update}
use Rattle.message_types.specs.Parts.{as_frame}
use Rattle.quorum_sets.specs.Masters.{numbers_below}
use Rattle.protocol_rules.specs.Group.{Group}
use Rattle.protocol_rules.specs.Words.{or_else, first_of_list}
use Rattle.protocol_rules.specs.Preorder.{certified}
use Rattle.protocol_rules.specs.Reconcile.{ack_of, request_of, quorum_of_acks}
use Rattle.preorder.specs.Index.{same_ballot}
use Rattle.preorder.proofs.Choice.{same_ballot-same}
use Rattle.protocol_rules.proofs.Keys.{same_vote-same}
use Rattle.protocol_rules.specs.Keys.{Vote, same_vote}
use Rattle.reconcile.specs.GiftState.{GiftState, Ballot, request_at, ack_among, request_with, signed_ack, AreGiftsOf}
use Rattle.reconcile.specs.Giving.{give_with, gift_of}
use Rattle.reconcile.proofs.First.{first_is}
use Rattle.protocol_rules.proofs.FirstMet.{option_map-or_else, stays, taken, none_there, or_else-none}
use Rattle.protocol_rules.proofs.FirstMet.{first_of_list-push}
use Rattle.plain_lists.proofs.Booleans.{regroup}

-- the entries keep what they have, and take the value where the key had none
abbrev pub TakesFirst : {K X : Type 0} → (K → K → Bool) → List (K × X) → List (K × X) → K → X → Type 0
TakesFirst {K} same old new key x = (k : K) → lookup (same k) new ≡ or_else (lookup (same k) old)
    (cond (same key k) (Some x) None)

takes-known : {K X : Type 0} (same : K → K → Bool) → ((x y : K) → same x y ≡ true → x ≡ y) →
    (entries : List (K × X)) (key : K) (x : X) →
    true ≡ is_some (lookup (same key) entries) → TakesFirst same entries entries key x
takes-known same sound entries key x there k =
    stays (same key k) (lookup (same k) entries) x
    (λ e. ap (λ q. is_some (lookup (same q) entries)) (sym (sound key k e)) ∙ sym there)

takes-new : {K X : Type 0} (same : K → K → Bool) → ((x y : K) → same x y ≡ true → x ≡ y) →
    (old new : List (K × X)) (key : K) (x : X) →
    false ≡ is_some (lookup (same key) old) →
    ((k : K) → lookup (same k) new ≡ cond (same key k) (Some x) (lookup (same k) old)) →
    TakesFirst same old new key x
takes-new same sound old new key x none put k =
    put k ∙ taken (same key k) (lookup (same k) old) x
    (λ e. ap (λ q. lookup (same q) old) (sym (sound key k e)) ∙ none_there _ none)

pub request_known : (entries : List (Ballot × Signed PoRequest)) (key : Ballot) (x : Signed PoRequest) →
    true ≡ is_some (lookup (same_ballot key) entries) → TakesFirst same_ballot entries entries key x
request_known = takes-known same_ballot same_ballot-same

pub request_new : (old new : List (Ballot × Signed PoRequest)) (key : Ballot) (x copy : Signed PoRequest) → copy ≡ x →
    false ≡ is_some (lookup (same_ballot key) old) →
    ((k : Ballot) → lookup (same_ballot k) new ≡ cond (same_ballot key k) (Some copy) (lookup (same_ballot k) old)) →
    TakesFirst same_ballot old new key x
request_new old new key x copy equal none put =
    takes-new same_ballot same_ballot-same old new key x none
    (λ k. put k ∙ ap (λ v. cond (same_ballot key k) (Some v) (lookup (same_ballot k) old)) equal)

pub ack_known : (entries : List (Vote × List ℕ)) (key : Vote) (x : List ℕ) →
    true ≡ is_some (lookup (same_vote key) entries) → TakesFirst same_vote entries entries key x
ack_known = takes-known same_vote same_vote-same

pub ack_new : (old new : List (Vote × List ℕ)) (key : Vote) (x copy : List ℕ) → copy ≡ x →
    false ≡ is_some (lookup (same_vote key) old) →
    ((k : Vote) → lookup (same_vote k) new ≡ cond (same_vote key k) (Some copy) (lookup (same_vote k) old)) →
    TakesFirst same_vote old new key x
ack_new old new key x copy equal none put =
    takes-new same_vote same_vote-same old new key x none
    (λ k. put k ∙ ap (λ v. cond (same_vote key k) (Some v) (lookup (same_vote k) old)) equal)

-- a word that isn't asked for changes nothing
pub first-other : {X : Type 0} (f : Signed Body → Option X) (known : List (Signed Body)) (x : Signed Body) →
    f x ≡ None → first_of_list (filter_map f (known ++ x ∷ [])) ≡ first_of_list (filter_map f known)
first-other f known x none = first_of_list-push f known x ∙ ap (or_else (first_of_list (filter_map f known))) none
    ∙ or_else-none (first_of_list (filter_map f known))

pub request_taken : (g : Group) (kept new : GiftState) (known : List (Signed Body)) (x : Signed PoRequest)
    (digest : List ℕ) → digest ≡ digest_of_update x.body.update.body →
    new.masters ≡ kept.masters → new.quorum ≡ kept.quorum → new.acks ≡ kept.acks →
    TakesFirst same_ballot kept.requests new.requests (x.signer, x.body.k, digest) x →
    AreGiftsOf g kept known → AreGiftsOf g new (known ++ as_frame body.PoRequest x ∷ [])
request_taken g kept new known x digest is_digest masters quorum acks takes is = record {
  masters = masters ∙ is.masters;
  quorum = quorum ∙ is.quorum;
  requests = λ j k d. takes (j, k, d)
      ∙ ap (λ o. or_else o (cond (same_ballot (x.signer, x.body.k, digest) (j, k, d)) (Some x) None))
      (is.requests j k d)
      ∙ ap (λ own. or_else (first_of_list (filter_map (request_with j k d) known))
      (cond (same_ballot (x.signer, x.body.k, own) (j, k, d)) (Some x) None)) is_digest
      ∙ sym (first_of_list-push (request_with j k d) known (as_frame body.PoRequest x));
  acks = λ j k d m. ap (λ entries. option_map (signed_ack j k d m) (lookup (same_vote (j, k, d, m)) entries)) acks
      ∙ is.acks j k d m
      ∙ sym (first-other (ack_of j k d m) known (as_frame body.PoRequest x) refl);
}

ack-is : (x : Signed PoAck) (j k : ℕ) (d : List ℕ) (m : ℕ) →
    option_map (signed_ack j k d m) (cond (same_vote (x.body.j, x.body.k, x.body.digest, x.signer) (j, k, d, m))
    (Some x.sig) None) ≡ ack_of j k d m (as_frame body.PoAck x)
ack-is x j k d m = by (same_vote (x.body.j, x.body.k, x.body.digest, x.signer) (j, k, d, m)) refl
    ∙ ap (λ b. cond b (Some x) None)
    (regroup (nat_eq x.signer m) (nat_eq x.body.j j) (nat_eq x.body.k k) (bytes_eq x.body.digest d))
  where
    by : (here : Bool) → same_vote (x.body.j, x.body.k, x.body.digest, x.signer) (j, k, d, m) ≡ here →
        option_map (signed_ack j k d m) (cond here (Some x.sig) None) ≡ cond here (Some x) None
    by false e = refl
    by true e = ap (λ (v : Vote). Some (signed_ack v.0 v.1 v.2 v.3 x.sig))
        (sym (same_vote-same (x.body.j, x.body.k, x.body.digest, x.signer) (j, k, d, m) e))

pub ack_taken : (g : Group) (kept new : GiftState) (known : List (Signed Body)) (x : Signed PoAck) →
    new.masters ≡ kept.masters → new.quorum ≡ kept.quorum → new.requests ≡ kept.requests →
    TakesFirst same_vote kept.acks new.acks (x.body.j, x.body.k, x.body.digest, x.signer) x.sig →
    AreGiftsOf g kept known → AreGiftsOf g new (known ++ as_frame body.PoAck x ∷ [])
ack_taken g kept new known x masters quorum requests takes is = record {
  masters = masters ∙ is.masters;
  quorum = quorum ∙ is.quorum;
  requests = λ j k d. ap (λ entries. lookup (same_ballot (j, k, d)) entries) requests ∙ is.requests j k d
      ∙ sym (first-other (request_with j k d) known (as_frame body.PoAck x) refl);
  acks = λ j k d m. ap (option_map (signed_ack j k d m)) (takes (j, k, d, m))
      ∙ option_map-or_else (signed_ack j k d m) (lookup (same_vote (j, k, d, m)) kept.acks)
      (cond (same_vote (x.body.j, x.body.k, x.body.digest, x.signer) (j, k, d, m)) (Some x.sig) None)
      ∙ ap (λ o. or_else o (option_map (signed_ack j k d m)
      (cond (same_vote (x.body.j, x.body.k, x.body.digest, x.signer) (j, k, d, m)) (Some x.sig) None)))
      (is.acks j k d m)
      ∙ ap (or_else (first_of_list (filter_map (ack_of j k d m) known))) (ack-is x j k d m)
      ∙ sym (first_of_list-push (ack_of j k d m) known (as_frame body.PoAck x));
}

pub none_taken : (g : Group) (kept : GiftState) → kept.masters ≡ g.n → kept.quorum ≡ g.q → kept.requests ≡ [] →
    kept.acks ≡ [] → AreGiftsOf g kept []
none_taken g kept masters quorum requests acks = record {
  masters = masters;
  quorum = quorum;
  requests = λ j k d. ap (λ entries. lookup (same_ballot (j, k, d)) entries) requests;
  acks = λ j k d m. ap (λ entries. option_map (signed_ack j k d m) (lookup (same_vote (j, k, d, m)) entries)) acks;
}

-- the signatures of the q lowest masters that acknowledged it
abbrev pub acks_kept : GiftState → ℕ → ℕ → List ℕ → List (Signed PoAck)
acks_kept kept j k digest = take kept.quorum (filter_map (ack_among kept.acks j k digest) (numbers_below kept.masters))

acks_are : (g : Group) (kept : GiftState) (known : List (Signed Body)) (j k : ℕ) (digest : List ℕ) →
    AreGiftsOf g kept known → acks_kept kept j k digest ≡ quorum_of_acks g known j k digest
acks_are g kept known j k digest is =
    (λ i. take kept.quorum (filter_map (λ m. is.acks j k digest m i) (numbers_below kept.masters)))
    ∙ ap (λ n. take kept.quorum (filter_map (λ m. first_of_list (filter_map (ack_of j k digest m) known))
    (numbers_below n))) is.masters
    ∙ ap (λ q. take q (filter_map (λ m. first_of_list (filter_map (ack_of j k digest m) known)) (numbers_below g.n)))
    is.quorum

pub gift_is : (g : Group) (kept : GiftState) (known : List (Signed Body)) (j k : ℕ) (u : Update) (digest : List ℕ) →
    digest ≡ digest_of_update u → AreGiftsOf g kept known → certified g known j k ≡ Some u →
    option_map (give_with (acks_kept kept j k digest)) (request_at kept (j, k, digest)) ≡ gift_of g known j k u
gift_is g kept known j k u digest is_digest is found =
    ap (λ d. option_map (give_with (acks_kept kept j k d)) (request_at kept (j, k, d))) is_digest
    ∙ ap (option_map (give_with (acks_kept kept j k (digest_of_update u)))) (is.requests j k (digest_of_update u)
    ∙ first_is g known j k u found)
    ∙ ap (λ acks. option_map (give_with acks) (first_of_list (filter_map (request_of j k u) known)))
    (acks_are g kept known j k (digest_of_update u) is)
