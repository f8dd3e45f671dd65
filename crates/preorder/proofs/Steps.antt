-- What one frame or word more changes of the index: where its key has a value the first stays, else it is taken.
use Rattle.std.proofs.Common.{◌≡◌, ℕ, ◌^◌, ◌≤◌, ◌<◌, Bool, true, false, cond, ◌&&◌, ◌||◌, List, [], ◌∷◌, ◌++◌, Option}
use Rattle.std.proofs.Common.{Some, None, nat_eq, is_some, refl, sym, ◌∙◌, ap, arith, subst}
use Rattle.std.specs.List.{filter_map, find, list_any, cons_option}
use Rattle.std.specs.Str.{bytes_eq}
use Rattle.std.proofs.Math.Bool.{or-false}
use Rattle.std.proofs.lemmas.Bool.{and_right}
use Rattle.message_types.specs.declared.signed.Signed.{Signed}
use Rattle.message_types.specs.declared.updates.Update.{Update}
use Rattle.message_types.specs.declared.preordering.PoRequest.{PoRequest}
use Rattle.message_types.specs.declared.preordering.PoAck.{PoAck}
use Rattle.message_types.specs.declared.body.Body.{Body}
use Rattle.message_types.specs.declared.body.Body.TheVariants as body
use Rattle.message_types.specs.Digests.{digest_of_update}
use Rattle.message_types.specs.Parts.{as_frame}
use Rattle.quorum_sets.specs.Masters.{has_master}
use Rattle.protocol_rules.specs.Group.{Group, most_number}
use Rattle.protocol_rules.specs.Words.{or_else, first_of_list}
use Rattle.protocol_rules.specs.Preorder.{update_of, updates_requested, update_requested, is_ack}
use Rattle.preorder.specs.declared.firsts.First.{First}
use Rattle.preorder.specs.declared.ballots.Ballot.{Ballot}
use Rattle.preorder.specs.Index.{PairMap, BallotMap, same_pair, at_pair, same_ballot, at_ballot, HasUpdates, HasNumbers}
use Rattle.preorder.specs.Index.{HasFirsts, IsKnownFirst, HasBallots, has_digest, first_update, ballot_update}
use Rattle.preorder.specs.Index.{ballot_has, is_settled}
use Rattle.preorder.proofs.Choice.{same_ballot-same}
use Rattle.preorder.proofs.Choice.{find-push, list_any-push}
use Rattle.protocol_rules.proofs.Keys.{same_pair-same}
use Rattle.protocol_rules.proofs.FirstMet.{stays, taken, none_there, first_of_list-push, or_else-none}
use Rattle.plain_lists.proofs.Booleans.{nat_eq-flipped}

-- updates

pub has_updates-known : (frames : List (Signed Body)) (x : Signed Update) (map : PairMap (Signed Update)) →
    true ≡ is_some (at_pair map (x.body.client, x.body.t)) → HasUpdates frames map →
    HasUpdates (frames ++ as_frame body.Update x ∷ []) map
has_updates-known frames x map there has c t =
    let here = same_pair (x.body.client, x.body.t) (c, t) in
    has c t
    ∙ stays here (first_of_list (filter_map (update_of c t) frames)) x
    (λ e. ap is_some (sym (has c t)) ∙ ap (λ k. is_some (at_pair map k)) (sym (same_pair-same _ _ e)) ∙ sym there)
    ∙ sym (first_of_list-push (update_of c t) frames (as_frame body.Update x))

pub has_updates-new : (frames : List (Signed Body)) (x copy : Signed Update) (map after : PairMap (Signed Update)) →
    copy ≡ x →
    false ≡ is_some (at_pair map (x.body.client, x.body.t)) →
    ((k : ℕ × ℕ) → at_pair after k ≡ cond (same_pair (x.body.client, x.body.t) k) (Some copy) (at_pair map k)) →
    HasUpdates frames map → HasUpdates (frames ++ as_frame body.Update x ∷ []) after
has_updates-new frames x copy map after equal none put has c t =
    let here = same_pair (x.body.client, x.body.t) (c, t) in
    put (c, t)
    ∙ ap (λ v. cond here (Some v) (at_pair map (c, t))) equal
    ∙ taken here (at_pair map (c, t)) x (λ e. ap (at_pair map) (sym (same_pair-same _ _ e)) ∙ none_there _ none)
    ∙ ap (λ old. or_else old (cond here (Some x) None)) (has c t)
    ∙ sym (first_of_list-push (update_of c t) frames (as_frame body.Update x))

pub has_numbers-new : (client number : ℕ) (copy : Signed Update) (map after : PairMap (Signed Update)) →
    number < 2 ^ 64 →
    ((k : ℕ × ℕ) → at_pair after k ≡ cond (same_pair (client, number) k) (Some copy) (at_pair map k)) →
    HasNumbers map → HasNumbers after
has_numbers-new client number copy map after fits put has c t high =
    put (c, t) ∙ by (same_pair (client, number) (c, t)) refl
  where
    by : (here : Bool) → same_pair (client, number) (c, t) ≡ here →
        cond here (Some copy) (at_pair map (c, t)) ≡ None
    by true e =
        let same : number ≡ t = ap (λ (k : ℕ × ℕ). k.1) (same_pair-same (client, number) (c, t) e) in
        absurd (omega arith)
    by false e = has c t high

-- first requests

first_update-cond : (here : Bool) (first : First) (old : Option First) →
    first_update (cond here (Some first) old) ≡ cond here (Some first.update) (first_update old)
first_update-cond true first old = refl
first_update-cond false first old = refl

first_update-some : (o : Option First) → is_some (first_update o) ≡ is_some o
first_update-some None = refl
first_update-some (Some first) = refl

-- a request for a number that has one changes no first request
pub has_firsts-known : (g : Group) (known : List (Signed Body)) (said : List Body) (x : Signed PoRequest)
    (map : PairMap First) →
    true ≡ is_some (at_pair map (x.signer, x.body.k)) → HasFirsts g known said map →
    HasFirsts g (known ++ as_frame body.PoRequest x ∷ []) said map
has_firsts-known g known said x map there has j k =
    let here = same_pair (x.signer, x.body.k) (j, k) in
    let old = has j k in
    record {
      update = old.update
          ∙ stays here (first_of_list (updates_requested known j k)) x.body.update.body
          (λ e. ap is_some (sym old.update) ∙ first_update-some (at_pair map (j, k))
          ∙ ap (λ key. is_some (at_pair map key)) (sym (same_pair-same _ _ e)) ∙ sym there)
          ∙ sym (first_of_list-push (update_requested j k) known (as_frame body.PoRequest x));
      acked = old.acked;
      placed = old.placed;
    }

-- a first request for its number is noted as one for which nothing was said yet
pub has_firsts-new : (g : Group) (known : List (Signed Body)) (said : List Body) (x : Signed PoRequest)
    (first : First) (map after : PairMap First) →
    first.update ≡ x.body.update.body → first.acked ≡ false → x.signer < g.n → 1 ≤ x.body.k → x.body.k ≤ most_number →
    false ≡ is_some (at_pair map (x.signer, x.body.k)) →
    ((key : ℕ × ℕ) → at_pair after key ≡ cond (same_pair (x.signer, x.body.k) key) (Some first) (at_pair map key)) →
    HasFirsts g known said map → HasFirsts g (known ++ as_frame body.PoRequest x ∷ []) said after
has_firsts-new g known said x first map after update acked below low high none put has j k =
    let here = same_pair (x.signer, x.body.k) (j, k) in
    let old = has j k in
    let empty : here ≡ true → at_pair map (j, k) ≡ None = λ e. ap (at_pair map) (sym (same_pair-same _ _ e))
    ∙ none_there _ none in
    record {
      update = ap first_update (put (j, k)) ∙ first_update-cond here first (at_pair map (j, k))
          ∙ ap (λ u. cond here (Some u) (first_update (at_pair map (j, k)))) update
          ∙ taken here (first_update (at_pair map (j, k))) x.body.update.body (λ e. ap first_update (empty e))
          ∙ ap (λ was. or_else was (cond here (Some x.body.update.body) None)) old.update
          ∙ sym (first_of_list-push (update_requested j k) known (as_frame body.PoRequest x));
      acked = old.acked ∙ settled here refl ∙ ap is_settled (sym (put (j, k)));
      placed = subst (IsKnownFirst g j k) (sym (put (j, k))) (in_range here refl);
    }
  where
    settled : (here : Bool) → same_pair (x.signer, x.body.k) (j, k) ≡ here →
        is_settled (at_pair map (j, k)) ≡ is_settled (cond here (Some first) (at_pair map (j, k)))
    settled true e =
        ap is_settled (ap (at_pair map) (sym (same_pair-same _ _ e)) ∙ none_there _ none) ∙ sym acked
    settled false e = refl

    in_range : (here : Bool) → same_pair (x.signer, x.body.k) (j, k) ≡ here →
        IsKnownFirst g j k (cond here (Some first) (at_pair map (j, k)))
    in_range true e =
        let same = same_pair-same (x.signer, x.body.k) (j, k) e in
        let signer : x.signer ≡ j = ap (λ (key : ℕ × ℕ). key.0) same in
        let number : x.body.k ≡ k = ap (λ (key : ℕ × ℕ). key.1) same in
        (omega arith, omega arith, rw (← number) high)
    in_range false e = (has j k).placed

-- ballots

ballot_update-cond : (here : Bool) (ballot : Ballot) (old : Option Ballot) →
    ballot_update (cond here (Some ballot) old) ≡ cond here ballot.update (ballot_update old)
ballot_update-cond true ballot old = refl
ballot_update-cond false ballot old = refl

ballot_has-cond : (here : Bool) (ballot : Ballot) (old : Option Ballot) (m : ℕ) →
    ballot_has (cond here (Some ballot) old) m ≡ cond here (has_master ballot.voters m) (ballot_has old m)
ballot_has-cond true ballot old m = refl
ballot_has-cond false ballot old m = refl

-- what a request adds to the updates of its number that have its digest
pub requested-push : (known : List (Signed Body)) (x : Signed PoRequest) (j k : ℕ) (digest : List ℕ) →
    find (has_digest digest) (updates_requested (known ++ as_frame body.PoRequest x ∷ []) j k)
    ≡ or_else (find (has_digest digest) (updates_requested known j k))
    (cond (same_ballot (x.signer, x.body.k, digest_of_update x.body.update.body) (j, k, digest))
    (Some x.body.update.body) None)
requested-push known x j k digest =
    find-push (has_digest digest) (update_requested j k) known (as_frame body.PoRequest x)
    ∙ ap (or_else (find (has_digest digest) (updates_requested known j k)))
    (by (nat_eq x.signer j && nat_eq x.body.k k))
  where
    by : (b : Bool) → find (has_digest digest) (cons_option (cond b (Some x.body.update.body) None) [])
        ≡ cond (b && bytes_eq (digest_of_update x.body.update.body) digest) (Some x.body.update.body) None
    by true = refl
    by false = refl

no_vote-request : (known : List (Signed Body)) (x : Signed PoRequest) (j k m : ℕ) (digest : List ℕ) →
    list_any (is_ack j k digest m) (known ++ as_frame body.PoRequest x ∷ []) ≡ list_any (is_ack j k digest m) known
no_vote-request known x j k m digest = list_any-push (is_ack j k digest m) known (as_frame body.PoRequest x)
    ∙ or-false _

pub has_ballots-known : (known : List (Signed Body)) (x : Signed PoRequest) (digest : List ℕ) (map : BallotMap) →
    digest ≡ digest_of_update x.body.update.body →
    true ≡ is_some (ballot_update (at_ballot map (x.signer, x.body.k, digest))) →
    HasBallots known map → HasBallots (known ++ as_frame body.PoRequest x ∷ []) map
has_ballots-known known x digest map is_digest there has j k d =
    let key : ℕ × ℕ × List ℕ = (x.signer, x.body.k, digest_of_update x.body.update.body) in
    let here = same_ballot key (j, k, d) in
    let old = has j k d in
    record {
      update = old.update
          ∙ stays here (find (has_digest d) (updates_requested known j k)) x.body.update.body
          (λ e. ap is_some (sym old.update) ∙ ap (λ at. is_some (ballot_update (at_ballot map at)))
          (sym (same_ballot-same key (j, k, d) e))
          ∙ ap (λ dd. is_some (ballot_update (at_ballot map (x.signer, x.body.k, dd)))) (sym is_digest) ∙ sym there)
          ∙ sym (requested-push known x j k d);
      voters = λ m below. old.voters m below ∙ sym (no_vote-request known x j k m d);
    }

pub has_ballots-requested : (known : List (Signed Body)) (x : Signed PoRequest) (digest : List ℕ) (ballot : Ballot)
    (map after : BallotMap) →
    digest ≡ digest_of_update x.body.update.body →
    ballot.update ≡ Some x.body.update.body →
    ((m : ℕ) → m < 14 → has_master ballot.voters m ≡ ballot_has (at_ballot map (x.signer, x.body.k, digest)) m) →
    ballot_update (at_ballot map (x.signer, x.body.k, digest)) ≡ None →
    ((key : ℕ × ℕ × List ℕ) → at_ballot after key ≡ cond (same_ballot (x.signer, x.body.k, digest) key)
    (Some ballot) (at_ballot map key)) →
    HasBallots known map → HasBallots (known ++ as_frame body.PoRequest x ∷ []) after
has_ballots-requested known x digest ballot map after is_digest update voters none put has j k d =
    let here = same_ballot (x.signer, x.body.k, digest) (j, k, d) in
    let old = has j k d in
    record {
      update = ap ballot_update (put (j, k, d)) ∙ ballot_update-cond here ballot (at_ballot map (j, k, d))
          ∙ ap (λ u. cond here u (ballot_update (at_ballot map (j, k, d)))) update
          ∙ taken here (ballot_update (at_ballot map (j, k, d))) x.body.update.body
          (λ e. ap (λ at. ballot_update (at_ballot map at))
          (sym (same_ballot-same (x.signer, x.body.k, digest) (j, k, d) e)) ∙ none)
          ∙ ap (λ was. or_else was (cond here (Some x.body.update.body) None)) old.update
          ∙ ap (λ dd. or_else (find (has_digest d) (updates_requested known j k))
          (cond (same_ballot (x.signer, x.body.k, dd) (j, k, d)) (Some x.body.update.body) None)) is_digest
          ∙ sym (requested-push known x j k d);
      voters = λ m below. ap (λ o. ballot_has o m) (put (j, k, d))
          ∙ ballot_has-cond here ballot (at_ballot map (j, k, d)) m
          ∙ same_voters here refl m below ∙ old.voters m below ∙ sym (no_vote-request known x j k m d);
    }
  where
    same_voters : (here : Bool) → same_ballot (x.signer, x.body.k, digest) (j, k, d) ≡ here → (m : ℕ) → m < 14 →
        cond here (has_master ballot.voters m) (ballot_has (at_ballot map (j, k, d)) m) ≡ ballot_has
        (at_ballot map (j, k, d)) m
    same_voters true e m below = voters m below ∙ ap (λ at. ballot_has (at_ballot map at) m)
        (same_ballot-same (x.signer, x.body.k, digest) (j, k, d) e)
    same_voters false e m below = refl

-- a vote
pub has_ballots-voted : (known : List (Signed Body)) (x : Signed PoAck) (ballot : Ballot) (map after : BallotMap) →
    ballot.update ≡ ballot_update (at_ballot map (x.body.j, x.body.k, x.body.digest)) →
    ((m : ℕ) → m < 14 → has_master ballot.voters m ≡ (nat_eq m x.signer
    || ballot_has (at_ballot map (x.body.j, x.body.k, x.body.digest)) m)) →
    ((key : ℕ × ℕ × List ℕ) → at_ballot after key ≡ cond (same_ballot (x.body.j, x.body.k, x.body.digest) key)
    (Some ballot) (at_ballot map key)) →
    HasBallots known map → HasBallots (known ++ as_frame body.PoAck x ∷ []) after
has_ballots-voted known x ballot map after update voters put has j k d =
    let here = same_ballot (x.body.j, x.body.k, x.body.digest) (j, k, d) in
    let old = has j k d in
    record {
      update = ap ballot_update (put (j, k, d)) ∙ ballot_update-cond here ballot (at_ballot map (j, k, d))
          ∙ same_update here refl ∙ old.update
          ∙ sym (find-push (has_digest d) (update_requested j k) known (as_frame body.PoAck x) ∙ or_else-none _);
      voters = λ m below. ap (λ o. ballot_has o m) (put (j, k, d))
          ∙ ballot_has-cond here ballot (at_ballot map (j, k, d)) m
          ∙ with_vote here refl m below ∙ ap (λ b. b || (nat_eq x.signer m && here)) (old.voters m below)
          ∙ ap (λ b. list_any (is_ack j k d m) known || b)
          (regroup (nat_eq x.signer m) (nat_eq x.body.j j) (nat_eq x.body.k k) (bytes_eq x.body.digest d))
          ∙ sym (list_any-push (is_ack j k d m) known (as_frame body.PoAck x));
    }
  where
    regroup : (a b c e : Bool) → (a && ((b && c) && e)) ≡ (((a && b) && c) && e)
    regroup true b c e = refl
    regroup false b c e = refl

    same_update : (here : Bool) → same_ballot (x.body.j, x.body.k, x.body.digest) (j, k, d) ≡ here →
        cond here ballot.update (ballot_update (at_ballot map (j, k, d))) ≡ ballot_update (at_ballot map (j, k, d))
    same_update true e = update ∙ ap (λ at. ballot_update (at_ballot map at))
        (same_ballot-same (x.body.j, x.body.k, x.body.digest) (j, k, d) e)
    same_update false e = refl

    swap : (a b : Bool) → (a || b) ≡ (b || (a && true))
    swap true true = refl
    swap true false = refl
    swap false true = refl
    swap false false = refl

    with_vote : (here : Bool) → same_ballot (x.body.j, x.body.k, x.body.digest) (j, k, d) ≡ here → (m : ℕ) → m < 14 →
        cond here (has_master ballot.voters m) (ballot_has (at_ballot map (j, k, d)) m) ≡
        (ballot_has (at_ballot map (j, k, d)) m || (nat_eq x.signer m && here))
    with_vote true e m below =
        voters m below ∙ ap (λ at. nat_eq m x.signer || ballot_has (at_ballot map at) m)
        (same_ballot-same (x.body.j, x.body.k, x.body.digest) (j, k, d) e)
        ∙ swap (nat_eq m x.signer) (ballot_has (at_ballot map (j, k, d)) m)
        ∙ ap (λ b. ballot_has (at_ballot map (j, k, d)) m || (b && true)) (nat_eq-flipped m x.signer)
    with_vote false e m below =
        sym (ap (λ b. ballot_has (at_ballot map (j, k, d)) m || b) (and_right (nat_eq x.signer m) false refl)
        ∙ or-false _)
