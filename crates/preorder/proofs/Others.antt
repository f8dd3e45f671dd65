-- Words that change nothing of a part of the index, the range of numbers due with one number more, and where the index
-- begins.
use Rattle.std.proofs.Common.{◌≡◌, ◌≢◌, ℕ, zero, suc, ◌+◌, ◌≤◌, ◌<◌, ◌⊎◌, inl, inr, Bool, true, false, cond, List, []}
use Rattle.std.proofs.Common.{◌∷◌, ◌++◌, Option, Some, None, is_some, length, replicate, set, min, max, refl, sym}
use Rattle.std.proofs.Common.{◌∙◌, ap, subst, arith, get_or-set_same, get_or-set_other, true≢false}
use Rattle.std.specs.Prelude.{IsSome, slice_index}
use Rattle.std.specs.Map.{lookup}
use Rattle.std.proofs.lemmas.Bool.{cases_eq}
use Rattle.std.proofs.Math.ListN.{length-set}
use Rattle.std.proofs.lemmas.List.{get_or-replicate}
use Rattle.message_types.specs.declared.signed.Signed.{Signed}
use Rattle.message_types.specs.declared.updates.Update.{Update}
use Rattle.message_types.specs.declared.preordering.PoRequest.{PoRequest}
use Rattle.message_types.specs.declared.body.Body.{Body}
use Rattle.message_types.specs.declared.body.Body.TheVariants as body
use Rattle.message_types.specs.Parts.{as_frame}
use Rattle.protocol_rules.specs.Group.{Group, most_number}
use Rattle.protocol_rules.specs.Words.{or_else, first_of_list, first_met}
use Rattle.protocol_rules.specs.Preorder.{updates_requested, update_requested, certified}
use Rattle.preorder.specs.declared.firsts.First.{First}
use Rattle.preorder.specs.Index.{PairMap, BallotMap, same_pair, at_pair, same_ballot, at_ballot, HasFirsts, HasReach}
use Rattle.preorder.specs.Index.{Reaches, HasPending, IsPending}
use Rattle.protocol_rules.proofs.FirstMet.{first_of_list-push, or_else-none}
use Rattle.protocol_rules.proofs.Keys.{same_pair-same}

first-other : (known : List (Signed Body)) (x : Signed Body) → ((j k : ℕ) → update_requested j k x ≡ None) → (j k : ℕ) →
    first_of_list (updates_requested (known ++ x ∷ []) j k) ≡ first_of_list (updates_requested known j k)
first-other known x none j k = first_of_list-push (update_requested j k) known x
    ∙ ap (or_else (first_of_list (updates_requested known j k))) (none j k) ∙ or_else-none _

pub firsts-other : (g : Group) (known : List (Signed Body)) (said : List Body) (x : Signed Body)
    (map : PairMap First) → ((j k : ℕ) → update_requested j k x ≡ None) →
    HasFirsts g known said map → HasFirsts g (known ++ x ∷ []) said map
firsts-other g known said x map none has j k = record {
  update = (has j k).update ∙ sym (first-other known x none j k);
  acked = (has j k).acked;
  placed = (has j k).placed;
}

-- where nothing more is pending
pub pending-same : (known other : List (Signed Body)) (said words : List Body) (low high : List ℕ) →
    ((j k : ℕ) → IsPending other words j k → IsPending known said j k) →
    HasPending known said low high → HasPending other words low high
pending-same known other said words low high back has = record {
  masters = has.masters;
  from_one = has.from_one;
  low_limit = has.low_limit;
  high_limit = has.high_limit;
  from_low = λ j k below pending. has.from_low j k below (back j k pending);
  below_high = λ j k below pending. has.below_high j k below (back j k pending);
}

pub pending-other : (known : List (Signed Body)) (said : List Body) (x : Signed Body) (low high : List ℕ) →
    ((j k : ℕ) → update_requested j k x ≡ None) →
    HasPending known said low high → HasPending (known ++ x ∷ []) said low high
pending-other known said x low high none =
    pending-same known (known ++ x ∷ []) said said low high
    (λ j k pending. (ap is_some (sym (first-other known x none j k)) ∙ pending.0, pending.1))

-- one more pending number

grown_low : (low : List ℕ) (j k : ℕ) → length low ≡ 14 → j < 14 → (i : ℕ) → (i ≡ j) ⊎ (i ≢ j) →
    slice_index (set low j (min (slice_index low j) k)) i ≤ slice_index low i
grown_low low j k long below i (inl e) =
    let inside : j < length low = omega arith in
    let here : slice_index (set low j (min (slice_index low j) k)) i ≡ min (slice_index low j) k =
    ap (λ x. slice_index (set low j (min (slice_index low j) k)) x) e
    ∙ get_or-set_same low j (min (slice_index low j) k) 0 inside in
    let same : slice_index low i ≡ slice_index low j = ap (slice_index low) e in
    omega arith
grown_low low j k long below i (inr ne) =
    let here : slice_index (set low j (min (slice_index low j) k)) i ≡ slice_index low i =
    get_or-set_other low j i (min (slice_index low j) k) 0 ne in
    omega arith

grown_high : (high : List ℕ) (j k : ℕ) → length high ≡ 14 → j < 14 → (i : ℕ) → (i ≡ j) ⊎ (i ≢ j) →
    slice_index high i ≤ slice_index (set high j (max (slice_index high j) (k + 1))) i
grown_high high j k long below i (inl e) =
    let inside : j < length high = omega arith in
    let here : slice_index (set high j (max (slice_index high j) (k + 1))) i ≡ max (slice_index high j) (k + 1) =
    ap (λ x. slice_index (set high j (max (slice_index high j) (k + 1))) x) e
    ∙ get_or-set_same high j (max (slice_index high j) (k + 1)) 0 inside in
    let same : slice_index high i ≡ slice_index high j = ap (slice_index high) e in
    omega arith
grown_high high j k long below i (inr ne) =
    let here : slice_index (set high j (max (slice_index high j) (k + 1))) i ≡ slice_index high i =
    get_or-set_other high j i (max (slice_index high j) (k + 1)) 0 ne in
    omega arith

at_low : (low : List ℕ) (j k : ℕ) → length low ≡ 14 → j < 14 →
    slice_index (set low j (min (slice_index low j) k)) j ≡ min (slice_index low j) k
at_low low j k long below = let inside : j < length low = omega arith in
    get_or-set_same low j (min (slice_index low j) k) 0 inside

at_high : (high : List ℕ) (j k : ℕ) → length high ≡ 14 → j < 14 →
    slice_index (set high j (max (slice_index high j) (k + 1))) j ≡ max (slice_index high j) (k + 1)
at_high high j k long below = let inside : j < length high = omega arith in
    get_or-set_same high j (max (slice_index high j) (k + 1)) 0 inside

some-of : (old : Option Update) (here : Bool) (u : Update) → IsSome (or_else old (cond here (Some u) None)) →
    IsSome old ⊎ (here ≡ true)
some-of (Some v) here u there = inl refl
some-of None true u there = inr refl
some-of None false u there = absurd (true≢false (sym there))

pub pending-request : (known : List (Signed Body)) (said : List Body) (x : Signed PoRequest) (low high : List ℕ) →
    x.signer < 14 → 1 ≤ x.body.k → x.body.k ≤ most_number →
    HasPending known said low high →
    HasPending (known ++ as_frame body.PoRequest x ∷ []) said
    (set low x.signer (min (slice_index low x.signer) x.body.k))
    (set high x.signer (max (slice_index high x.signer) (x.body.k + 1)))
pending-request known said x low high small one limit has = record {
  masters = (length-set low x.signer _ ∙ has.masters.0, length-set high x.signer _ ∙ has.masters.1);
  from_one = λ i below. one_at i below (cases_eq i x.signer);
  low_limit = λ i below. let le = grown_low low x.signer x.body.k has.masters.0 small i (cases_eq i x.signer) in
      let limits = has.low_limit i below in omega arith;
  high_limit = λ i below. limit_at i below (cases_eq i x.signer);
  from_low = λ i h below pending. covers_low i h below pending (before i h pending);
  below_high = λ i h below pending. covers_high i h below pending (before i h pending);
}
  where
    one_at : (i : ℕ) → i < 14 → (i ≡ x.signer) ⊎ (i ≢ x.signer) →
        1 ≤ slice_index (set low x.signer (min (slice_index low x.signer) x.body.k)) i
    one_at i below (inl e) =
        let here : slice_index (set low x.signer (min (slice_index low x.signer) x.body.k)) i ≡ min
        (slice_index low x.signer) x.body.k =
        ap (λ y. slice_index (set low x.signer (min (slice_index low x.signer) x.body.k)) y) e
        ∙ at_low low x.signer x.body.k has.masters.0 small in
        let old = has.from_one x.signer small in
        omega arith
    one_at i below (inr ne) =
        let here : slice_index (set low x.signer (min (slice_index low x.signer) x.body.k)) i ≡ slice_index low i =
        get_or-set_other low x.signer i (min (slice_index low x.signer) x.body.k) 0 ne in
        let old = has.from_one i below in
        omega arith

    limit_at : (i : ℕ) → i < 14 → (i ≡ x.signer) ⊎ (i ≢ x.signer) →
        slice_index (set high x.signer (max (slice_index high x.signer) (x.body.k + 1))) i ≤ most_number + 1
    limit_at i below (inl e) =
        let here : slice_index (set high x.signer (max (slice_index high x.signer) (x.body.k + 1))) i ≡ max
        (slice_index high x.signer) (x.body.k + 1) =
        ap (λ y. slice_index (set high x.signer (max (slice_index high x.signer) (x.body.k + 1))) y) e
        ∙ at_high high x.signer x.body.k has.masters.1 small in
        let old = has.high_limit x.signer small in
        omega arith
    limit_at i below (inr ne) =
        let here : slice_index (set high x.signer (max (slice_index high x.signer) (x.body.k + 1)))
        i ≡ slice_index high i = get_or-set_other high x.signer i
        (max (slice_index high x.signer) (x.body.k + 1)) 0 ne in
        let old = has.high_limit i below in
        omega arith

    before : (i h : ℕ) → IsPending (known ++ as_frame body.PoRequest x ∷ []) said i h →
        IsSome (first_of_list (updates_requested known i h)) ⊎ (same_pair (x.signer, x.body.k) (i, h) ≡ true)
    before i h pending = some-of (first_of_list (updates_requested known i h)) (same_pair (x.signer, x.body.k) (i, h))
        x.body.update.body
        (ap is_some (sym (first_of_list-push (update_requested i h) known (as_frame body.PoRequest x))) ∙ pending.0)

    covers_low : (i h : ℕ) → i < 14 → IsPending (known ++ as_frame body.PoRequest x ∷ []) said i h →
        IsSome (first_of_list (updates_requested known i h)) ⊎ (same_pair (x.signer, x.body.k) (i, h) ≡ true) →
        slice_index (set low x.signer (min (slice_index low x.signer) x.body.k)) i ≤ h
    covers_low i h below pending (inl old) =
        let le = grown_low low x.signer x.body.k has.masters.0 small i (cases_eq i x.signer) in
        let covered = has.from_low i h below (old, pending.1) in
        omega arith
    covers_low i h below pending (inr here) =
        let key = same_pair-same (x.signer, x.body.k) (i, h) here in
        let signer : x.signer ≡ i = ap (λ (y : ℕ × ℕ). y.0) key in
        let number : x.body.k ≡ h = ap (λ (y : ℕ × ℕ). y.1) key in
        let at : slice_index (set low x.signer (min (slice_index low x.signer) x.body.k)) i ≡ min
        (slice_index low x.signer) x.body.k =
        ap (λ y. slice_index (set low x.signer (min (slice_index low x.signer) x.body.k)) y) (sym signer)
        ∙ at_low low x.signer x.body.k has.masters.0 small in
        omega arith

    covers_high : (i h : ℕ) → i < 14 → IsPending (known ++ as_frame body.PoRequest x ∷ []) said i h →
        IsSome (first_of_list (updates_requested known i h)) ⊎ (same_pair (x.signer, x.body.k) (i, h) ≡ true) →
        h < slice_index (set high x.signer (max (slice_index high x.signer) (x.body.k + 1))) i
    covers_high i h below pending (inl old) =
        let le = grown_high high x.signer x.body.k has.masters.1 small i (cases_eq i x.signer) in
        let covered = has.below_high i h below (old, pending.1) in
        omega arith
    covers_high i h below pending (inr here) =
        let key = same_pair-same (x.signer, x.body.k) (i, h) here in
        let signer : x.signer ≡ i = ap (λ (y : ℕ × ℕ). y.0) key in
        let number : x.body.k ≡ h = ap (λ (y : ℕ × ℕ). y.1) key in
        let at : slice_index (set high x.signer (max (slice_index high x.signer) (x.body.k + 1))) i ≡ max
        (slice_index high x.signer) (x.body.k + 1) =
        ap (λ y. slice_index (set high x.signer (max (slice_index high x.signer) (x.body.k + 1))) y) (sym signer)
        ∙ at_high high x.signer x.body.k has.masters.1 small in
        omega arith

-- the beginning

pub pair-empty : {X : Type 0} (map : PairMap X) (key : ℕ × ℕ) → map ≡ [] → at_pair map key ≡ None
pair-empty map key empty = ap (lookup (same_pair key)) empty

pub ballot-empty : (map : BallotMap) (key : ℕ × ℕ × List ℕ) → map ≡ [] → at_ballot map key ≡ None
ballot-empty map key empty = ap (lookup (same_ballot key)) empty

pub certified-empty : (g : Group) (j k : ℕ) → certified g [] j k ≡ None
unfolding certified first_met
certified-empty g j k = refl

pub zeros : (n i : ℕ) → slice_index (replicate n 0) i ≡ 0
zeros zero i = refl
zeros (suc n) zero = refl
zeros (suc n) (suc i) = zeros n i

pub reach-empty : (g : Group) (reach : List ℕ) → ((j : ℕ) → slice_index reach j ≡ 0) → HasReach g [] reach
reach-empty g reach zero_at j below = subst (Reaches (certified g [] j)) (sym (zero_at j)) (record {
  limit = omega arith;
  without_gap = λ k low high. absurd (omega arith);
  stops = λ less. certified-empty g j 1;
})

pub pending-none : (known : List (Signed Body)) (said : List Body) (low high : List ℕ) → low ≡ replicate 14 4097 →
    high ≡ replicate 14 0 →
    ((j k : ℕ) → IsPending known said j k → ⊥) → HasPending known said low high
unfolding most_number
pending-none known said low high is_low is_high idle = record {
  masters = (ap length is_low, ap length is_high);
  from_one = λ j below. let at = low_at j below in omega arith;
  low_limit = λ j below. let at = low_at j below in omega arith;
  high_limit = λ j below. let at = high_at j below in omega arith;
  from_low = λ j k below pending. absurd (idle j k pending);
  below_high = λ j k below pending. absurd (idle j k pending);
}
  where
    low_at : (j : ℕ) → j < 14 → slice_index low j ≡ 4097
    low_at j below = ap (λ xs. slice_index xs j) is_low ∙ get_or-replicate 14 j 4097 0 below

    high_at : (j : ℕ) → j < 14 → slice_index high j ≡ 0
    high_at j below = ap (λ xs. slice_index xs j) is_high ∙ get_or-replicate 14 j 0 0 below
