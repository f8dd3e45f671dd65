-- The acknowledgements due in turn of a master are those of the numbers after what its lane has seen and up to the first
-- that isn't known: what was seen is acknowledged where it had its turn, and behind a gap nothing has. Once all of them
-- count as said, all that has its turn is acknowledged.
use Rattle.std.proofs.Common.{◌≡◌, ℕ, ◌+◌, ◌-◌, ◌≤◌, ◌<◌, ◌⊎◌, inl, inr, Bool, true, false, cond, ◌||◌, List, []}
use Rattle.std.proofs.Common.{◌++◌, Option, Some, None, is_some, refl, sym, ◌∙◌, ap, arith, true≢false}
use Rattle.std.specs.Prelude.{IsSome}
use Rattle.std.specs.List.{list_any, flat_map}
use Rattle.std.proofs.lemmas.Bool.{false_from_ne_true, or_parts, or_left, or_right}
use Rattle.std.proofs.lemmas.List.Folds.{list_any-append}
use Rattle.message_types.specs.declared.signed.Signed.{Signed}
use Rattle.message_types.specs.declared.body.Body.{Body}
use Rattle.quorum_sets.specs.Masters.{numbers_below}
use Rattle.protocol_rules.specs.Group.{Group, most_number}
use Rattle.protocol_rules.specs.Words.{first_of_list, numbers_from}
use Rattle.protocol_rules.specs.Preorder.{acks, ack_due, requests_said, updates_requested}
use Rattle.protocol_rules.specs.Turns.{first_requested, has_turn, acks_in_turn_due}
use Rattle.preorder.specs.declared.firsts.First.{First}
use Rattle.preorder.specs.Index.{PairMap, at_pair, HasFirsts, IsKnownFirst, HasPending, first_update}
use Rattle.preorder.specs.Lanes.{IsAcknowledged, ack_in_turn_due, lane_acks_due}
use Rattle.preorder.proofs.Introductions.{from_below}
use Rattle.preorder.proofs.Ranges.{narrow, ack_due-none}
use Rattle.preorder.proofs.Others.{pending-same}
use Rattle.preorder.proofs.Settled.{none-in, requests-none-in, ack-requests, ack-there, ack-apart}
use Rattle.preorder.proofs.Turning.{turn-first, turn-known}
use Rattle.protocol_rules.proofs.Numbers.{any-from}

-- a first request is there only for a master of the group and a number in its range
first-placed : (g : Group) (known : List (Signed Body)) (said : List Body) (map : PairMap First) (j k : ℕ) →
    HasFirsts g known said map → IsSome (first_requested known j k) → (j < g.n) × (1 ≤ k) × (k ≤ most_number)
first-placed g known said map j k has there = by (at_pair map (j, k)) (has j k).update (has j k).placed
  where
    by : (first : Option First) → first_update first ≡ first_requested known j k → IsKnownFirst g j k first →
        (j < g.n) × (1 ≤ k) × (k ≤ most_number)
    by None update placed = absurd (true≢false (sym (ap is_some update ∙ there)))
    by (Some f) update placed = placed

off : (g : Group) (known : List (Signed Body)) (said : List Body) (j k : ℕ) → has_turn g known j k ≡ false →
    ack_in_turn_due g known said j k ≡ []
off g known said j k none = ap (λ b. cond b (ack_due known said j k) []) none

-- nothing is due of what was seen
early : (g : Group) (known : List (Signed Body)) (said : List Body) (map : PairMap First) (j seen k : ℕ) →
    HasFirsts g known said map → IsAcknowledged g known said j seen → k ≤ seen → ack_in_turn_due g known said j k ≡ []
early g known said map j seen k has was high = by (has_turn g known j k) refl
  where
    by : (b : Bool) → has_turn g known j k ≡ b → cond b (ack_due known said j k) [] ≡ []
    by false e = refl
    by true e =
        let place = first-placed g known said map j k has (turn-first g known j k e) in
        ack_due-none known said j k (λ pending. true≢false (sym (was k place.1 high e) ∙ pending.1))

-- nor from a number on that isn't known, or behind the last
late : (g : Group) (known : List (Signed Body)) (said : List Body) (map : PairMap First) (j end k : ℕ) →
    HasFirsts g known said map → (most_number ≤ end) ⊎ (first_requested known j (end + 1) ≡ None) → end + 1 ≤ k →
    ack_in_turn_due g known said j k ≡ []
late g known said map j end k has stop low = off g known said j k (false_from_ne_true (has_turn g known j k) (λ turn.
    by stop turn))
  where
    by : (most_number ≤ end) ⊎ (first_requested known j (end + 1) ≡ None) → has_turn g known j k ≡ true → ⊥
    by (inl full) turn =
        let place = first-placed g known said map j k has (turn-first g known j k turn) in
        let limit : k ≤ most_number = place.2 in
        absurd (omega arith)
    by (inr none) turn =
        true≢false (sym (turn-known g known j k (end + 1) turn (omega arith) low) ∙ ap is_some none)

pub lane-all : (g : Group) (known : List (Signed Body)) (said : List Body) (map : PairMap First) (j seen end : ℕ) →
    HasFirsts g known said map → IsAcknowledged g known said j seen → seen ≤ end → end ≤ most_number →
    (most_number ≤ end) ⊎ (first_requested known j (end + 1) ≡ None) →
    flat_map (λ k. ack_in_turn_due g known said j k) (numbers_from (seen + 1) (end - seen))
    ≡ lane_acks_due g known said j
lane-all g known said map j seen end has was less limit stop =
    let count : end + 1 - (seen + 1) ≡ end - seen = omega arith in
    sym (narrow (λ k. ack_in_turn_due g known said j k) most_number (seen + 1) (end + 1) (omega arith) (omega arith)
    (omega arith) (λ k before. early g known said map j seen k has was (omega arith))
    (λ k after. late g known said map j end k has stop after)
    ∙ ap (λ n. flat_map (λ k. ack_in_turn_due g known said j k) (numbers_from (seen + 1) n)) count)

-- all that has its turn is acknowledged once these are said

any-below : {X : Type 0} (p : X → Bool) (f : ℕ → List X) (n k : ℕ) → k < n → list_any p (f k) ≡ true →
    list_any p (flat_map f (numbers_below n)) ≡ true
any-below p f n k below there = ap (λ ns. list_any p (flat_map f ns)) (sym (from_below n))
    ∙ any-from p f 0 n k (omega arith) (omega arith) there

due-there : (g : Group) (known : List (Signed Body)) (said : List Body) (map : PairMap First) (j k : ℕ) →
    HasFirsts g known said map → has_turn g known j k ≡ true → list_any (acks j k) said ≡ false →
    list_any (acks j k) (acks_in_turn_due g known said) ≡ true
due-there g known said map j k has turn unsaid =
    let first = turn-first g known j k turn in
    let place = first-placed g known said map j k has first in
    let limit : k ≤ most_number = place.2 in
    any-below (acks j k) (λ i. lane_acks_due g known said i) g.n j place.0
    (any-from (acks j k) (λ h. ack_in_turn_due g known said j h) 1 most_number k place.1 (omega arith)
    (ap (λ b. list_any (acks j k) (cond b (ack_due known said j k) [])) turn
    ∙ ack-there known said j k (first, unsaid)))

pub turned-said : (g : Group) (known : List (Signed Body)) (said requests more bodies : List Body)
    (map : PairMap First) (j k : ℕ) → bodies ≡ requests ++ (acks_in_turn_due g known said ++ more) → HasFirsts g known said map →
    has_turn g known j k ≡ true → list_any (acks j k) (said ++ bodies) ≡ true
turned-said g known said requests more bodies map j k all has turn =
    list_any-append (acks j k) said bodies ∙ by (list_any (acks j k) said) refl
  where
    by : (b : Bool) → list_any (acks j k) said ≡ b → (b || list_any (acks j k) bodies) ≡ true
    by true e = refl
    by false e = ap (list_any (acks j k)) all
        ∙ list_any-append (acks j k) requests (acks_in_turn_due g known said ++ more)
        ∙ or_right (list_any (acks j k) requests) (list_any (acks j k) (acks_in_turn_due g known said ++ more))
        (list_any-append (acks j k) (acks_in_turn_due g known said) more
        ∙ or_left (list_any (acks j k) (acks_in_turn_due g known said)) (list_any (acks j k) more)
        (due-there g known said map j k has turn e))

-- they acknowledge only what was requested, and request nothing

pub turned-apart : (g : Group) (known : List (Signed Body)) (said : List Body) (j k : ℕ) →
    first_of_list (updates_requested known j k) ≡ None → list_any (acks j k) (acks_in_turn_due g known said) ≡ false
turned-apart g known said j k none =
    none-in (acks j k) (λ i. lane_acks_due g known said i)
    (λ i. none-in (acks j k) (λ h. ack_in_turn_due g known said i h) (λ h. by i h (has_turn g known i h))
    (numbers_from 1 most_number)) (numbers_below g.n)
  where
    by : (i h : ℕ) (b : Bool) → list_any (acks j k) (cond b (ack_due known said i h) []) ≡ false
    by i h true = ack-apart known said j k none i h
    by i h false = refl

pub turned-requests : (g : Group) (known : List (Signed Body)) (said : List Body) →
    requests_said (acks_in_turn_due g known said) ≡ []
turned-requests g known said =
    requests-none-in (λ i. lane_acks_due g known said i)
    (λ i. requests-none-in (λ h. ack_in_turn_due g known said i h) (λ h. by i h (has_turn g known i h))
    (numbers_from 1 most_number)) (numbers_below g.n)
  where
    by : (i h : ℕ) (b : Bool) → requests_said (cond b (ack_due known said i h) []) ≡ []
    by i h true = ack-requests known said i h
    by i h false = refl

-- what was pending may still be
pub pending-say : (known : List (Signed Body)) (said words : List Body) (low high : List ℕ) →
    HasPending known said low high → HasPending known (said ++ words) low high
pending-say known said words low high = pending-same known known said (said ++ words) low high (λ j k pending. (
  pending.0,
  (or_parts (list_any (acks j k) said) (list_any (acks j k) words)
      (sym (list_any-append (acks j k) said words) ∙ pending.1)).0,
))
