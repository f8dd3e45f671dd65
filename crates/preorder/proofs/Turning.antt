-- When a request has its turn: it goes by the first requests known up to its number alone, so what had its turn, or
-- hadn't, stays so; and the lane of a master, which holds what it goes by, tells it for the next number.
use Rattle.std.proofs.Common.{◌≡◌, ◌≢◌, ℕ, zero, suc, ◌+◌, ◌-◌, ◌≤◌, ◌<◌, ◌⊎◌, inl, inr, Bool, true, false, cond}
use Rattle.std.proofs.Common.{◌&&◌, List, [], ◌∷◌, ◌++◌, Option, Some, None, nat_eq, nat_lt, is_some, length, set, max}
use Rattle.std.proofs.Common.{refl, sym, ◌∙◌, ap, subst, arith, get_or-set_same, get_or-set_other, replicate}
use Rattle.std.specs.Prelude.{IsSome, slice_index}
use Rattle.std.specs.List.{list_any, list_all, filter_map, cons_option}
use Rattle.std.proofs.Math.ListN.{length-set}
use Rattle.std.proofs.lemmas.Bool.{cases_eq, cases_lt, eq-eqb, ne_eqb, ltb-true, lt-ltb, and_parts, or_left, false≢true}
use Rattle.std.proofs.lemmas.List.{get_or-replicate}
use Rattle.std.proofs.lemmas.List.Folds.{list_any-append}
use Rattle.message_types.specs.declared.signed.Signed.{Signed}
use Rattle.message_types.specs.declared.updates.Update.{Update}
use Rattle.message_types.specs.declared.body.Body.{Body}
use Rattle.protocol_rules.specs.Group.{Group, most_number, is_door}
use Rattle.protocol_rules.specs.Words.{or_else, greatest_of, numbers_from}
use Rattle.protocol_rules.specs.Preorder.{update_requested, acks}
use Rattle.protocol_rules.specs.Turns.{first_requested, number_for, has_turn}
use Rattle.preorder.specs.declared.lanes.Lane.{Lane}
use Rattle.preorder.specs.Lanes.{greatest_to, IsLane, IsAcknowledged, lane_at, AreLanes, HasLanes}
use Rattle.preorder.proofs.Others.{zeros}
use Rattle.protocol_rules.proofs.FirstMet.{first_of_list-push}
use Rattle.protocol_rules.proofs.Greatest.{or_zero, greatest-push}
use Rattle.protocol_rules.proofs.Numbers.{numbers_from-more, numbers_from-none}

-- tests and finds that are the same at each number

all-same : (p q : ℕ → Bool) (start count : ℕ) → ((i : ℕ) → start ≤ i → i < start + count → p i ≡ q i) →
    list_all p (numbers_from start count) ≡ list_all q (numbers_from start count)
unfolding numbers_from
all-same p q start zero same = refl
all-same p q start (suc count) same =
    let first : p start ≡ q start = same start (omega arith) (omega arith) in
    let rest : list_all p (numbers_from (suc start) count) ≡ list_all q (numbers_from (suc start) count) =
    all-same p q (suc start) count (λ i low high. same i (omega arith) (omega arith)) in
    λ x. first x && rest x

all-true : (p : ℕ → Bool) (start count : ℕ) → ((i : ℕ) → start ≤ i → i < start + count → p i ≡ true) →
    list_all p (numbers_from start count) ≡ true
unfolding numbers_from
all-true p start zero each = refl
all-true p start (suc count) each =
    ap (λ b. b && list_all p (numbers_from (suc start) count)) (each start (omega arith) (omega arith))
    ∙ all-true p (suc start) count (λ i low high. each i (omega arith) (omega arith))

all-at : (p : ℕ → Bool) (start count i : ℕ) → list_all p (numbers_from start count) ≡ true → start ≤ i →
    i < start + count → p i ≡ true
unfolding numbers_from
all-at p start zero i all low high = absurd (omega arith)
all-at p start (suc count) i all low high =
    by (cases_lt start i) (and_parts (p start) (list_all p (numbers_from (suc start) count)) all)
    (λ rest less. all-at p (suc start) count i rest less (omega arith))
  where
    by : (start < i) ⊎ (i ≤ start) → (p start ≡ true) × (list_all p (numbers_from (suc start) count) ≡ true) →
        (list_all p (numbers_from (suc start) count) ≡ true → start < i → p i ≡ true) → p i ≡ true
    by (inl less) parts later = later parts.1 less
    by (inr le) parts later = let same : i ≡ start = omega arith in ap p same ∙ parts.0

found-same : (f h : ℕ → Option ℕ) (start count : ℕ) → ((i : ℕ) → start ≤ i → i < start + count → f i ≡ h i) →
    filter_map f (numbers_from start count) ≡ filter_map h (numbers_from start count)
unfolding numbers_from
found-same f h start zero same = refl
found-same f h start (suc count) same =
    let first : f start ≡ h start = same start (omega arith) (omega arith) in
    let rest : filter_map f (numbers_from (suc start) count) ≡ filter_map h (numbers_from (suc start) count) =
    found-same f h (suc start) count (λ i low high. same i (omega arith) (omega arith)) in
    λ x. cons_option (first x) (rest x)

-- the rules by cases: what is asked of the first request, and of the client's number in it
abbrev pub turn_of : Group → List (Signed Body) → ℕ → ℕ → Option Update → Bool
turn_of g known j k None = false
turn_of g known j k (Some u) = nat_lt u.client g.clients && is_door g u.client j
    && list_all (λ i. is_some (first_requested known j i)) (numbers_from 1 (k - 1))
    && nat_lt (greatest_to known u.client j (k - 1)) u.t

pub turn-is : (g : Group) (known : List (Signed Body)) (j k : ℕ) →
    has_turn g known j k ≡ turn_of g known j k (first_requested known j k)
turn-is g known j k = by (first_requested known j k)
  where
    by : (o : Option Update) → (elim o [
      | None ↦ false
      | Some u ↦ nat_lt u.client g.clients && is_door g u.client j
          && list_all (λ i. is_some (first_requested known j i)) (numbers_from 1 (k - 1))
          && nat_lt (greatest_of (filter_map (number_for known u.client j) (numbers_from 1 (k - 1)))) u.t
    ]) ≡ turn_of g known j k o
    by None = refl
    by (Some u) = refl

abbrev number_of : ℕ → Option Update → Option ℕ
number_of c None = None
number_of c (Some u) = cond (nat_eq u.client c) (Some u.t) None

number-is : (known : List (Signed Body)) (c j k : ℕ) → number_for known c j k ≡ number_of c (first_requested known j k)
number-is known c j k = by (first_requested known j k)
  where
    by : (o : Option Update) → (elim o [
      | None ↦ None
      | Some u ↦ cond (nat_eq u.client c) (Some u.t) None
    ]) ≡ number_of c o
    by None = refl
    by (Some u) = refl

-- a request that has its turn is known
pub turn-first : (g : Group) (known : List (Signed Body)) (j k : ℕ) → has_turn g known j k ≡ true →
    IsSome (first_requested known j k)
turn-first g known j k turn = by (first_requested known j k) (sym (turn-is g known j k) ∙ turn)
  where
    by : (o : Option Update) → turn_of g known j k o ≡ true → IsSome o
    by None bad = absurd (false≢true bad)
    by (Some u) parts = refl

-- and so are all before it
pub turn-known : (g : Group) (known : List (Signed Body)) (j k i : ℕ) → has_turn g known j k ≡ true → 1 ≤ i → i ≤ k →
    IsSome (first_requested known j i)
turn-known g known j k i turn low high =
    by (first_requested known j k) refl (sym (turn-is g known j k) ∙ turn) (cases_lt i k)
  where
    by : (o : Option Update) → first_requested known j k ≡ o → turn_of g known j k o ≡ true → (i < k) ⊎ (k ≤ i) →
        IsSome (first_requested known j i)
    by None is bad place = absurd (false≢true bad)
    by (Some u) is parts (inl less) =
        let most = and_parts (nat_lt u.client g.clients && is_door g u.client j
        && list_all (λ i. is_some (first_requested known j i)) (numbers_from 1 (k - 1)))
        (nat_lt (greatest_to known u.client j (k - 1)) u.t) parts in
        let all = and_parts (nat_lt u.client g.clients && is_door g u.client j)
        (list_all (λ i. is_some (first_requested known j i)) (numbers_from 1 (k - 1))) most.0 in
        all-at (λ i. is_some (first_requested known j i)) 1 (k - 1) i all.1 low (omega arith)
    by (Some u) is parts (inr le) = let same : i ≡ k = omega arith in
        ap (λ h. is_some (first_requested known j h)) same ∙ ap is_some is

greatest-same : (known other : List (Signed Body)) (c j n : ℕ) →
    ((i : ℕ) → 1 ≤ i → i ≤ n → first_requested known j i ≡ first_requested other j i) →
    greatest_to known c j n ≡ greatest_to other c j n
greatest-same known other c j n same = ap greatest_of (found-same (number_for known c j) (number_for other c j) 1 n
    (λ i low high. number-is known c j i ∙ ap (number_of c) (same i low (omega arith)) ∙ sym (number-is other c j i)))

-- it goes by the first requests up to its number
pub turn-same : (g : Group) (known other : List (Signed Body)) (j k : ℕ) → 1 ≤ k →
    ((i : ℕ) → 1 ≤ i → i ≤ k → first_requested known j i ≡ first_requested other j i) →
    has_turn g known j k ≡ has_turn g other j k
turn-same g known other j k one same =
    turn-is g known j k ∙ ap (turn_of g known j k) (same k one (omega arith)) ∙ by (first_requested other j k)
    ∙ sym (turn-is g other j k)
  where
    by : (o : Option Update) → turn_of g known j k o ≡ turn_of g other j k o
    by None = refl
    by (Some u) =
        let all : list_all (λ i. is_some (first_requested known j i)) (numbers_from 1 (k - 1))
        ≡ list_all (λ i. is_some (first_requested other j i)) (numbers_from 1 (k - 1)) =
        all-same (λ i. is_some (first_requested known j i)) (λ i. is_some (first_requested other j i)) 1 (k - 1)
        (λ i low high. ap is_some (same i low (omega arith))) in
        let most : greatest_to known u.client j (k - 1) ≡ greatest_to other u.client j (k - 1) =
        greatest-same known other u.client j (k - 1) (λ i low high. same i low (omega arith)) in
        λ x. nat_lt u.client g.clients && is_door g u.client j && all x && nat_lt (most x) u.t

-- the lane tells it for its next number
pub turn-next : (g : Group) (known : List (Signed Body)) (j : ℕ) (lane : Lane) (u : Update) → IsLane g known j lane →
    first_requested known j (lane.seen + 1) ≡ Some u →
    has_turn g known j (lane.seen + 1)
    ≡ (nat_lt u.client g.clients && is_door g u.client j && nat_lt (slice_index lane.greatest u.client) u.t)
turn-next g known j lane u is first =
    let n = lane.seen in
    let before : n + 1 - 1 ≡ n = omega arith in
    turn-is g known j (n + 1)
    ∙ ap (turn_of g known j (n + 1)) first
    ∙ ap (λ m. nat_lt u.client g.clients && is_door g u.client j
    && list_all (λ i. is_some (first_requested known j i)) (numbers_from 1 m)
    && nat_lt (greatest_to known u.client j m) u.t) before
    ∙ ap (λ b. nat_lt u.client g.clients && is_door g u.client j && b
    && nat_lt (greatest_to known u.client j n) u.t)
    (all-true (λ i. is_some (first_requested known j i)) 1 n (λ i low high. is.without_gap i low (omega arith)))
    ∙ finish (nat_lt u.client g.clients) (is_door g u.client j) (greatest_to known u.client j n)
    (slice_index lane.greatest u.client) u.t
    (λ e. sym (is.greatest u.client (ltb-true u.client g.clients e)))
  where
    finish : (a b : Bool) (x y t : ℕ) → (a ≡ true → x ≡ y) → (a && b && true && nat_lt x t) ≡ (a && b && nat_lt y t)
    finish true true x y t same = ap (λ z. nat_lt z t) (same refl)
    finish true false x y t same = refl
    finish false b x y t same = refl

-- and is one number longer once it passed
pub lane-next : (g : Group) (known : List (Signed Body)) (j : ℕ) (lane after : Lane) (u : Update) → g.clients ≤ 12 →
    lane.seen < most_number → first_requested known j (lane.seen + 1) ≡ Some u →
    after.seen ≡ lane.seen + 1 →
    after.greatest ≡ cond (nat_lt u.client g.clients)
    (set lane.greatest u.client (max (slice_index lane.greatest u.client) u.t)) lane.greatest →
    IsLane g known j lane → IsLane g known j after
lane-next g known j lane after u few room first seen greatest is = record {
  limit = omega arith;
  without_gap = λ k low high. at k low high (cases_lt k (lane.seen + 1));
  clients = ap length greatest ∙ long (nat_lt u.client g.clients) ∙ is.clients;
  greatest = λ c below. ap (λ xs. slice_index xs c) greatest ∙ here c below (cases_eq c u.client)
      ∙ sym (more c) ∙ ap (greatest_to known c j) (sym seen);
}
  where
    at : (k : ℕ) → 1 ≤ k → k ≤ after.seen → (k < lane.seen + 1) ⊎ (lane.seen + 1 ≤ k) →
        IsSome (first_requested known j k)
    at k low high (inl less) = is.without_gap k low (omega arith)
    at k low high (inr le) = let same : k ≡ lane.seen + 1 = omega arith in
        ap (λ h. is_some (first_requested known j h)) same ∙ ap is_some first

    top : ℕ
    top = max (slice_index lane.greatest u.client) u.t

    long : (b : Bool) → length (cond b (set lane.greatest u.client top) lane.greatest) ≡ length lane.greatest
    long true = length-set lane.greatest u.client top
    long false = refl

    more : (c : ℕ) → greatest_to known c j (lane.seen + 1) ≡ max (greatest_to known c j lane.seen)
        (or_zero (cond (nat_eq u.client c) (Some u.t) None))
    more c =
        let next : 1 + lane.seen ≡ lane.seen + 1 = omega arith in
        ap (λ ks. greatest_of (filter_map (number_for known c j) ks)) (numbers_from-more 1 lane.seen)
        ∙ greatest-push (number_for known c j) (numbers_from 1 lane.seen) (1 + lane.seen)
        ∙ ap (λ o. max (greatest_to known c j lane.seen) (or_zero o))
        (ap (number_for known c j) next ∙ number-is known c j (lane.seen + 1) ∙ ap (number_of c) first)

    same_there : (b : Bool) (c : ℕ) → c ≢ u.client →
        slice_index (cond b (set lane.greatest u.client top) lane.greatest) c ≡ slice_index lane.greatest c
    same_there true c ne = get_or-set_other lane.greatest u.client c top 0 ne
    same_there false c ne = refl

    here : (c : ℕ) → c < g.clients → (c ≡ u.client) ⊎ (c ≢ u.client) →
        slice_index (cond (nat_lt u.client g.clients) (set lane.greatest u.client top) lane.greatest) c
        ≡ max (greatest_to known c j lane.seen) (or_zero (cond (nat_eq u.client c) (Some u.t) None))
    here c below (inl e) =
        let size : length lane.greatest ≡ 12 = is.clients in
        let inside : u.client < length lane.greatest = omega arith in
        let low : u.client < g.clients = omega arith in
        let old : slice_index lane.greatest u.client ≡ greatest_to known u.client j lane.seen =
        is.greatest u.client low in
        ap (slice_index (cond (nat_lt u.client g.clients) (set lane.greatest u.client top) lane.greatest)) e
        ∙ ap (λ b. slice_index (cond b (set lane.greatest u.client top) lane.greatest) u.client)
        (lt-ltb u.client g.clients low)
        ∙ get_or-set_same lane.greatest u.client top 0 inside
        ∙ ap (λ x. max x u.t) old
        ∙ ap (λ b. max (greatest_to known u.client j lane.seen) (or_zero (cond b (Some u.t) None)))
        (sym (eq-eqb u.client u.client refl))
        ∙ ap (λ x. max (greatest_to known x j lane.seen) (or_zero (cond (nat_eq u.client x) (Some u.t) None))) (sym e)
    here c below (inr ne) =
        let zero_less : max (greatest_to known c j lane.seen) 0 ≡ greatest_to known c j lane.seen = omega arith in
        same_there (nat_lt u.client g.clients) c ne ∙ is.greatest c below
        ∙ sym zero_less
        ∙ ap (λ b. max (greatest_to known c j lane.seen) (or_zero (cond b (Some u.t) None)))
        (sym (ne_eqb u.client c (λ e. ne (sym e))))

-- lanes where more is known, or said

lane-same : (g : Group) (known other : List (Signed Body)) (j : ℕ) (lane : Lane) →
    ((i : ℕ) → 1 ≤ i → i ≤ lane.seen → first_requested known j i ≡ first_requested other j i) →
    IsLane g known j lane → IsLane g other j lane
lane-same g known other j lane same is = record {
  limit = is.limit;
  without_gap = λ k low high. ap is_some (sym (same k low high)) ∙ is.without_gap k low high;
  clients = is.clients;
  greatest = λ c below. is.greatest c below ∙ greatest-same known other c j lane.seen same;
}

acknowledged-same : (g : Group) (known other : List (Signed Body)) (said words : List Body) (j seen : ℕ) →
    ((i : ℕ) → 1 ≤ i → i ≤ seen → first_requested known j i ≡ first_requested other j i) →
    ((k : ℕ) → list_any (acks j k) said ≡ true → list_any (acks j k) words ≡ true) →
    IsAcknowledged g known said j seen → IsAcknowledged g other words j seen
acknowledged-same g known other said words j seen same stays was k one high turn =
    stays k (was k one high (turn-same g known other j k one (λ i low le. same i low (omega arith)) ∙ turn))

pub lanes-same : (g : Group) (known other : List (Signed Body)) (said words : List Body) (lanes : List Lane) →
    ((j i : ℕ) → j < 14 → 1 ≤ i → i ≤ (lane_at lanes j).seen →
    first_requested known j i ≡ first_requested other j i) →
    ((j k : ℕ) → list_any (acks j k) said ≡ true → list_any (acks j k) words ≡ true) →
    HasLanes g known said lanes → HasLanes g other words lanes
lanes-same g known other said words lanes same stays has = record {
  each = record {
    masters = has.each.masters;
    lane = λ j below. lane-same g known other j (lane_at lanes j) (λ i low high. same j i below low high)
        (has.each.lane j below);
  };
  acknowledged = λ j below. acknowledged-same g known other said words j (lane_at lanes j).seen
      (λ i low high. same j i below low high) (stays j) (has.acknowledged j below);
}

pub first-stays : (known : List (Signed Body)) (f : Signed Body) (j i : ℕ) → IsSome (first_requested known j i) →
    first_requested known j i ≡ first_requested (known ++ f ∷ []) j i
first-stays known f j i there =
    by (first_requested known j i) there ∙ sym (first_of_list-push (update_requested j i) known f)
  where
    by : (o : Option Update) → IsSome o → o ≡ or_else o (update_requested j i f)
    by None bad = absurd (false≢true bad)
    by (Some u) there = refl

pub lanes-learn : (g : Group) (known : List (Signed Body)) (said : List Body) (f : Signed Body) (lanes : List Lane) →
    HasLanes g known said lanes → HasLanes g (known ++ f ∷ []) said lanes
lanes-learn g known said f lanes has =
    lanes-same g known (known ++ f ∷ []) said said lanes
    (λ j i below low high. first-stays known f j i ((has.each.lane j below).without_gap i low high))
    (λ j k there. there) has

pub lanes-say : (g : Group) (known : List (Signed Body)) (said words : List Body) (lanes : List Lane) →
    HasLanes g known said lanes → HasLanes g known (said ++ words) lanes
lanes-say g known said words lanes has =
    lanes-same g known known said (said ++ words) lanes (λ j i below low high. refl)
    (λ j k there. list_any-append (acks j k) said words
    ∙ or_left (list_any (acks j k) said) (list_any (acks j k) words) there) has

-- one lane becomes another
pub lanes-set : (g : Group) (known : List (Signed Body)) (lanes : List Lane) (j : ℕ) (lane : Lane) →
    AreLanes g known lanes → j < 14 → IsLane g known j lane → AreLanes g known (set lanes j lane)
lanes-set g known lanes j lane old small is = record {
  masters = length-set lanes j lane ∙ old.masters;
  lane = λ i below. at i below (cases_eq i j);
}
  where
    at : (i : ℕ) → i < 14 → (i ≡ j) ⊎ (i ≢ j) → IsLane g known i (lane_at (set lanes j lane) i)
    at i below (inl e) =
        let size : length lanes ≡ 14 = old.masters in
        subst (λ x. IsLane g known x (lane_at (set lanes j lane) x)) (sym e)
        (subst (IsLane g known j) (sym (get_or-set_same lanes j lane (record { seen = 0; greatest = [] }) (omega arith)))
        is)
    at i below (inr ne) =
        subst (IsLane g known i) (sym (get_or-set_other lanes j i lane (record { seen = 0; greatest = [] }) ne))
        (old.lane i below)

-- the beginning
pub lanes-begin : (g : Group) (lanes : List Lane) →
    lanes ≡ replicate 14 (record { seen = 0; greatest = replicate 12 0 }) → HasLanes g [] [] lanes
lanes-begin g lanes is = record {
  each = record {
    masters = ap length is;
    lane = λ j below. subst (IsLane g [] j) (sym (at j below)) (empty j);
  };
  acknowledged = λ j below k one high turn.
      let none : (lane_at lanes j).seen ≡ 0 = ap (λ (lane : Lane). lane.seen) (at j below) in absurd (omega arith);
}
  where
    first : Lane
    first = record { seen = 0; greatest = replicate 12 0 }

    at : (j : ℕ) → j < 14 → lane_at lanes j ≡ first
    at j below = ap (λ xs. lane_at xs j) is ∙ get_or-replicate 14 j first (record { seen = 0; greatest = [] }) below

    empty : (j : ℕ) → IsLane g [] j first
    empty j = record {
      limit = omega arith;
      without_gap = λ k low high. absurd (omega arith);
      clients = refl;
      greatest = λ c below. zeros 12 c ∙ sym (ap (λ ks. greatest_of (filter_map (number_for [] c j) ks))
          (numbers_from-none 1));
    }
