-- Numbers from a first on, what is found at them, and lists of them one after the other.
use Rattle.std.proofs.Common.{◌≡◌, ◌⊎◌, ℕ, zero, suc, ◌+◌, ◌<◌, ◌≤◌, Bool, true, false, ◌||◌, List, [], ◌∷◌, ◌++◌}
use Rattle.std.proofs.Common.{Option, None, Some, length, refl, sym, subst, ◌∙◌, ap, inl, inr, arith, add-one}
use Rattle.std.specs.Prelude.{IsSome}
use Rattle.std.specs.List.{flat_map, list_any}
use Rattle.std.proofs.lemmas.Bool.{cases_lt}
use Rattle.std.proofs.lemmas.List.Folds.{list_any-append}
use Rattle.plain_lists.specs.Lists.{IsIn, here, there}
use Rattle.plain_lists.proofs.Members.{none_in, in_cons_cases}
use Rattle.protocol_rules.specs.Words.{numbers_from, run_from}

pub numbers_from-none : (start : ℕ) → numbers_from start 0 ≡ []
unfolding numbers_from
numbers_from-none start = refl

-- so many numbers and one more
pub numbers_from-suc : (start count : ℕ) → numbers_from start (suc count) ≡ numbers_from start count
    ++ (start + count) ∷ []
unfolding numbers_from
numbers_from-suc start zero = let e : start ≡ start + 0 = omega arith in ap (λ n. n ∷ []) e
numbers_from-suc start (suc count) =
    let e : suc start + count ≡ start + suc count = omega arith in
    ap (λ rest. start ∷ rest) (numbers_from-suc (suc start) count
    ∙ ap (λ n. numbers_from (suc start) count ++ n ∷ []) e)

pub numbers-split : (start n m : ℕ) → numbers_from start (n + m) ≡ numbers_from start n ++ numbers_from (start + n) m
unfolding numbers_from
numbers-split start zero m =
    let none : 0 + m ≡ m = omega arith in
    let first : start ≡ start + 0 = omega arith in
    ap (numbers_from start) none ∙ ap (λ s. numbers_from s m) first
numbers-split start (suc n) m =
    let more : suc n + m ≡ suc (n + m) = omega arith in
    let next : suc start + n ≡ start + suc n = omega arith in
    ap (numbers_from start) more ∙ ap (λ xs. start ∷ xs) (numbers-split (suc start) n m)
    ∙ ap (λ s. start ∷ numbers_from (suc start) n ++ numbers_from s m) next

-- a run is no longer than it may be
pub length-run_from : {X : Type 0} (f : ℕ → Option X) (start most : ℕ) → length (run_from f start most) ≤ most
unfolding run_from
length-run_from f start zero = omega arith
length-run_from {X} f start (suc most) = by_found (f start) (length-run_from f (suc start) most)
  where
    by_found : (o : Option X) → length (run_from f (suc start) most) ≤ most →
        length {A = X} (elim o [ None ↦ [] | Some x ↦ x ∷ run_from f (suc start) most ]) ≤ suc most
    by_found None less = omega arith
    by_found (Some x) less = omega arith

-- and as long as it reaches
pub run-length : {X : Type 0} (f : ℕ → Option X) (start most reach : ℕ) → reach ≤ most →
    ((k : ℕ) → start ≤ k → k < start + reach → IsSome (f k)) →
    (reach < most → f (start + reach) ≡ None) → length (run_from f start most) ≡ reach
unfolding run_from
run-length f start zero reach fits some stops = omega arith
run-length {X} f start (suc most) zero fits some stops =
    by (f start) (let e : start ≡ start + 0 = omega arith in ap f e ∙ stops (omega arith))
  where
    by : (o : Option X) → o ≡ None →
        length {A = X} (elim o [ None ↦ [] | Some x ↦ x ∷ run_from f (suc start) most ]) ≡ 0
    by None e = refl
    by (Some x) e = cc
run-length {X} f start (suc most) (suc reach) fits some stops =
    by (f start) (some start (omega arith) (omega arith))
    (run-length f (suc start) most reach (omega arith) (λ k low high. some k (omega arith) (omega arith))
    (λ less. let e : suc start + reach ≡ start + suc reach = omega arith in ap f e ∙ stops (omega arith)))
  where
    by : (o : Option X) → IsSome o → length {A = X} (run_from f (suc start) most) ≡ reach →
        length {A = X} (elim o [ None ↦ [] | Some x ↦ x ∷ run_from f (suc start) most ]) ≡ suc reach
    by None told rest = cc
    by (Some x) told rest = let more : length (x ∷ run_from f (suc start) most) ≡ suc reach = omega arith in more

-- numbers at the beginning for which there is nothing
pub head : {X : Type 0} (f : ℕ → List X) (start skip count : ℕ) → ((k : ℕ) → start ≤ k → k < start + skip → f k ≡ []) →
    flat_map f (numbers_from start (skip + count)) ≡ flat_map f (numbers_from (start + skip) count)
unfolding numbers_from
head f start zero count none =
    let e : start ≡ start + 0 = omega arith in let z : 0 + count ≡ count = omega arith in
    ap (λ n. flat_map f (numbers_from start n)) z ∙ ap (λ s. flat_map f (numbers_from s count)) e
head f start (suc skip) count none =
    let e : suc start + skip ≡ start + suc skip = omega arith in
    let z : suc skip + count ≡ suc (skip + count) = omega arith in
    ap (λ n. flat_map f (numbers_from start n)) z
    ∙ ap (λ xs. xs ++ flat_map f (numbers_from (suc start) (skip + count))) (none start (omega arith) (omega arith))
    ∙ head f (suc start) skip count (λ k low high. none k (omega arith) (omega arith))
    ∙ ap (λ s. flat_map f (numbers_from s count)) e

-- an element of one part is one of the whole
pub any-from : {X : Type 0} (p : X → Bool) (f : ℕ → List X) (start count k : ℕ) → start ≤ k → k < start + count →
    list_any p (f k) ≡ true →
    list_any p (flat_map f (numbers_from start count)) ≡ true
unfolding numbers_from
any-from p f start zero k low high told = absurd (omega arith)
any-from p f start (suc count) k low high told =
    list_any-append p (f start) (flat_map f (numbers_from (suc start) count))
    ∙ by (cases_lt start k) (λ less. any-from p f (suc start) count k less (omega arith) told)
  where
    either : (a : Bool) → (a || true) ≡ true
    either true = refl
    either false = refl

    by : (start < k) ⊎ (k ≤ start) → (suc start ≤ k → list_any p (flat_map f (numbers_from (suc start) count)) ≡ true) →
        (list_any p (f start) || list_any p (flat_map f (numbers_from (suc start) count))) ≡ true
    by (inl less) more = ap (λ b. list_any p (f start) || b) (more less) ∙ either (list_any p (f start))
    by (inr le) more = let same : k ≡ start = omega arith in
        ap (λ b. b || list_any p (flat_map f (numbers_from (suc start) count)))
        (ap (λ n. list_any p (f n)) (sym same) ∙ told)

pub length-numbers_from : (start count : ℕ) → length (numbers_from start count) ≡ count
unfolding numbers_from
length-numbers_from start zero = refl
length-numbers_from start (suc count) = ap suc (length-numbers_from (suc start) count)

pub numbers_from-more : (start count : ℕ) → numbers_from start (count + 1) ≡ numbers_from start count
    ++ (start + count) ∷ []
numbers_from-more start count = ap (numbers_from start) (add-one count) ∙ numbers_from-suc start count

pub flat_map-none : {X : Type 0} (f : ℕ → List X) (start : ℕ) → flat_map f (numbers_from start 0) ≡ []
unfolding numbers_from
flat_map-none f start = refl

-- which numbers these are
pub from_below : (start count s : ℕ) → IsIn s (numbers_from start count) → s < start + count
unfolding numbers_from
from_below start zero s h = absurd (none_in h)
from_below start (suc count) s h = elim (in_cons_cases h) [
  | inl e ↦ omega arith
  | inr later ↦ let below : s < suc start + count = from_below (suc start) count s later in omega arith
]

pub from_in : (start count s : ℕ) → start ≤ s → s < start + count → IsIn s (numbers_from start count)
unfolding numbers_from
from_in start zero s above below = absurd (omega arith)
from_in start (suc count) s above below =
    by_place (cases_lt start s) (λ lt. from_in (suc start) count s lt (omega arith))
  where
    by_place : (start < s) ⊎ (s ≤ start) → (start < s → IsIn s (numbers_from (suc start) count)) →
        IsIn s (start ∷ numbers_from (suc start) count)
    by_place (inl lt) later = there start (numbers_from (suc start) count) (later lt)
    by_place (inr le) later = let same : s ≡ start = omega arith in
        subst (λ (x : ℕ). IsIn s (x ∷ numbers_from (suc start) count)) same (here (numbers_from (suc start) count))

pub from_above : (start count s : ℕ) → IsIn s (numbers_from start count) → start ≤ s
unfolding numbers_from
from_above start zero s h = absurd (none_in h)
from_above start (suc count) s h = elim (in_cons_cases h) [
  | inl e ↦ omega arith
  | inr later ↦ let above : suc start ≤ s = from_above (suc start) count s later in omega arith
]
