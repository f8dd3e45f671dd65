-- All that there may be, in order: the requests of each master, and the numbers.
use Rattle.std.proofs.Common.{◌≡◌, ℕ, zero, suc, ◌+◌, ◌<◌, ◌≤◌, Bool, true, false, ◌||◌, List, [], ◌∷◌, ◌++◌, map}
use Rattle.std.proofs.Common.{nat_lt, refl, ◌∙◌, ap, arith, inl, inr, ◌⊎◌}
use Rattle.std.specs.List.{list_all, flat_map}
use Rattle.std.proofs.lemmas.Bool.{and_from, or_left, or_right, ltb-true, lt-ltb, cases_eq}
use Rattle.std.proofs.lemmas.List.{append-nil}
use Rattle.std.proofs.lemmas.List.Folds.{list_all-append, list_any-append, flat_map-map}
use Rattle.std.proofs.lemmas.Grind.{flat_map-append}
use Rattle.quorum_sets.specs.Masters.{numbers_below}
use Rattle.quorum_sets.proofs.MastersLemmas.{numbers_below-suc}
use Rattle.protocol_rules.specs.Words.{numbers_from}
use Rattle.reconcile.specs.declared.wanted.Wanted.{Wanted}
use Rattle.reconcile.specs.declared.wanted.Wanted.TheVariants.{Request, Number}
use Rattle.reconcile.specs.Asking.{same_wanted, is_among, comes_before}
use Rattle.reconcile.specs.AskState.{AreInOrder}
use Rattle.reconcile.proofs.Sorted.{rows_rise, requests_rise, numbers_rise, among_all, among_first, among_later}
use Rattle.reconcile.proofs.Sorted.{in_order-append}

-- what is made of start, start + 1, .., as many as `count`
abbrev pub row : (ℕ → Wanted) → ℕ → ℕ → List Wanted
row make start count = map make (numbers_from start count)

pub row_all : (make : ℕ → Wanted) (p : Wanted → Bool) (start count : ℕ) →
    ((k : ℕ) → start ≤ k → k < start + count → p (make k) ≡ true) → list_all p (row make start count) ≡ true
unfolding numbers_from
row_all make p start zero each = refl
row_all make p start (suc count) each =
    and_from (p (make start)) (list_all p (row make (suc start) count)) (each start (omega arith) (omega arith))
    (row_all make p (suc start) count (λ k low high. each k (omega arith) (omega arith)))

row_in_order : (make : ℕ → Wanted) → ((a b : ℕ) → a < b → comes_before (make a) (make b) ≡ true) → (start count : ℕ) →
    AreInOrder (row make start count)
unfolding numbers_from
row_in_order make rises start zero = tt
row_in_order make rises start (suc count) = (
  row_all make (comes_before (make start)) (suc start) count (λ k low high. rises start k (omega arith)),
  row_in_order make rises (suc start) count,
)

in_row : (make : ℕ → Wanted) (start count k : ℕ) → start ≤ k → k < start + count →
    is_among (row make start count) (make k) ≡ true
unfolding numbers_from
in_row make start zero k low high = absurd (omega arith)
in_row make start (suc count) k low high =
    by (cases_eq k start) (λ more. in_row make (suc start) count k more (omega arith))
  where
    by : (k ≡ start) ⊎ (k ≡ start → ⊥) → (suc start ≤ k → is_among (row make (suc start) count) (make k) ≡ true) →
        is_among (make start ∷ row make (suc start) count) (make k) ≡ true
    by (inl e) later = ap (λ m. is_among (make start ∷ row make (suc start) count) (make m)) e
        ∙ among_first (make start) (row make (suc start) count)
    by (inr ne) later = among_later (make start) (row make (suc start) count) (make k) (later (more ne))
      where
        more : (k ≡ start → ⊥) → suc start ≤ k
        more ne = omega arith

-- the numbers from 1 to `most`
abbrev pub line : ℕ → List Wanted
line most = row Number 1 most

pub line_in_order : (most : ℕ) → AreInOrder (line most)
line_in_order most = row_in_order Number numbers_rise 1 most

pub in_line : (most s : ℕ) → 1 ≤ s → s ≤ most → is_among (line most) (Number s) ≡ true
in_line most s low high = in_row Number 1 most s low (omega arith)

-- the requests 1 to `most` of each master below n
abbrev pub grid : ℕ → ℕ → List Wanted
grid n most = flat_map (λ j. row (Request j) 1 most) (numbers_below n)

grid_none : (most : ℕ) → grid 0 most ≡ []
unfolding numbers_below
grid_none most = refl

grid_more : (n most : ℕ) → grid (suc n) most ≡ grid n most ++ row (Request n) 1 most
grid_more n most =
    ap (flat_map (λ j. row (Request j) 1 most)) (numbers_below-suc n) ∙ flat_map-append (λ j. row (Request j) 1 most)
    (numbers_below n) (n ∷ [])
    ∙ ap (λ xs. grid n most ++ xs) (append-nil (row (Request n) 1 most))

pub grid_all : (p : Wanted → Bool) (n most : ℕ) → ((j k : ℕ) → j < n → 1 ≤ k → k ≤ most → p (Request j k) ≡ true) →
    list_all p (grid n most) ≡ true
grid_all p zero most each = ap (list_all p) (grid_none most)
grid_all p (suc n) most each =
    ap (list_all p) (grid_more n most) ∙ list_all-append p (grid n most) (row (Request n) 1 most)
    ∙ and_from (list_all p (grid n most)) (list_all p (row (Request n) 1 most))
    (grid_all p n most (λ j k lt low high. each j k (omega arith) low high))
    (row_all (Request n) p 1 most (λ k low high. each n k (omega arith) low (omega arith)))

-- a request of a master below n
abbrev is_below : ℕ → Wanted → Bool
is_below n (Request j k) = nat_lt j n
is_below n (Number s) = false

below_first : (n most : ℕ) (x : Wanted) → is_below n x ≡ true →
    list_all (comes_before x) (row (Request n) 1 most) ≡ true
below_first n most (Request j m) below = row_all (Request n) (comes_before (Request j m)) 1 most
    (λ k low high. rows_rise j m n k (ltb-true j n below))
below_first n most (Number s) below = absurd (cc)

pub grid_in_order : (n most : ℕ) → AreInOrder (grid n most)
grid_in_order zero most = rw (grid_none most) tt
grid_in_order (suc n) most =
    rw (grid_more n most)
    (in_order-append (grid n most) (row (Request n) 1 most) (grid_in_order n most)
    (row_in_order (Request n) (requests_rise n) 1 most)
    (λ x here. below_first n most x
    (among_all (is_below n) (grid n most) (grid_all (is_below n) n most (λ j k lt low high. lt-ltb j n lt))
    x here)))

pub in_grid : (n most j k : ℕ) → j < n → 1 ≤ k → k ≤ most → is_among (grid n most) (Request j k) ≡ true
in_grid zero most j k lt low high = absurd (omega arith)
in_grid (suc n) most j k lt low high =
    ap (λ list. is_among list (Request j k)) (grid_more n most) ∙ list_any-append (same_wanted (Request j k))
    (grid n most) (row (Request n) 1 most) ∙ by (cases_eq j n) (λ less. in_grid n most j k less low high)
  where
    by : (j ≡ n) ⊎ (j ≡ n → ⊥) → (j < n → is_among (grid n most) (Request j k) ≡ true) →
        (is_among (grid n most) (Request j k) || is_among (row (Request n) 1 most) (Request j k)) ≡ true
    by (inl e) earlier =
        or_right (is_among (grid n most) (Request j k)) (is_among (row (Request n) 1 most) (Request j k))
        (ap (λ m. is_among (row (Request n) 1 most) (Request m k)) e ∙ in_row (Request n) 1 most k low (omega arith))
    by (inr ne) earlier = or_left (is_among (grid n most) (Request j k))
        (is_among (row (Request n) 1 most) (Request j k)) (earlier (omega arith))

pub line_gives : {X : Type 0} (F : Wanted → List X) (most : ℕ) →
    flat_map F (line most) ≡ flat_map (λ s. F (Number s)) (numbers_from 1 most)
line_gives F most = flat_map-map F Number (numbers_from 1 most)

flat_map-twice : {X Y Z : Type 0} (f : Y → List Z) (h : X → List Y) (xs : List X) →
    flat_map f (flat_map h xs) ≡ flat_map (λ x. flat_map f (h x)) xs
flat_map-twice f h [] = refl
flat_map-twice f h (x ∷ xs) = flat_map-append f (h x) (flat_map h xs)
    ∙ ap (λ ys. flat_map f (h x) ++ ys) (flat_map-twice f h xs)

pub grid_gives : {X : Type 0} (F : Wanted → List X) (n most : ℕ) →
    flat_map F (grid n most) ≡ flat_map (λ j. flat_map (λ k. F (Request j k)) (numbers_from 1 most)) (numbers_below n)
grid_gives F n most =
    flat_map-twice F (λ j. row (Request j) 1 most) (numbers_below n)
    ∙ (λ i. flat_map (λ j. flat_map-map F (Request j) (numbers_from 1 most) i) (numbers_below n))
