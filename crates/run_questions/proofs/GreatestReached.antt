-- The q-th greatest of some numbers, by how many of them reach a number.
use Rattle.std.proofs.Common.{◌≡◌, ℕ, ◌≤◌, true, List, [], ◌∷◌, nat_le, filter, length, refl, sym, ◌∙◌, ap, subst}
use Rattle.std.proofs.Common.{inl, inr, arith}
use Rattle.std.proofs.lemmas.Bool.{cases_lt, le-leb, leb-true}
use Rattle.plain_lists.specs.Lists.{IsIn, here, there}
use Rattle.plain_lists.proofs.Members.{in_cons_cases, in_filter, in_filter_from, none_in}
use Rattle.agreement.proofs.PlannedRows.{greatest_above}
use Rattle.protocol_rules.specs.Words.{greatest_of, greatest_reached}
use Rattle.run_questions.proofs.FilteredBoth.{filter_fewer}

-- how many of the numbers reach a number
abbrev how_many : ℕ → List ℕ → ℕ
how_many x numbers = length (filter (λ y. nat_le x y) numbers)

abbrev one_as_great_in : ℕ → List ℕ → Type 0
one_as_great_in x xs = (z : ℕ) × IsIn z xs × (x ≤ z)

-- where the greatest reaches a number above 0, one of them does
one_as_great : (x : ℕ) (xs : List ℕ) → 1 ≤ x → x ≤ greatest_of xs → one_as_great_in x xs
one_as_great x [] some low = absurd (omega arith)
one_as_great x (y ∷ ys) some low = elim (cases_lt y x) [
  | inl less ↦
      let behind = one_as_great x ys some (omega arith) in
      (behind.0, there y ys behind.1, behind.2)
  | inr more ↦ (y, here ys, more)
]

abbrev least_in : List ℕ → Type 0
least_in xs = (m : ℕ) × IsIn m xs × ((y : ℕ) → IsIn y xs → m ≤ y)

least : (x : ℕ) (xs : List ℕ) → least_in (x ∷ xs)
least x [] = (x, here [], λ y h. elim (in_cons_cases h) [ inl is ↦ omega arith | inr none ↦ absurd (none_in none) ])
least x (z ∷ zs) = by (least z zs)
  where
    by : least_in (z ∷ zs) → least_in (x ∷ z ∷ zs)
    by l = elim (cases_lt l.0 x) [
      | inl less ↦ (
        l.0,
        there x (z ∷ zs) l.1,
        λ y h. elim (in_cons_cases h) [ inl is ↦ omega arith | inr behind ↦ l.2 y behind ],
      )
      | inr more ↦ (
        x,
        here (z ∷ zs),
        λ y h. elim (in_cons_cases h) [
          | inl is ↦ omega arith
          | inr behind ↦ let far =
              l.2 y behind in omega arith
        ],
      )
    ]

-- where the q-th greatest reaches a number above 0, q of them do
pub reached-up : (q x : ℕ) (numbers : List ℕ) → 1 ≤ x → x ≤ greatest_reached q numbers → q ≤ how_many x numbers
reached-up q x numbers some low =
    let one = one_as_great x (filter (λ z. nat_le q (how_many z numbers)) numbers) some low in
    let among = in_filter_from (λ z. nat_le q (how_many z numbers)) numbers one.1 in
    let enough : q ≤ how_many one.0 numbers = leb-true q (how_many one.0 numbers) among.1 in
    let fewer : how_many one.0 numbers ≤ how_many x numbers =
    filter_fewer (λ y. nat_le one.0 y) (λ y. nat_le x y) numbers (λ y k far. further x one.0 y one.2 far) in
    omega arith
  where
    further : (x z y : ℕ) → x ≤ z → nat_le z y ≡ true → nat_le x y ≡ true
    further x z y less far = let at : z ≤ y = leb-true z y far in le-leb x y (omega arith)

abbrev reached_of : ℕ → List ℕ → List ℕ
reached_of q numbers = filter (λ z. nat_le q (how_many z numbers)) numbers

-- the least of those that reach a number is reached by as many
by_least : (q x : ℕ) (numbers far : List ℕ) → filter (λ y. nat_le x y) numbers ≡ far → q ≤ how_many x numbers →
    least_in far → x ≤ greatest_of (reached_of q numbers)
by_least q x numbers far e many l =
    let from = in_filter_from (λ y. nat_le x y) numbers (subst (IsIn l.0) (sym e) l.1) in
    let low : x ≤ l.0 = leb-true x l.0 from.1 in
    let fewer : how_many x numbers ≤ how_many l.0 numbers =
    filter_fewer (λ y. nat_le x y) (λ y. nat_le l.0 y) numbers
    (λ y k reaches. le-leb l.0 y (l.2 y (subst (IsIn y) e (in_filter (λ t. nat_le x t) k reaches)))) in
    let taken : IsIn l.0 (reached_of q numbers) = in_filter (λ z. nat_le q (how_many z numbers)) from.0
    (le-leb q (how_many l.0 numbers) (omega arith)) in
    let above : l.0 ≤ greatest_of (reached_of q numbers) = greatest_above l.0 (reached_of q numbers) taken in
    omega arith

-- where q of them reach a number, the q-th greatest does
pub reached-down : (q x : ℕ) (numbers : List ℕ) → 1 ≤ q → q ≤ how_many x numbers → x ≤ greatest_reached q numbers
reached-down q x numbers some many = by (filter (λ y. nat_le x y) numbers) refl
  where
    by : (far : List ℕ) → filter (λ y. nat_le x y) numbers ≡ far → x ≤ greatest_of (reached_of q numbers)
    by [] e = let none : how_many x numbers ≡ 0 = ap length e in absurd (omega arith)
    by (z ∷ zs) e = by_least q x numbers (z ∷ zs) e many (least z zs)

-- of the same numbers
pub reached-by : (q : ℕ) (given numbers : List ℕ) (r : ℕ) →
    r ≡ greatest_of (filter (λ x. nat_le q (length (filter (λ y. nat_le x y) given))) given) → given ≡ numbers
    → r ≡ greatest_reached q numbers
reached-by q given numbers r is same =
    is ∙ (λ i. greatest_of (filter (λ x. nat_le q (length (filter (λ y. nat_le x y) (same i)))) (same i)))
