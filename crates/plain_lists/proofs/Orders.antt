-- The order of numbers and of pairs, as derived comparisons have it, by tests.
use Rattle.std.proofs.Common.{◌≡◌, ℕ, ◌<◌, Less, Equal, Greater, Bool, true, false, cond, ◌&&◌, ◌||◌, nat_eq, nat_lt}
use Rattle.std.proofs.Common.{refl, sym, arith, ◌∙◌, ap}
use Rattle.std.specs.Ordering.{is_eq, is_lt, nat_cmp, ordering_then}
use Rattle.std.specs.declared.cmp.Ordering.{Ordering}
use Rattle.std.proofs.lemmas.Bool.{ltb-true, eqb-true}

-- numbers by cases
pub number_is : (l e : Bool) → (l ≡ true → e ≡ false) → is_eq (cond l Less (cond e Equal Greater)) ≡ e
number_is true e h = sym (h refl)
number_is false true h = refl
number_is false false h = refl

pub apart : (x y : ℕ) → nat_lt x y ≡ true → nat_eq x y ≡ false
apart x y lt = elim_at (nat_eq x y) refl
  where
    elim_at : (b : Bool) → nat_eq x y ≡ b → b ≡ false
    elim_at false e = refl
    elim_at true e = let p : x ≡ y = eqb-true x y e in let q : x < y = ltb-true x y lt in absurd (omega arith)

pub is_eq_number : (x y : ℕ) → is_eq (nat_cmp x y) ≡ nat_eq x y
is_eq_number x y = number_is (nat_lt x y) (nat_eq x y) (apart x y)

pub is_lt_cond : (l e : Bool) → is_lt (cond l Less (cond e Equal Greater)) ≡ l
is_lt_cond true e = refl
is_lt_cond false true = refl
is_lt_cond false false = refl

pub is_lt_number : (x y : ℕ) → is_lt (nat_cmp x y) ≡ nat_lt x y
is_lt_number x y = is_lt_cond (nat_lt x y) (nat_eq x y)

pub is_eq_then : (a b : Ordering) → is_eq (ordering_then a b) ≡ (is_eq a && is_eq b)
is_eq_then Less b = refl
is_eq_then Equal b = refl
is_eq_then Greater b = refl

pub is_lt_then : (a b : Ordering) → is_lt (ordering_then a b) ≡ (is_lt a || is_eq a && is_lt b)
is_lt_then Less b = refl
is_lt_then Equal b = refl
is_lt_then Greater b = refl

pub pair_same : (a b x y : ℕ) → is_eq (ordering_then (nat_cmp a x) (nat_cmp b y)) ≡ (nat_eq a x && nat_eq b y)
pair_same a b x y = is_eq_then (nat_cmp a x) (nat_cmp b y) ∙ ap (λ t. t && is_eq (nat_cmp b y)) (is_eq_number a x)
    ∙ ap (λ t. nat_eq a x && t) (is_eq_number b y)
