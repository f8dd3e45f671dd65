-- What is wanted, in order.
use Rattle.std.proofs.Common.{◌≡◌, ◌≢◌, ℕ, ◌<◌, ◌≤◌, Bool, true, false, ◌&&◌, ◌||◌, List, [], ◌∷◌, ◌++◌, nat_eq}
use Rattle.std.proofs.Common.{nat_lt, nat_le, refl, sym, ◌∙◌, ap, arith, inl, inr, ◌⊎◌}
use Rattle.std.specs.List.{list_all}
use Rattle.std.proofs.lemmas.Bool.{ltb-true, eqb-true, eq-eqb, lt-ltb, and_parts, and_from, or_left, or_right}
use Rattle.std.proofs.lemmas.Bool.{true≢false, or_cases}
use Rattle.std.proofs.lemmas.Bool.Decides.{leb_tells, eqb_tells}
use Rattle.std.proofs.lemmas.List.Folds.{list_all-append}
use Rattle.reconcile.specs.declared.wanted.Wanted.{Wanted}
use Rattle.reconcile.specs.declared.wanted.Wanted.TheVariants.{Request, Number}
use Rattle.reconcile.specs.Asking.{same_wanted, is_among, comes_before}
use Rattle.reconcile.specs.AskState.{AreInOrder}
use Rattle.reconcile.proofs.Order.{same_is, same_itself}

pair_before : (j k i m : ℕ) → (nat_lt j i || nat_eq j i && nat_lt k m) ≡ true → (j < i) ⊎ ((j ≡ i) × (k < m))
pair_before j k i m e = by (or_cases (nat_lt j i) (nat_eq j i && nat_lt k m) e)
  where
    by : (nat_lt j i ≡ true) ⊎ ((nat_eq j i && nat_lt k m) ≡ true) → (j < i) ⊎ ((j ≡ i) × (k < m))
    by (inl lt) = inl (ltb-true j i lt)
    by (inr both) = let parts = and_parts (nat_eq j i) (nat_lt k m) both in
        inr (eqb-true j i parts.0, ltb-true k m parts.1)

pair_from : (j k i m : ℕ) → (j < i) ⊎ ((j ≡ i) × (k < m)) → (nat_lt j i || nat_eq j i && nat_lt k m) ≡ true
pair_from j k i m (inl lt) = or_left (nat_lt j i) (nat_eq j i && nat_lt k m) (lt-ltb j i lt)
pair_from j k i m (inr both) =
    or_right (nat_lt j i) (nat_eq j i && nat_lt k m)
    (and_from (nat_eq j i) (nat_lt k m) (eq-eqb j i both.0) (lt-ltb k m both.1))

pub rows_rise : (j k i m : ℕ) → j < i → comes_before (Request j k) (Request i m) ≡ true
rows_rise j k i m lt = pair_from j k i m (inl lt)

pub requests_rise : (j k m : ℕ) → k < m → comes_before (Request j k) (Request j m) ≡ true
requests_rise j k m lt = pair_from j k j m (inr (refl, lt))

pub numbers_rise : (s t : ℕ) → s < t → comes_before (Number s) (Number t) ≡ true
numbers_rise s t lt = lt-ltb s t lt

chained : (j k i m h l : ℕ) → (j < i) ⊎ ((j ≡ i) × (k < m)) → (i < h) ⊎ ((i ≡ h) × (m < l)) →
    (j < h) ⊎ ((j ≡ h) × (k < l))
chained j k i m h l (inl a) (inl b) = inl (omega arith)
chained j k i m h l (inl a) (inr b) = let e : i ≡ h = b.0 in inl (omega arith)
chained j k i m h l (inr a) (inl b) = let e : j ≡ i = a.0 in inl (omega arith)
chained j k i m h l (inr a) (inr b) =
    let e : j ≡ i = a.0 in
    let d : i ≡ h = b.0 in
    let lt : k < m = a.1 in
    let less : m < l = b.1 in
    inr (e ∙ d, omega arith)

pub before_trans : (x y z : Wanted) → comes_before x y ≡ true → comes_before y z ≡ true → comes_before x z ≡ true
before_trans (Request j k) (Request i m) (Request h l) a b =
    pair_from j k h l (chained j k i m h l (pair_before j k i m a) (pair_before i m h l b))
before_trans (Request j k) (Request i m) (Number t) a b = refl
before_trans (Request j k) (Number s) (Request h l) a b = absurd (true≢false (sym b))
before_trans (Request j k) (Number s) (Number t) a b = refl
before_trans (Number s) (Request i m) z a b = absurd (true≢false (sym a))
before_trans (Number s) (Number t) (Request h l) a b = absurd (true≢false (sym b))
before_trans (Number s) (Number t) (Number r) a b =
    let lt : s < t = ltb-true s t a in
    let less : t < r = ltb-true t r b in
    lt-ltb s r (omega arith)

never_before_itself : (x : Wanted) → comes_before x x ≡ true → ⊥
never_before_itself (Request j k) e = by (pair_before j k j k e)
  where
    by : (j < j) ⊎ ((j ≡ j) × (k < k)) → ⊥
    by (inl lt) = omega arith
    by (inr both) = let lt : k < k = both.1 in omega arith
never_before_itself (Number s) e = let lt : s < s = ltb-true s s e in omega arith

-- one that comes before another isn't that
pub before_apart : (x y : Wanted) → comes_before x y ≡ true → same_wanted y x ≡ false
before_apart x y before = by (same_wanted y x) refl
  where
    by : (b : Bool) → same_wanted y x ≡ b → b ≡ false
    by false e = refl
    by true e = absurd (never_before_itself x (ap (comes_before x) (sym (same_is y x e)) ∙ before))

numbers_compare : (a b : ℕ) → (a ≡ b) ⊎ ((a < b) ⊎ (b < a))
numbers_compare a b = by (leb_tells a b) (eqb_tells a b)
  where
    by : ((nat_le a b ≡ true) × (a ≤ b)) ⊎ ((nat_le a b ≡ false) × (b < a)) → ((nat_eq a b ≡ true) × (a ≡ b))
        ⊎ ((nat_eq a b ≡ false) × (a ≢ b)) → (a ≡ b) ⊎ ((a < b) ⊎ (b < a))
    by le (inl same) = inl same.1
    by (inl le) (inr apart) = inr (inl (omega (arith, le.1, apart.1)))
    by (inr lt) (inr apart) = inr (inr lt.1)

-- of two or_cases both are one, or one comes first
pub compared : (x y : Wanted) → (x ≡ y) ⊎ ((comes_before x y ≡ true) ⊎ (comes_before y x ≡ true))
compared (Request j k) (Request i m) = by (numbers_compare j i) (numbers_compare k m)
  where
    by : (j ≡ i) ⊎ ((j < i) ⊎ (i < j)) → (k ≡ m) ⊎ ((k < m) ⊎ (m < k)) → (Request j k ≡ Request i m)
        ⊎ ((comes_before (Request j k) (Request i m) ≡ true) ⊎ (comes_before (Request i m) (Request j k) ≡ true))
    by (inl e) (inl d) = inl (ap (λ a. Request a k) e ∙ ap (λ a. Request i a) d)
    by (inl e) (inr (inl lt)) = inr (inl (pair_from j k i m (inr (e, lt))))
    by (inl e) (inr (inr lt)) = inr (inr (pair_from i m j k (inr (sym e, lt))))
    by (inr (inl lt)) other = inr (inl (pair_from j k i m (inl lt)))
    by (inr (inr lt)) other = inr (inr (pair_from i m j k (inl lt)))
compared (Request j k) (Number s) = inr (inl refl)
compared (Number s) (Request j k) = inr (inr refl)
compared (Number s) (Number t) = by (numbers_compare s t)
  where
    by : (s ≡ t) ⊎ ((s < t) ⊎ (t < s)) → (Number s ≡ Number t)
        ⊎ ((comes_before (Number s) (Number t) ≡ true) ⊎ (comes_before (Number t) (Number s) ≡ true))
    by (inl e) = inl (ap (λ a. Number a) e)
    by (inr (inl lt)) = inr (inl (lt-ltb s t lt))
    by (inr (inr lt)) = inr (inr (lt-ltb t s lt))

-- what holds of all holds of each that is among them
pub among_all : (p : Wanted → Bool) (list : List Wanted) → list_all p list ≡ true → (w : Wanted) →
    is_among list w ≡ true → p w ≡ true
among_all p [] all w here = absurd (true≢false (sym here))
among_all p (x ∷ rest) all w here =
    let parts = and_parts (p x) (list_all p rest) all in
    by (or_cases (same_wanted w x) (is_among rest w) here) parts.0 (among_all p rest parts.1 w)
  where
    by : (same_wanted w x ≡ true) ⊎ (is_among rest w ≡ true) → p x ≡ true →
        (is_among rest w ≡ true → p w ≡ true) → p w ≡ true
    by (inl same) first later = ap p (same_is w x same) ∙ first
    by (inr more) first later = later more

pub before_all : (x y : Wanted) (rest : List Wanted) → comes_before x y ≡ true →
    list_all (comes_before y) rest ≡ true → list_all (comes_before x) rest ≡ true
before_all x y [] before all = refl
before_all x y (z ∷ rest) before all =
    let parts = and_parts (comes_before y z) (list_all (comes_before y) rest) all in
    and_from (comes_before x z) (list_all (comes_before x) rest) (before_trans x y z before parts.0)
    (before_all x y rest before parts.1)

-- one that comes before all isn't among them
pub before_not_among : (x : Wanted) (list : List Wanted) → list_all (comes_before x) list ≡ true →
    is_among list x ≡ false
before_not_among x list all = by (is_among list x) refl
  where
    by : (b : Bool) → is_among list x ≡ b → b ≡ false
    by false e = refl
    by true e = absurd (never_before_itself x (among_all (comes_before x) list all x e))

pub among_first : (x : Wanted) (rest : List Wanted) → is_among (x ∷ rest) x ≡ true
among_first x rest = or_left (same_wanted x x) (is_among rest x) (same_itself x)

pub among_later : (x : Wanted) (rest : List Wanted) (w : Wanted) → is_among rest w ≡ true → is_among (x ∷ rest) w ≡ true
among_later x rest w here = or_right (same_wanted w x) (is_among rest w) here

-- two lists in order, one after the other
pub in_order-append : (xs ys : List Wanted) → AreInOrder xs → AreInOrder ys →
    ((x : Wanted) → is_among xs x ≡ true → list_all (comes_before x) ys ≡ true) → AreInOrder (xs ++ ys)
in_order-append [] ys first second before = second
in_order-append (x ∷ xs) ys first second before = (
  list_all-append (comes_before x) xs ys ∙ and_from (list_all (comes_before x) xs) (list_all (comes_before x) ys)
      first.0 (before x (among_first x xs)),
  in_order-append xs ys first.1 second (λ w here. before w (among_later x xs w here)),
)
