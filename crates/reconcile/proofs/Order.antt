-- The order of what is wanted, as the sets keep it.
use Rattle.std.proofs.Common.{◌≡◌, ℕ, ◌<◌, ◌≤◌, Less, Equal, Greater, true, cond, ◌&&◌, ◌||◌, List, [], ◌∷◌, nat_eq}
use Rattle.std.proofs.Common.{nat_lt, nat_le, refl, sym, ◌∙◌, ap}
use Rattle.std.specs.List.{list_all, AllByRecursion}
use Rattle.std.specs.List.Sorted.{IsStrictlySortedBy}
use Rattle.std.specs.Ordering.{is_eq, is_lt, nat_cmp, match_ordering}
use Rattle.std.specs.declared.cmp.Ordering.{Ordering}
use Rattle.std.proofs.lemmas.Bool.{eqb-true, and_parts, lt-ltb, le-leb}
use Rattle.protocol_rules.specs.Group.{Group, most_number}
use Rattle.std.proofs.lemmas.Map.Keys.{sorted_head, sorted_tail}
use Rattle.reconcile.specs.declared.wanted.Wanted.{Wanted}
use Rattle.reconcile.specs.declared.wanted.Wanted.TheVariants.{Request, Number}
use Rattle.reconcile.specs.contracts.wanted.WantedOrd.TheImpl.{cmp-value}
use Rattle.reconcile.specs.Asking.{same_wanted, comes_before, is_place}
use Rattle.reconcile.specs.AskState.{AreInOrder}
use Rattle.plain_lists.proofs.Orders.{is_lt_then, is_eq_then, is_lt_number, is_eq_number}
use Rattle.plain_lists.proofs.Booleans.{nat_eq-itself}

abbrev pub order : Wanted → Wanted → Ordering
order = cmp-value.it

pub order_same : (x y : Wanted) → is_eq (order x y) ≡ same_wanted x y
order_same (Request j k) (Request i m) = is_eq_then (nat_cmp j i) (nat_cmp k m) ∙ ap (λ b. b && is_eq (nat_cmp k m))
    (is_eq_number j i) ∙ ap (λ b. nat_eq j i && b) (is_eq_number k m)
order_same (Request j k) (Number s) = refl
order_same (Number s) (Request j k) = refl
order_same (Number s) (Number t) = is_eq_number s t

pub order_before : (x y : Wanted) → is_lt (order x y) ≡ comes_before x y
order_before (Request j k) (Request i m) =
    is_lt_then (nat_cmp j i) (nat_cmp k m) ∙ ap (λ b. b || is_eq (nat_cmp j i) && is_lt (nat_cmp k m))
    (is_lt_number j i)
    ∙ ap (λ b. nat_lt j i || b && is_lt (nat_cmp k m)) (is_eq_number j i)
    ∙ ap (λ b. nat_lt j i || nat_eq j i && b) (is_lt_number k m)
order_before (Request j k) (Number s) = refl
order_before (Number s) (Request j k) = refl
order_before (Number s) (Number t) = is_lt_number s t

pub by_order : {X : Type 0} (x y : Wanted) (a b c : X) → match_ordering (order x y) a b c ≡ cond (same_wanted x y)
    b (cond (comes_before x y) a c)
by_order x y a b c = at (order x y) ∙ ap (λ t. cond t b (cond (is_lt (order x y)) a c)) (order_same x y)
    ∙ ap (λ t. cond (same_wanted x y) b (cond t a c)) (order_before x y)
  where
    at : (o : Ordering) → match_ordering o a b c ≡ cond (is_eq o) b (cond (is_lt o) a c)
    at Less = refl
    at Equal = refl
    at Greater = refl

-- two that are one are equal
pub same_is : (x y : Wanted) → same_wanted x y ≡ true → x ≡ y
same_is (Request j k) (Request i m) e =
    let both : (nat_eq j i ≡ true) × (nat_eq k m ≡ true) = and_parts (nat_eq j i) (nat_eq k m) e in
    ap (λ a. Request a k) (eqb-true j i both.0) ∙ ap (λ a. Request i a) (eqb-true k m both.1)
same_is (Request j k) (Number s) e = absurd (cc)
same_is (Number s) (Request j k) e = absurd (cc)
same_is (Number s) (Number t) e = ap (λ a. Number a) (eqb-true s t e)

pub same_itself : (x : Wanted) → same_wanted x x ≡ true
same_itself (Request j k) = ap (λ b. b && nat_eq k k) (nat_eq-itself j) ∙ nat_eq-itself k
same_itself (Number s) = nat_eq-itself s

-- keys that ascend are in order
before_all : (x : Wanted) (rest : List Wanted) → AllByRecursion (λ y. order x y ≡ Less) rest →
    list_all (comes_before x) rest ≡ true
before_all x [] all = refl
before_all x (y ∷ rest) all = ap (λ b. b && list_all (comes_before x) rest) (sym (order_before x y) ∙ ap is_lt all.0)
    ∙ before_all x rest all.1

pub in_order_from_sorted : (keys : List Wanted) → IsStrictlySortedBy order keys → AreInOrder keys
in_order_from_sorted [] sorted = tt
in_order_from_sorted (x ∷ rest) sorted =
    (before_all x rest (sorted_head order x rest sorted), in_order_from_sorted rest (sorted_tail order x rest sorted))

pub request_place : (g : Group) (w : Wanted) (j k n : ℕ) → w ≡ Request j k → n ≡ g.n → j < n → 1 ≤ k →
    nat_le k 4096 ≡ is_place g w
unfolding most_number
request_place g w j k n e same within least =
    sym (ap (is_place g) e ∙ ap (λ b. b && (nat_le 1 k && nat_le k 4096))
    (ap (λ m. nat_lt j m) (sym same) ∙ lt-ltb j n within) ∙ ap (λ b. b && nat_le k 4096) (le-leb 1 k least))

pub number_place : (g : Group) (w : Wanted) (s : ℕ) → w ≡ Number s → 1 ≤ s → nat_le s 4096 ≡ is_place g w
unfolding most_number
number_place g w s e least = sym (ap (is_place g) e ∙ ap (λ b. b && nat_le s 4096) (le-leb 1 s least))
