-- Two lists in order of which each gives nothing where it isn't in the other give the same.
use Rattle.std.proofs.Common.{◌≡◌, true, false, List, [], ◌∷◌, ◌++◌, refl, sym, ◌∙◌, ap, inl, inr, ◌⊎◌}
use Rattle.std.specs.List.{list_all, flat_map}
use Rattle.std.proofs.lemmas.Bool.{and_from, or_from}
use Rattle.reconcile.specs.declared.wanted.Wanted.{Wanted}
use Rattle.reconcile.specs.Asking.{same_wanted, is_among, comes_before}
use Rattle.reconcile.specs.AskState.{AreInOrder}
use Rattle.reconcile.proofs.Sorted.{compared, before_apart, among_all, before_all, before_not_among, among_first}
use Rattle.reconcile.proofs.Sorted.{among_later}

-- what is in the first alone gives nothing
abbrev pub GivesNothing : {X : Type 0} → (Wanted → List X) → List Wanted → List Wanted → Type 0
GivesNothing F a b = (w : Wanted) → is_among a w ≡ true → is_among b w ≡ false → F w ≡ []

merge_none : {X : Type 0} (F : Wanted → List X) (b : List Wanted) → GivesNothing F b [] → [] ≡ flat_map F b
merge_none F [] right = refl
merge_none F (y ∷ b) right =
    merge_none F b (λ w here none. right w (among_later y b w here) none) ∙ ap (λ xs. xs ++ flat_map F b)
    (sym (right y (among_first y b) refl))

-- the heads are one
merge_same : {X : Type 0} (F : Wanted → List X) (x y : Wanted) (a b : List Wanted) → x ≡ y →
    list_all (comes_before x) a ≡ true → list_all (comes_before y) b ≡ true →
    GivesNothing F (x ∷ a) (y ∷ b) → GivesNothing F (y ∷ b) (x ∷ a) →
    (GivesNothing F a b → GivesNothing F b a → flat_map F a ≡ flat_map F b) →
    flat_map F (x ∷ a) ≡ flat_map F (y ∷ b)
merge_same F x y a b same before_a before_b left right next =
    ap (λ v. F v ++ flat_map F a) same
    ∙ ap (λ xs. F y ++ xs) (next
    (λ w here none. left w (among_later x a w here)
    (or_from (same_wanted w y) (is_among b w)
    (ap (same_wanted w) (sym same) ∙ before_apart x w (among_all (comes_before x) a before_a w here)) none))
    (λ w here none. right w (among_later y b w here)
    (or_from (same_wanted w x) (is_among a w)
    (ap (same_wanted w) same ∙ before_apart y w (among_all (comes_before y) b before_b w here)) none)))

-- the head of the first comes before all of the second
merge_first : {X : Type 0} (F : Wanted → List X) (x : Wanted) (a b : List Wanted) → list_all (comes_before x) b ≡ true →
    GivesNothing F (x ∷ a) b → GivesNothing F b (x ∷ a) →
    (GivesNothing F a b → GivesNothing F b a → flat_map F a ≡ flat_map F b) → flat_map F (x ∷ a) ≡ flat_map F b
merge_first F x a b before left right next =
    ap (λ xs. xs ++ flat_map F a) (left x (among_first x a) (before_not_among x b before))
    ∙ next (λ w here none. left w (among_later x a w here) none)
    (λ w here none. right w here
    (or_from (same_wanted w x) (is_among a w) (before_apart x w (among_all (comes_before x) b before w here)) none))

merge_step : {X : Type 0} (F : Wanted → List X) (x : Wanted) (a : List Wanted) → list_all (comes_before x) a ≡ true →
    ((b : List Wanted) → AreInOrder b → GivesNothing F a b → GivesNothing F b a → flat_map F a ≡ flat_map F b) →
    (b : List Wanted) → AreInOrder b → GivesNothing F (x ∷ a) b → GivesNothing F b (x ∷ a) →
    flat_map F (x ∷ a) ≡ flat_map F b
merge_step F x a before next [] in_order left right = merge_first F x a [] refl left right (next [] in_order)
merge_step F x a before next (y ∷ b) in_order left right = by (compared x y) (merge_step F x a before next b in_order.1)
  where
    by : (x ≡ y) ⊎ ((comes_before x y ≡ true) ⊎ (comes_before y x ≡ true)) →
        (GivesNothing F (x ∷ a) b → GivesNothing F b (x ∷ a) → flat_map F (x ∷ a) ≡ flat_map F b) →
        flat_map F (x ∷ a) ≡ flat_map F (y ∷ b)
    by (inl same) later = merge_same F x y a b same before in_order.0 left right (next b in_order.1)
    by (inr (inl first)) later =
        merge_first F x a (y ∷ b) (and_from (comes_before x y) (list_all (comes_before x) b) first
        (before_all x y b first in_order.0)) left right (next (y ∷ b) in_order)
    by (inr (inr first)) later =
        sym (merge_first F y b (x ∷ a) (and_from (comes_before y x) (list_all (comes_before y) a) first
        (before_all y x a first before)) right left (λ r l. sym (later l r)))

pub merged : {X : Type 0} (F : Wanted → List X) (a : List Wanted) → AreInOrder a → (b : List Wanted) → AreInOrder b →
    GivesNothing F a b → GivesNothing F b a → flat_map F a ≡ flat_map F b
merged F [] first b second left right = merge_none F b right
merged F (x ∷ a) first b second left right = merge_step F x a first.0 (merged F a first.1) b second left right
