-- What holds of each view at its place, after one of them changed or one more came.
use Rattle.std.proofs.Common.{◌≡◌, ◌≢◌, ◌⊎◌, ℕ, zero, suc, ◌<◌, List, [], ◌∷◌, ◌++◌, length, set, inl, inr, ⊎_elim}
use Rattle.std.proofs.Common.{refl, sym, ap, subst, arith}
use Rattle.atomic_table.proofs.Lists.{at_set}
use Rattle.stamps.specs.Steps.{made_at}
use mathlib.Core.Option.{some, some-ne-none, some-injective}
use lib.ListN.{get_elem?}

module _ {X : Type 0} where
  at_more : (xs : List X) (w u : X) (j : ℕ) → get_elem? (xs ++ w ∷ []) j ≡ some u → (get_elem? xs j ≡ some u)
      ⊎ ((length xs ≡ j) × (w ≡ u))
  at_more [] w u zero at = inr (refl, some-injective w u at)
  at_more [] w u (suc j) at = absurd (some-ne-none u (sym at))
  at_more (x ∷ xs) w u zero at = inl at
  at_more (x ∷ xs) w u (suc j) at = ⊎_elim (λ t. inl t) (λ t. inr (ap suc t.0, t.1)) (at_more xs w u j at)

  pub each_changed : (P : ℕ → X → Type 0) (xs : List X) (i : ℕ) (w : X) →
      ((j : ℕ) (u : X) → j ≢ i → get_elem? xs j ≡ some u → P j u) → P i w
      → (j : ℕ) (u : X) → get_elem? (set xs i w) j ≡ some u → P j u
  each_changed P xs i w others mine j u at =
      ⊎_elim
      (λ (t : (j ≡ i) × (w ≡ u)). subst (λ (y : ℕ × X). P y.0 y.1) (λ k. (sym t.0 k, t.1 k)) mine)
      (λ (t : (j ≢ i) × (get_elem? xs j ≡ some u)). others j u t.0 t.1)
      (at_set xs i j w u at)

  pub each_more : (P : ℕ → X → Type 0) (xs : List X) (w : X) → ((j : ℕ) (u : X) → get_elem? xs j ≡ some u → P j u) →
      P (length xs) w
      → (j : ℕ) (u : X) → get_elem? (xs ++ w ∷ []) j ≡ some u → P j u
  each_more P xs w others last j u at =
      ⊎_elim
      (λ (t : get_elem? xs j ≡ some u). others j u t)
      (λ (t : (length xs ≡ j) × (w ≡ u)). subst (λ (y : ℕ × X). P y.0 y.1) (λ k. (t.0 k, t.1 k)) last)
      (at_more xs w u j at)

  pub each_of_one : (P : ℕ → X → Type 0) (w : X) → P 0 w → (j : ℕ) (u : X) → get_elem? (w ∷ []) j ≡ some u → P j u
  each_of_one P w mine zero u at = subst (P 0) (some-injective w u at) mine
  each_of_one P w mine (suc j) u at = absurd (some-ne-none u (sym at))

pub first_place : (count made : ℕ) (place : ℕ) → made ≡ made_at count place → 0 < made → (place ≡ 0) × (made ≡ count)
first_place count made zero is counts = (refl, is)
first_place count made (suc place) is counts = absurd (omega (arith, is, counts))

pub later_place : (count n : ℕ) (place : ℕ) → place ≢ 0 → made_at count place ≡ made_at n place
later_place count n zero apart = absurd (apart refl)
later_place count n (suc place) apart = refl

pub none_later : (n : ℕ) (place : ℕ) → 0 < place → 0 ≡ made_at n place
none_later n zero later = absurd (omega (arith, later))
none_later n (suc place) later = refl
