-- Sums over the views of all seats, of which one changes.
use Rattle.std.proofs.Common.{◌≡◌, ℕ, zero, suc, ◌+◌, ◌*◌, ◌^◌, ◌<◌, ◌≤◌, List, [], ◌∷◌, length, get_or, set, sum_by}
use Rattle.std.proofs.Common.{refl, sym, ap, ◌∙◌, subst, arith}
use Rattle.std.proofs.lemmas.List.Sums.{sum_by-cons, sum_by-set, get_or-le-sum_by}
use mathlib.Core.Option.{some, some-ne-none, some-injective}
use lib.ListN.{get_elem?}

module _ {X : Type 0} where
  pub at_length : (xs : List X) (i : ℕ) (v : X) → get_elem? xs i ≡ some v → i < length xs
  at_length [] i v at = absurd (some-ne-none v (sym at))
  at_length (x ∷ xs) zero v at = omega arith
  at_length (x ∷ xs) (suc i) v at = omega (arith, at_length xs i v at)

  at_get_or : (xs : List X) (i : ℕ) (v : X) → get_elem? xs i ≡ some v → get_or xs i v ≡ v
  at_get_or [] i v at = absurd (some-ne-none v (sym at))
  at_get_or (x ∷ xs) zero v at = some-injective x v at
  at_get_or (x ∷ xs) (suc i) v at = at_get_or xs i v at

  pub sum_changed : (f : X → ℕ) (xs : List X) (i : ℕ) (v w : X) → get_elem? xs i ≡ some v →
      sum_by f (set xs i w) + f v ≡ sum_by f xs + f w
  sum_changed f xs i v w at =
      subst (λ z. sum_by f (set xs i w) + f z ≡ sum_by f xs + f w) (at_get_or xs i v at)
      (sum_by-set f xs i w v (at_length xs i v at))

  pub part_of_sum : (f : X → ℕ) (xs : List X) (i : ℕ) (v : X) → get_elem? xs i ≡ some v → f v ≤ sum_by f xs
  part_of_sum f xs i v at = subst (λ z. f z ≤ sum_by f xs) (at_get_or xs i v at)
      (get_or-le-sum_by f xs i v (at_length xs i v at))

  none_left : (f g : X → ℕ) (xs : List X) → sum_by g xs ≡ 0 →
      ((j : ℕ) (u : X) → get_elem? xs j ≡ some u → g u ≡ 0 → f u ≡ 0) → sum_by f xs ≡ 0
  none_left f g [] empty each = refl
  none_left f g (x ∷ xs) empty each =
      let gs = sum_by-cons g x xs in
      let fx : f x ≡ 0 = each 0 x refl (omega (arith, gs, empty)) in
      let rest : sum_by f xs ≡ 0 = none_left f g xs (omega (arith, gs, empty)) (λ j u at. each (suc j) u at) in
      omega (arith, sum_by-cons f x xs, fx, rest)

  -- Where one part has the whole sum of g, and f is nothing wherever g is, that part has the whole sum of f.
  pub sum_of_one : (f g : X → ℕ) (xs : List X) (i : ℕ) (v : X) → get_elem? xs i ≡ some v → sum_by g xs ≡ g v
      → ((j : ℕ) (u : X) → get_elem? xs j ≡ some u → g u ≡ 0 → f u ≡ 0) → sum_by f xs ≡ f v
  sum_of_one f g [] i v at whole each = absurd (some-ne-none v (sym at))
  sum_of_one f g (x ∷ xs) zero v at whole each =
      let same : x ≡ v = some-injective x v at in
      let of_first : sum_by g (x ∷ xs) ≡ g x = whole ∙ ap g (sym same) in
      let rest : sum_by f xs ≡ 0 = none_left f g xs (omega (arith, sum_by-cons g x xs, of_first))
      (λ j u there. each (suc j) u there) in
      let first : sum_by f (x ∷ xs) ≡ f x = omega (arith, sum_by-cons f x xs, rest) in
      first ∙ ap f same
  sum_of_one f g (x ∷ xs) (suc i) v at whole each =
      let gs = sum_by-cons g x xs in
      let part : g v ≤ sum_by g xs = part_of_sum g xs i v at in
      let fx : f x ≡ 0 = each 0 x refl (omega (arith, gs, part, whole)) in
      let rest : sum_by f xs ≡ f v = sum_of_one f g xs i v at (omega (arith, gs, part, whole))
      (λ j u there. each (suc j) u there) in
      omega (arith, sum_by-cons f x xs, fx, rest)

  pub sum_bounded : (f g : X → ℕ) (xs : List X) → ((j : ℕ) (u : X) → get_elem? xs j ≡ some u → f u ≤ 2 ^ 32 * g u) →
      sum_by f xs ≤ 2 ^ 32 * sum_by g xs
  sum_bounded f g [] each = omega arith
  sum_bounded f g (x ∷ xs) each =
      let here : f x ≤ 2 ^ 32 * g x = each 0 x refl in
      let rest : sum_by f xs ≤ 2 ^ 32 * sum_by g xs = sum_bounded f g xs (λ j u at. each (suc j) u at) in
      omega (arith, sum_by-cons f x xs, sum_by-cons g x xs, here, rest)
