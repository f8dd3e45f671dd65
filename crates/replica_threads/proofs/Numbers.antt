-- Lists by place and by number.
use Rattle.std.proofs.Common.{◌≡◌, ℕ, zero, suc, ◌+◌, ◌*◌, ◌<◌, ◌≤◌, List, [], ◌∷◌, ◌++◌, Some, length, drop, get_or}
use Rattle.std.proofs.Common.{set, refl, sym, ◌∙◌, ap, subst, arith}
use Rattle.std.specs.Prelude.{slice_get}
use Rattle.std.specs.List.{flat_map}
use Rattle.std.proofs.lemmas.List.{length-append}
use Rattle.std.proofs.lemmas.List.Concat.{flat_map-append}
use Rattle.std.proofs.lemmas.Option.{none-some}
use Rattle.quorum_sets.specs.Masters.{numbers_below}
use Rattle.quorum_sets.proofs.MastersLemmas.{numbers_below-suc}

module _ {X : Type 0} where
  pub drop_none : (xs : List X) → drop 0 xs ≡ xs
  drop_none [] = refl
  drop_none (x ∷ xs) = refl

  -- the next element where a list is gone through
  pub drop_next : (k : ℕ) (xs rest : List X) (y d : X) → drop k xs ≡ y ∷ rest →
      (get_or xs k d ≡ y) × (drop (suc k) xs ≡ rest)
  drop_next zero [] rest y d is = absurd cc
  drop_next (suc k) [] rest y d is = absurd cc
  drop_next zero (x ∷ xs) rest y d is =
      let head : x ≡ y = cc in
      let tail : xs ≡ rest = cc in
      (head, drop_none xs ∙ tail)
  drop_next (suc k) (x ∷ xs) rest y d is = drop_next k xs rest y d is

  -- one of each number
  pub one_each : (f : ℕ → List X) (n : ℕ) → ((k : ℕ) → k < n → length (f k) ≡ 1) →
      length (flat_map f (numbers_below n)) ≡ n
  unfolding numbers_below
  one_each f zero one = refl
  one_each f (suc n) one =
      ap (λ (ns : List ℕ). length (flat_map f ns)) (numbers_below-suc n)
      ∙ ap length (flat_map-append f (numbers_below n) (n ∷ []))
      ∙ length-append (flat_map f (numbers_below n)) (f n ++ [])
      ∙ (let rest = one_each f n (λ k below. one k (omega (arith, below))) in
      let last = one n (omega arith) in
      omega (arith, rest, last, length-append (f n) []))

module _ {X Y : Type 0} where
  -- lists of which none has more than 17 entries for each of 4,000 turns, and 16 more
  pub few_in_all : (f : X → List Y) (xs : List X) → ((k : ℕ) (x : X) → slice_get xs k ≡ Some x → length (f x) ≤ 68016)
      → length (flat_map f xs) ≤ 68016 * length xs
  few_in_all f [] each = omega arith
  few_in_all f (x ∷ xs) each =
      let first : length (f x) ≤ 68016 = each 0 x refl in
      let rest : length (flat_map f xs) ≤ 68016 * length xs = few_in_all f xs (λ k y at. each (suc k) y at) in
      let whole : length (f x ++ flat_map f xs) ≡ length (f x) + length (flat_map f xs) =
      length-append (f x) (flat_map f xs) in
      omega (arith, first, rest, whole)

  -- each element of a list goes with that of another at its place
  abbrev pub Pairs : (X → Y → Type 0) → List X → List Y → Type 0
  Pairs R xs ys = (place : ℕ) (x : X) (y : Y) → slice_get xs place ≡ Some x → slice_get ys place ≡ Some y → R x y

  module _ (R : X → Y → Type 0) where
    one_pair : (x a : X) (y b : Y) → Some x ≡ Some a → Some y ≡ Some b → R x y → R a b
    one_pair x a y b ax by one =
        let first : x ≡ a = cc in
        let second : y ≡ b = cc in
        subst (λ (p : X × Y). R p.0 p.1) (λ i. (first i, second i)) one

    -- one more of both
    pub pairs_push : (xs : List X) (ys : List Y) (x : X) (y : Y) → length xs ≡ length ys → Pairs R xs ys → R x y →
        Pairs R (xs ++ x ∷ []) (ys ++ y ∷ [])
    pairs_push [] [] x y same each one zero a b ax by = one_pair x a y b ax by one
    pairs_push [] [] x y same each one (suc place) a b ax by = absurd (none-some a ax)
    pairs_push [] (v ∷ vs) x y same each one place a b ax by = absurd (omega (arith, same))
    pairs_push (u ∷ us) [] x y same each one place a b ax by = absurd (omega (arith, same))
    pairs_push (u ∷ us) (v ∷ vs) x y same each one zero a b ax by = each 0 a b ax by
    pairs_push (u ∷ us) (v ∷ vs) x y same each one (suc place) a b ax by =
        pairs_push us vs x y (omega (arith, same)) (λ p c d cx dy. each (suc p) c d cx dy) one place a b ax by

    -- the next of the second list
    pub pairs_next : (xs : List X) (ys : List Y) (y : Y) → Pairs R xs ys →
        ((x : X) → slice_get xs (length ys) ≡ Some x → R x y) → Pairs R xs (ys ++ y ∷ [])
    pairs_next [] ys y each one place a b ax by = absurd (none-some a ax)
    pairs_next (u ∷ us) [] y each one zero a b ax by = one_pair a a y b refl by (one a ax)
    pairs_next (u ∷ us) [] y each one (suc place) a b ax by = absurd (none-some b by)
    pairs_next (u ∷ us) (v ∷ vs) y each one zero a b ax by = each 0 a b ax by
    pairs_next (u ∷ us) (v ∷ vs) y each one (suc place) a b ax by =
        pairs_next us vs y (λ p c d cx dy. each (suc p) c d cx dy) one place a b ax by

    -- another at one place of the second list
    pub pairs_set : (xs : List X) (ys : List Y) (k : ℕ) (y : Y) → Pairs R xs ys →
        ((x : X) → slice_get xs k ≡ Some x → R x y) → Pairs R xs (set ys k y)
    pairs_set [] ys k y each one place a b ax by = absurd (none-some a ax)
    pairs_set (u ∷ us) [] zero y each one place a b ax by = absurd (none-some b by)
    pairs_set (u ∷ us) [] (suc k) y each one place a b ax by = absurd (none-some b by)
    pairs_set (u ∷ us) (v ∷ vs) zero y each one zero a b ax by = one_pair a a y b refl by (one a ax)
    pairs_set (u ∷ us) (v ∷ vs) zero y each one (suc place) a b ax by = each (suc place) a b ax by
    pairs_set (u ∷ us) (v ∷ vs) (suc k) y each one zero a b ax by = each 0 a b ax by
    pairs_set (u ∷ us) (v ∷ vs) (suc k) y each one (suc place) a b ax by =
        pairs_set us vs k y (λ p c d cx dy. each (suc p) c d cx dy) one place a b ax by
