-- Places of lists with one element more.
use Rattle.std.proofs.Common.{◌≡◌, ℕ, true, false, nat_lt, List, [], ◌∷◌, ◌++◌, Some, None, length, get_or, inl, inr}
use Rattle.std.proofs.Common.{refl, sym, ◌∙◌, ap}
use Rattle.std.proofs.lemmas.Bool.{true≢false, lt-ltb, ltb-true}
use Rattle.std.proofs.lemmas.Option.{slice_get-get_or, slice_get_cases}
use Rattle.std.specs.Prelude.{slice_get}

pub get_last : {X : Type 0} (xs : List X) (x : X) → slice_get (xs ++ x ∷ []) (length xs) ≡ Some x
get_last [] x = refl
get_last (y ∷ xs) x = get_last xs x

-- what is found at a place, as the standard library tells it
pub found_at : (xs : List ℕ) (i x : ℕ) → true ≡ nat_lt i (length xs) → x ≡ get_or xs i x → slice_get xs i ≡ Some x
found_at xs i x below is = slice_get-get_or xs i x (ltb-true i (length xs) (sym below))
    ∙ ap (λ (n : ℕ). Some n) (sym is)

pub missing_at : (xs : List ℕ) (i : ℕ) → false ≡ nat_lt i (length xs) → slice_get xs i ≡ None
missing_at xs i beyond = elim (slice_get_cases xs i).1 [
  | inl inside ↦ absurd (true≢false (sym (lt-ltb i (length xs) inside.1) ∙ sym beyond))
  | inr past ↦ past.1
]
