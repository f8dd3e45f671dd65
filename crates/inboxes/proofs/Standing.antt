-- Items at their places, as the list that they stand in grows, and as more of them are known.
use Rattle.std.proofs.Common.{◌≡◌, ℕ, zero, suc, ◌+◌, List, [], ◌∷◌, ◌++◌, length, slice_get, Some, refl, ap, ◌∙◌}
use Rattle.std.proofs.lemmas.List.{map-append}
use Rattle.std.proofs.lemmas.Option.{none-some}
use Rattle.stamps.specs.Seats.{times}
use Rattle.stamps.proofs.Counts.{times-append}
use Rattle.inboxes.specs.Steps.{Stand, Each, places}

module _ {T : Type 0} where
  more_there : (xs ys : List T) (k : ℕ) (x : T) → slice_get xs k ≡ Some x → slice_get (xs ++ ys) k ≡ Some x
  more_there [] ys k x e = absurd (none-some x e)
  more_there (y ∷ xs) ys zero x e = e
  more_there (y ∷ xs) ys (suc k) x e = more_there xs ys k x e

  last_there : (xs : List T) (x : T) → slice_get (xs ++ x ∷ []) (length xs) ≡ Some x
  last_there [] x = refl
  last_there (y ∷ xs) x = last_there xs x

  pub stand_longer : (xs ys : List T) (items : List (ℕ × T)) → Stand xs items → Stand (xs ++ ys) items
  stand_longer xs ys [] all = tt
  stand_longer xs ys (item ∷ items) all = (more_there xs ys item.0 item.1 all.0, stand_longer xs ys items all.1)

  pub stand_both : (xs : List T) (items others : List (ℕ × T)) → Stand xs items → Stand xs others →
      Stand xs (items ++ others)
  stand_both xs [] others all rest = rest
  stand_both xs (item ∷ items) others all rest = (all.0, stand_both xs items others all.1 rest)

  pub stand_last : (xs : List T) (x : T) (items : List (ℕ × T)) → Stand xs items →
      Stand (xs ++ x ∷ []) (items ++ (length xs, x) ∷ [])
  stand_last xs x items all = stand_both (xs ++ x ∷ []) items ((length xs, x) ∷ [])
      (stand_longer xs (x ∷ []) items all) (last_there xs x, tt)

  pub each_last : (Fits : T → Type 0) (xs : List T) (x : T) → Each Fits xs → Fits x → Each Fits (xs ++ x ∷ [])
  each_last Fits [] x all last = (last, tt)
  each_last Fits (y ∷ xs) x all last = (all.0, each_last Fits xs x all.1 last)

  pub times_both : (n : ℕ) (items others : List (ℕ × T)) →
      times n (places (items ++ others)) ≡ times n (places items) + times n (places others)
  times_both n items others = ap (times n) (map-append (λ (item : ℕ × T). item.0) items others)
      ∙ times-append n (places items) (places others)

  pub times_last : (n : ℕ) (items : List (ℕ × T)) (k : ℕ) (x : T) → times n (places (items ++ (k, x) ∷ [])) ≡ times n
      (places items) + times n (k ∷ [])
  times_last n items k x = times_both n items ((k, x) ∷ [])

  pub length_places : (items : List (ℕ × T)) → length (places items) ≡ length items
  length_places [] = refl
  length_places (item ∷ items) = ap suc (length_places items)
