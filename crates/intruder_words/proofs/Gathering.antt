-- All of a list's values, or none where one is none.
use Rattle.std.proofs.Common.{◌≡◌, ℕ, ◌+◌, zero, suc, ◌<◌, List, [], ◌∷◌, ◌++◌, Option, Some, None, length, take, map}
use Rattle.std.proofs.Common.{get_or, refl, sym, ◌∙◌, ap, arith}
use Rattle.std.specs.Option.{option_map}
use Rattle.std.proofs.lemmas.List.{map-append}
use Rattle.intruder_words.specs.Speaking.{all_of}
use Rattle.intruder_words.proofs.Walks.{take-next}

more_step : {X : Type 0} (y : X) (xs : List (Option X)) (found : List X) (x : X) (o : Option (List X)) →
    all_of xs ≡ o → option_map (λ zs. y ∷ zs) o ≡ Some found →
    ((zs : List X) → all_of xs ≡ Some zs → all_of (xs ++ Some x ∷ []) ≡ Some (zs ++ x ∷ [])) →
    option_map (λ zs. y ∷ zs) (all_of (xs ++ Some x ∷ [])) ≡ Some (found ++ x ∷ [])
more_step y xs found x None is e later = absurd (cc)
more_step y xs found x (Some zs) is e later = let same : y ∷ zs ≡ found = cc in
    ap (option_map (λ ws. y ∷ ws)) (later zs is) ∙ ap (λ ws. Some (ws ++ x ∷ [])) same

more : {X : Type 0} (xs : List (Option X)) (found : List X) (x : X) → all_of xs ≡ Some found →
    all_of (xs ++ Some x ∷ []) ≡ Some (found ++ x ∷ [])
more {X} [] found x e = let none : [] ≡ found = cc in ap (λ (zs : List X). Some (zs ++ x ∷ [])) none
more (None ∷ xs) found x e = absurd (cc)
more (Some y ∷ xs) found x e = more_step y xs found x (all_of xs) refl e (λ zs is. more xs zs x is)

pub gathered-next : {X Y : Type 0} (f : X → Option Y) (xs : List X) (i : ℕ) (x : X) (found : List Y) (y : Y) →
    i < length xs → x ≡ get_or xs i x → all_of (map f (take i xs)) ≡ Some found →
    f x ≡ Some y → all_of (map f (take (i + 1) xs)) ≡ Some (found ++ y ∷ [])
gathered-next f xs i x found y below is so_far here =
    ap (λ zs. all_of (map f zs)) (take-next xs i x below is) ∙ ap all_of (map-append f (take i xs) (x ∷ []))
    ∙ ap (λ o. all_of (map f (take i xs) ++ o ∷ [])) here ∙ more (map f (take i xs)) found y so_far

pub gathered-none : {X Y : Type 0} (f : X → Option Y) (xs : List X) (i : ℕ) (x : X) → i < length xs →
    x ≡ get_or xs i x → f x ≡ None → all_of (map f xs) ≡ None
gathered-none f [] i x below is none = absurd (omega arith)
gathered-none f (z ∷ xs) zero x below is none = let same : f z ≡ None = ap f (sym is) ∙ none in
    ap (λ o. all_of (o ∷ map f xs)) same
gathered-none {X} {Y} f (z ∷ xs) (suc i) x below is none = by (f z) (gathered-none f xs i x (omega arith) is none)
  where
    by : (o : Option Y) → all_of (map f xs) ≡ None → all_of (o ∷ map f xs) ≡ None
    by None e = refl
    by (Some y) e = ap (option_map (λ ys. y ∷ ys)) e

pub gathered-push : {X Y : Type 0} (f : X → Option Y) (xs : List X) (i : ℕ) (x : X) (found now : List Y) (y : Y) →
    i < length xs → x ≡ get_or xs i x → all_of (map f (take i xs)) ≡ Some found →
    f x ≡ Some y → now ≡ found ++ y ∷ [] → all_of (map f (take (i + 1) xs)) ≡ Some now
gathered-push f xs i x found now y below is so_far given more = gathered-next f xs i x found y below is so_far given
    ∙ ap Some (sym more)
