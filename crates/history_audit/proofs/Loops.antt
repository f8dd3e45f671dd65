-- Loops that hand one item after another on, and tests over lists.
use Rattle.std.proofs.Common.{◌≡◌, ℕ, ◌+◌, ◌<◌, ◌≤◌, Bool, true, false, ◌&&◌, ◌||◌, List, [], ◌∷◌, ◌++◌, map, take}
use Rattle.std.proofs.Common.{length, get_or, append_assoc, refl, sym, ◌∙◌, ap, subst}
use Rattle.std.proofs.lemmas.List.{append-nil, take_all, take_more, map_more}
use Rattle.std.proofs.lemmas.List.Concat.{flat_map-append}
use Rattle.std.specs.List.{flat_map, list_any}

pub map_starts : {X Y : Type 0} (R : List Y → Type 0) (f : X → Y) (given : List Y) (xs : List X) → R given →
    R (given ++ map f (take 0 xs))
map_starts R f given xs h = subst R (sym (append-nil given)) h

pub map_step : {X Y : Type 0} (R : List Y → Type 0) (f : X → Y) (given : List Y) (xs : List X) (i : ℕ) (x : X) →
    i < length xs → x ≡ get_or xs i x
    → R ((given ++ map f (take i xs)) ++ f x ∷ []) → R (given ++ map f (take (i + 1) xs))
map_step {X} {Y} R f given xs i x below is h =
    let one : map f (take (i + 1) xs) ≡ map f (take i xs) ++ f x ∷ [] =
    map_more f xs i x below ∙ ap (λ (z : X). map f (take i xs) ++ f z ∷ []) (sym is) in
    subst (λ (ys : List Y). R (given ++ ys)) (sym one) (subst R (append_assoc given (map f (take i xs)) (f x ∷ [])) h)

pub map_whole : {X Y : Type 0} (R : List Y → Type 0) (f : X → Y) (given : List Y) (xs : List X) (n : ℕ) → length xs ≤ n
    → R (given ++ map f (take n xs)) → R (given ++ map f xs)
map_whole {X} R f given xs n h = subst (λ (zs : List X). R (given ++ map f zs)) (take_all n xs h)

pub flat_more : {X Y : Type 0} (f : X → List Y) (xs : List X) (i : ℕ) (x : X) → i < length xs → x ≡ get_or xs i x
    → flat_map f (take (i + 1) xs) ≡ flat_map f (take i xs) ++ f x
flat_more {X} {Y} f xs i x below is =
    ap (flat_map f) (take_more xs i x below) ∙ flat_map-append f (take i xs) (get_or xs i x ∷ [])
    ∙ ap (λ (z : X). flat_map f (take i xs) ++ (f z ++ [])) (sym is)
    ∙ ap (λ (ys : List Y). flat_map f (take i xs) ++ ys) (append-nil (f x))

pub flat_starts : {X Y : Type 0} (R : List Y → Type 0) (f : X → List Y) (given : List Y) (xs : List X) → R given →
    R (given ++ flat_map f (take 0 xs))
flat_starts R f given xs h = subst R (sym (append-nil given)) h

pub flat_step : {X Y : Type 0} (R : List Y → Type 0) (f : X → List Y) (given : List Y) (xs : List X) (i : ℕ) (x : X) →
    i < length xs → x ≡ get_or xs i x
    → R ((given ++ flat_map f (take i xs)) ++ f x) → R (given ++ flat_map f (take (i + 1) xs))
flat_step {X} {Y} R f given xs i x below is h =
    subst (λ (ys : List Y). R (given ++ ys)) (sym (flat_more f xs i x below is))
    (subst R (append_assoc given (flat_map f (take i xs)) (f x)) h)

pub flat_whole : {X Y : Type 0} (R : List Y → Type 0) (f : X → List Y) (given : List Y) (xs : List X) (n : ℕ) →
    length xs ≤ n
    → R (given ++ flat_map f (take n xs)) → R (given ++ flat_map f xs)
flat_whole {X} R f given xs n h = subst (λ (zs : List X). R (given ++ flat_map f zs)) (take_all n xs h)

pub any_map : {X Y : Type 0} (p : Y → Bool) (f : X → Y) (xs : List X) →
    list_any p (map f xs) ≡ list_any (λ x. p (f x)) xs
any_map p f [] = refl
any_map p f (x ∷ xs) = ap (λ b. p (f x) || b) (any_map p f xs)

any_never : {X : Type 0} (xs : List X) → list_any (λ (x : X). false) xs ≡ false
any_never [] = refl
any_never (x ∷ xs) = any_never xs

pub any_and : {X : Type 0} (c : Bool) (p : X → Bool) (xs : List X) → list_any (λ x. c && p x) xs ≡ (c && list_any p xs)
any_and true p xs = refl
any_and false p xs = any_never xs
