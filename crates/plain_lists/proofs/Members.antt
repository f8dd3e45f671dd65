-- What is in a list: joined, mapped, filtered and found.
use Rattle.std.proofs.Common.{◌≡◌, ℕ, zero, suc, Bool, true, false, cond, List, [], ◌∷◌, ◌++◌, filter, map, take}
use Rattle.std.proofs.Common.{length, reverse, refl, sym, ◌∙◌, ap, subst, inl, inr, ◌⊎◌, Option, Some, None}
use Rattle.std.specs.Prelude.{slice_get}
use Rattle.std.specs.List.{list_any, list_all, find, filter_map, flat_map, cons_option}
use Rattle.std.proofs.lemmas.Bool.{false≢true, or_cases, or_left, or_right, and_parts}
use Rattle.std.proofs.lemmas.List.{reverse-append}
use Rattle.plain_lists.specs.Lists.{IsIn, here, there, Each}

pub none_in : {X : Type 0} {x : X} → IsIn x [] → ⊥
none_in h = elim h [ ]

pub in_left : {X : Type 0} {x : X} {xs : List X} (ys : List X) → IsIn x xs → IsIn x (xs ++ ys)
in_left ys (here rest) = here (rest ++ ys)
in_left ys (there y rest h) = there y (rest ++ ys) (in_left ys h)

pub in_right : {X : Type 0} {x : X} (xs : List X) {ys : List X} → IsIn x ys → IsIn x (xs ++ ys)
in_right [] h = h
in_right (y ∷ xs) {ys} h = there y (xs ++ ys) (in_right xs h)

-- in the first place, or behind it
pub in_cons_cases : {X : Type 0} {x y : X} {ys : List X} → IsIn x (y ∷ ys) → (x ≡ y) ⊎ IsIn x ys
in_cons_cases (here rest) = inl refl
in_cons_cases (there y rest h) = inr h

pub in_cases : {X : Type 0} {x : X} (xs : List X) {ys : List X} → IsIn x (xs ++ ys) → IsIn x xs ⊎ IsIn x ys
in_cases [] h = inr h
in_cases {x = x} (y ∷ xs) {ys} h = elim (in_cons_cases h) [
  | inl e ↦ inl (subst (λ z. IsIn z (y ∷ xs)) (sym e) (here xs))
  | inr later ↦ elim (in_cases xs later) [ inl k ↦ inl (there y xs k) | inr k ↦ inr k ]
]

pub in_first : {X : Type 0} {x : X} (xs : List X) (ys : List X) → IsIn x (xs ++ x ∷ ys)
in_first xs ys = in_right xs (here ys)

pub each_none : {X : Type 0} (P : X → Type 0) → Each P []
each_none P x h = absurd (none_in h)

pub each_one : {X : Type 0} (P : X → Type 0) (x : X) → P x → Each P (x ∷ [])
each_one P x p y h = elim (in_cons_cases h) [ inl e ↦ subst P (sym e) p | inr k ↦ absurd (none_in k) ]

pub each_append : {X : Type 0} (P : X → Type 0) (xs ys : List X) → Each P xs → Each P ys → Each P (xs ++ ys)
each_append P xs ys p q x h = elim (in_cases xs h) [ inl k ↦ p x k | inr k ↦ q x k ]

pub each_if : {X : Type 0} (P : X → Type 0) (b : Bool) (xs ys : List X) → (b ≡ true → Each P xs) →
    (b ≡ false → Each P ys) → Each P (cond b xs ys)
each_if P true xs ys p q = p refl
each_if P false xs ys p q = q refl

pub in_map : {X Y : Type 0} (f : X → Y) {x : X} {xs : List X} → IsIn x xs → IsIn (f x) (map f xs)
in_map f (here rest) = here (map f rest)
in_map f (there y rest h) = there (f y) (map f rest) (in_map f h)

pub in_map_from : {X Y : Type 0} (f : X → Y) {y : Y} (xs : List X) → IsIn y (map f xs) → (x : X) × IsIn x xs × (y ≡ f x)
in_map_from f [] h = absurd (none_in h)
in_map_from f (x ∷ xs) h = elim (in_cons_cases h) [
  | inl e ↦ (x, here xs, e)
  | inr later ↦ let found = in_map_from f xs later in (found.0, there x xs found.1, found.2)
]

pub each_map : {X Y : Type 0} (P : Y → Type 0) (f : X → Y) (xs : List X) → Each (λ x. P (f x)) xs → Each P (map f xs)
each_map P f xs p y h = let found = in_map_from f xs h in subst P (sym found.2) (p found.0 found.1)

pub in_flat_map : {X Y : Type 0} (f : X → List Y) {x : X} {y : Y} {xs : List X} → IsIn x xs →
    IsIn y (f x) → IsIn y (flat_map f xs)
in_flat_map f {x = x} (here rest) k = in_left (flat_map f rest) k
in_flat_map f (there y rest h) k = in_right (f y) (in_flat_map f h k)

pub in_flat_map_from : {X Y : Type 0} (f : X → List Y) {y : Y} (xs : List X) → IsIn y (flat_map f xs) →
    (x : X) × IsIn x xs × IsIn y (f x)
in_flat_map_from f [] h = absurd (none_in h)
in_flat_map_from f (x ∷ xs) h = elim (in_cases (f x) h) [
  | inl k ↦ (x, here xs, k)
  | inr later ↦ let found = in_flat_map_from f xs later in (found.0, there x xs found.1, found.2)
]

pub each_flat_map : {X Y : Type 0} (P : Y → Type 0) (f : X → List Y) (xs : List X) →
    ((x : X) → IsIn x xs → Each P (f x)) → Each P (flat_map f xs)
each_flat_map P f xs p y h = let found = in_flat_map_from f xs h in p found.0 found.1 y found.2

pub in_cons_option : {X : Type 0} {y : X} (o : Option X) (ys : List X) → IsIn y (cons_option o ys) →
    (o ≡ Some y) ⊎ IsIn y ys
in_cons_option None ys h = inr h
in_cons_option (Some x) ys h = elim (in_cons_cases h) [ inl e ↦ inl (ap (λ z. Some z) (sym e)) | inr k ↦ inr k ]

pub in_cons_option_later : {X : Type 0} {y : X} (o : Option X) {ys : List X} → IsIn y ys → IsIn y (cons_option o ys)
in_cons_option_later None h = h
in_cons_option_later (Some x) {ys} h = there x ys h

pub in_cons_option_first : {X : Type 0} {y : X} (o : Option X) (ys : List X) → o ≡ Some y → IsIn y (cons_option o ys)
in_cons_option_first {y = y} o ys e = subst (λ z. IsIn y (cons_option z ys)) (sym e) (here ys)

pub in_filter_map : {X Y : Type 0} (f : X → Option Y) {x : X} {y : Y} {xs : List X} → IsIn x xs → f x ≡ Some y →
    IsIn y (filter_map f xs)
in_filter_map f {x = x} (here rest) e = in_cons_option_first (f x) (filter_map f rest) e
in_filter_map f (there z rest h) e = in_cons_option_later (f z) (in_filter_map f h e)

pub in_filter_map_from : {X Y : Type 0} (f : X → Option Y) {y : Y} (xs : List X) → IsIn y (filter_map f xs) →
    (x : X) × IsIn x xs × (f x ≡ Some y)
in_filter_map_from f [] h = absurd (none_in h)
in_filter_map_from f (x ∷ xs) h = elim (in_cons_option (f x) (filter_map f xs) h) [
  | inl e ↦ (x, here xs, e)
  | inr later ↦ let found = in_filter_map_from f xs later in (found.0, there x xs found.1, found.2)
]

pub in_filter : {X : Type 0} (f : X → Bool) {x : X} {xs : List X} → IsIn x xs → f x ≡ true → IsIn x (filter f xs)
in_filter f {x = x} (here rest) e = subst (λ b. IsIn x (cond b (x ∷ filter f rest) (filter f rest)))
    (sym e) (here (filter f rest))
in_filter {X} f {x} (there z rest h) e = kept (f z) (in_filter f h e)
  where
    kept : (b : Bool) → IsIn x (filter f rest) → IsIn x (cond b (z ∷ filter f rest) (filter f rest))
    kept true k = there z (filter f rest) k
    kept false k = k

in_kept : {X : Type 0} {x y : X} (b : Bool) (ys : List X) → IsIn x (cond b (y ∷ ys) ys) →
    ((b ≡ true) × (x ≡ y)) ⊎ IsIn x ys
in_kept true ys h = elim (in_cons_cases h) [ inl e ↦ inl (refl, e) | inr k ↦ inr k ]
in_kept false ys h = inr h

pub in_filter_from : {X : Type 0} (f : X → Bool) {x : X} (xs : List X) → IsIn x (filter f xs) → IsIn x xs × (f x ≡ true)
in_filter_from f [] h = absurd (none_in h)
in_filter_from f {x} (y ∷ xs) h = elim (in_kept (f y) (filter f xs) h) [
  | inl first ↦ (subst (λ z. IsIn z (y ∷ xs)) (sym first.1) (here xs), ap f first.1 ∙ first.0)
  | inr later ↦ let found = in_filter_from f xs later in (there y xs found.0, found.1)
]

pub in_reverse : {X : Type 0} {x : X} (xs : List X) → IsIn x (reverse xs) → IsIn x xs
in_reverse [] h = h
in_reverse {X} {x} (y ∷ ys) h =
    elim (in_cases (reverse ys) (subst (λ (zs : List X). IsIn x zs) (reverse-append (y ∷ []) ys) h)) [
      | inl earlier ↦ there y ys (in_reverse ys earlier)
      | inr last ↦ elim (in_cons_cases last) [
        | inl same ↦ subst (λ (z : X). IsIn x (z ∷ ys)) same (here ys)
        | inr none ↦ absurd (none_in none)
      ]
    ]

pub in_take : {X : Type 0} {x : X} (n : ℕ) (xs : List X) → IsIn x (take n xs) → IsIn x xs
in_take zero xs h = absurd (none_in h)
in_take (suc n) [] h = absurd (none_in h)
in_take (suc n) (y ∷ xs) h = elim (in_cons_cases h) [
  | inl e ↦ subst (λ z. IsIn z (y ∷ xs)) (sym e) (here xs)
  | inr later ↦ there y xs (in_take n xs later)
]

pub some_same : {X : Type 0} {x y : X} → Some x ≡ Some y → x ≡ y
some_same e = cc

pub none_some : {X : Type 0} {x : X} → None ≡ Some x → ⊥
none_some e = cc

-- the first that passes
pub find_some : {X : Type 0} (f : X → Bool) {x : X} (xs : List X) → find f xs ≡ Some x → IsIn x xs × (f x ≡ true)
find_some f [] e = absurd (none_some e)
find_some {X} f {x = x} (y ∷ xs) e = by_test (f y) refl e (λ later. find_some f xs later)
  where
    by_test : (b : Bool) → f y ≡ b → cond b (Some y) (find f xs) ≡ Some x →
        (find f xs ≡ Some x → IsIn x xs × (f x ≡ true)) → IsIn x (y ∷ xs) × (f x ≡ true)
    by_test true t e later = (
      subst (λ z. IsIn z (y ∷ xs)) (some_same e) (here xs),
      subst (λ z. f z ≡ true) (some_same e) t,
    )
    by_test false t e later = let found = later e in (there y xs found.0, found.1)

pub any_from : {X : Type 0} (f : X → Bool) (xs : List X) → list_any f xs ≡ true → (x : X) × IsIn x xs × (f x ≡ true)
any_from f [] e = absurd (false≢true e)
any_from f (x ∷ xs) e = elim (or_cases (f x) (list_any f xs) e) [
  | inl t ↦ (x, here xs, t)
  | inr later ↦ let found = any_from f xs later in (found.0, there x xs found.1, found.2)
]

pub any_in : {X : Type 0} (f : X → Bool) {x : X} {xs : List X} → IsIn x xs → f x ≡ true → list_any f xs ≡ true
any_in f {x} (here rest) e = or_left (f x) (list_any f rest) e
any_in f (there y rest h) e = or_right (f y) (list_any f rest) (any_in f h e)

pub all_at : {X : Type 0} (f : X → Bool) {x : X} {xs : List X} → IsIn x xs → list_all f xs ≡ true → f x ≡ true
all_at f {x} (here rest) e = (and_parts (f x) (list_all f rest) e).0
all_at f (there y rest h) e = all_at f h (and_parts (f y) (list_all f rest) e).1

pub slice_get-more : {X : Type 0} (xs ys : List X) (k : ℕ) {x : X} → slice_get xs k ≡ Some x →
    slice_get (xs ++ ys) k ≡ Some x
slice_get-more [] ys k e = absurd (none_some e)
slice_get-more (y ∷ xs) ys zero e = e
slice_get-more (y ∷ xs) ys (suc k) e = slice_get-more xs ys k e

pub slice_get-next : {X : Type 0} (xs ys : List X) → slice_get (xs ++ ys) (length xs) ≡ slice_get ys 0
slice_get-next [] ys = refl
slice_get-next (x ∷ xs) ys = slice_get-next xs ys
