-- Lists: what passes a test, what is found, and what is at a place.
use Rattle.std.proofs.Common.{◌≡◌, ℕ, zero, suc, ◌<◌, Bool, true, false, cond, List, [], ◌∷◌, Option, Some, None}
use Rattle.std.proofs.Common.{length, get_or, take, refl, sym, ◌∙◌, ap, arith, ◌≤◌, filter, min, ◌+◌, drop, ◌++◌, map}
use Rattle.std.specs.List.{find, filter_map, cons_option, list_all}
use Rattle.std.proofs.lemmas.Option.{none-some}
use Rattle.std.proofs.lemmas.Bool.{and_parts, and_from}
use Rattle.std.specs.Prelude.{slice_get, replicate}
use Rattle.std.proofs.lemmas.List.{length-take, drop_more}
use Rattle.std.specs.Option.{option_to_list}

-- what is found first at a place before which nothing was found
pub found_at : {X : Type 0} (t : X → Bool) (xs : List X) (i : ℕ) (x : X) → i < length xs → x ≡ get_or xs i x →
    find t (take i xs) ≡ None → t x ≡ true → find t xs ≡ Some x
found_at t [] i x below is none passes = absurd (omega arith)
found_at {X} t (y ∷ xs) zero x below is none passes =
    ap (λ (b : Bool). cond b (Some y) (find t xs)) (ap t (sym is) ∙ passes) ∙ ap (λ (z : X). Some z) (sym is)
found_at {X} t (y ∷ xs) (suc i) x below is none passes =
    by (t y) refl none (λ later. found_at t xs i x (omega arith) is later passes)
  where
    by : (b : Bool) → t y ≡ b → cond b (Some y) (find t (take i xs)) ≡ None →
        (find t (take i xs) ≡ None → find t xs ≡ Some x) → cond (t y) (Some y) (find t xs) ≡ Some x
    by true e bad deeper = absurd (none-some y (sym bad))
    by false e later deeper = ap (λ (b : Bool). cond b (Some y) (find t xs)) e ∙ deeper later

pub none_at : {X : Type 0} (t : X → Bool) (xs : List X) (i : ℕ) (x : X) → i < length xs → x ≡ get_or xs i x →
    find t (take i xs) ≡ None → t x ≡ false → find t (take (suc i) xs) ≡ None
none_at t [] i x below is none fails = absurd (omega arith)
none_at {X} t (y ∷ xs) zero x below is none fails = ap (λ (b : Bool). cond b (Some y) None) (ap t (sym is) ∙ fails)
none_at {X} t (y ∷ xs) (suc i) x below is none fails =
    by (t y) refl none (λ later. none_at t xs i x (omega arith) is later fails)
  where
    by : (b : Bool) → t y ≡ b → cond b (Some y) (find t (take i xs)) ≡ None →
        (find t (take i xs) ≡ None → find t (take (suc i) xs) ≡ None) →
        cond (t y) (Some y) (find t (take (suc i) xs)) ≡ None
    by true e bad deeper = absurd (none-some y (sym bad))
    by false e later deeper = ap (λ (b : Bool). cond b (Some y) (find t (take (suc i) xs))) e ∙ deeper later

pub found_within : {X Y : Type 0} (f : X → Option Y) (xs : List X) → length (filter_map f xs) ≤ length xs
found_within f [] = omega arith
found_within {X} {Y} f (x ∷ xs) = by_first (f x) (found_within f xs)
  where
    by_first : (o : Option Y) → length (filter_map f xs) ≤ length xs →
        length (cons_option o (filter_map f xs)) ≤ suc (length xs)
    by_first None less = omega arith
    by_first (Some y) less = omega arith

pub filter-again : {X : Type 0} (p : X → Bool) (xs : List X) → filter p (filter p xs) ≡ filter p xs
filter-again p [] = refl
filter-again {X} p (x ∷ xs) = by (p x) refl (filter-again p xs)
  where
    by : (b : Bool) → p x ≡ b → filter p (filter p xs) ≡ filter p xs →
        filter p (cond b (x ∷ filter p xs) (filter p xs)) ≡ cond b (x ∷ filter p xs) (filter p xs)
    by true e rest = ap (λ b. cond b (x ∷ filter p (filter p xs)) (filter p (filter p xs))) e ∙ ap (λ ys. x ∷ ys) rest
    by false e rest = rest

pub all_filter : {X : Type 0} (p q : X → Bool) (xs : List X) → list_all p xs ≡ true → list_all p (filter q xs) ≡ true
all_filter p q [] all = refl
all_filter p q (x ∷ xs) all = at (q x) (all_filter p q xs (and_parts (p x) (list_all p xs) all).1)
  where
    at : (b : Bool) → list_all p (filter q xs) ≡ true → list_all p (cond b (x ∷ filter q xs) (filter q xs)) ≡ true
    at true h = and_from (p x) (list_all p (filter q xs)) (and_parts (p x) (list_all p xs) all).0 h
    at false h = h

-- what passes a test passes a weaker one
pub all_weaker : {X : Type 0} (f g : X → Bool) (xs : List X) → ((x : X) → f x ≡ true → g x ≡ true) →
    list_all f xs ≡ true → list_all g xs ≡ true
all_weaker f g [] weaker all = refl
all_weaker f g (x ∷ xs) weaker all =
    let parts = and_parts (f x) (list_all f xs) all in
    and_from (g x) (list_all g xs) (weaker x parts.0) (all_weaker f g xs weaker parts.1)

pub all_take : {X : Type 0} (p : X → Bool) (n : ℕ) (xs : List X) → list_all p xs ≡ true → list_all p (take n xs) ≡ true
all_take p zero xs all = refl
all_take p (suc n) [] all = refl
all_take p (suc n) (x ∷ xs) all = let both = and_parts (p x) (list_all p xs) all in
    and_from (p x) (list_all p (take n xs)) both.0 (all_take p n xs both.1)

pub all_at_place : {X : Type 0} (f : X → Bool) (xs : List X) (i : ℕ) (x : X) → list_all f xs ≡ true →
    slice_get xs i ≡ Some x → f x ≡ true
all_at_place f [] i x all found = absurd cc
all_at_place f (y ∷ ys) zero x all found = let same : y ≡ x = cc in
    ap f (sym same) ∙ (and_parts (f y) (list_all f ys) all).0
all_at_place f (y ∷ ys) (suc i) x all found = all_at_place f ys i x (and_parts (f y) (list_all f ys) all).1 found

pub all_at : {X : Type 0} (p : X → Bool) (xs : List X) (i : ℕ) (x : X) → list_all p xs ≡ true → i < length xs →
    x ≡ get_or xs i x → p x ≡ true
all_at p [] i x all below is = absurd (omega arith)
all_at p (y ∷ ys) zero x all below is = ap p is ∙ (and_parts (p y) (list_all p ys) all).0
all_at p (y ∷ ys) (suc i) x all below is = all_at p ys i x (and_parts (p y) (list_all p ys) all).1 (omega arith) is

filter_map-passed : {X Y : Type 0} (f : X → Option Y) (x : X) (xs ys : List X) (o : Option Y) → f x ≡ o →
    filter_map f ys ≡ filter_map f xs → filter_map f (x ∷ ys) ≡ filter_map f (x ∷ xs)
filter_map-passed f x xs ys None is rest = rw is rest
filter_map-passed f x xs ys (Some y) is rest = rw is (ap (λ zs. y ∷ zs) rest)

filter_map-step : {X Y : Type 0} (f : X → Option Y) (p : X → Bool) (x : X) (xs : List X) (b : Bool) → p x ≡ b →
    (p x ≡ false → f x ≡ None) → filter_map f (filter p xs) ≡ filter_map f xs →
    filter_map f (filter p (x ∷ xs)) ≡ filter_map f (x ∷ xs)
filter_map-step f p x xs true e none rest = rw e (filter_map-passed f x xs (filter p xs) (f x) refl rest)
filter_map-step f p x xs false e none rest = rw e (rw (none e) rest)

-- what a function gives of the elements that count is what it gives of all
pub filter_map-filter : {X Y : Type 0} (f : X → Option Y) (p : X → Bool) → ((x : X) → p x ≡ false → f x ≡ None) →
    (xs : List X) → filter_map f (filter p xs) ≡ filter_map f xs
filter_map-filter f p none [] = refl
filter_map-filter f p none (x ∷ xs) = filter_map-step f p x xs (p x) refl (none x) (filter_map-filter f p none xs)

pub take_few : {X : Type 0} (n : ℕ) (xs : List X) → length (take n xs) ≤ length xs
take_few n xs = let same : length (take n xs) ≡ min n (length xs) = length-take n xs in omega arith

pub one_listed : {X : Type 0} (o : Option X) → cons_option o [] ≡ option_to_list o
one_listed None = refl
one_listed (Some x) = refl

pub take_whole : {X : Type 0} (xs : List X) (i : ℕ) → length xs ≤ i → take i xs ≡ xs
take_whole [] zero less = refl
take_whole [] (suc i) less = refl
take_whole (y ∷ xs) zero less = absurd (omega arith)
take_whole {X} (y ∷ xs) (suc i) less = ap (λ (zs : List X). y ∷ zs) (take_whole xs i (omega arith))

-- what is left of a list from a place on, with the element there
pub left_more : {X : Type 0} (xs : List X) (i : ℕ) (x : X) → i < length xs → x ≡ get_or xs i x →
    drop i xs ≡ x ∷ drop (i + 1) xs
left_more xs i x below is = drop_more xs i x below ∙ ap (λ y. y ∷ drop (i + 1) xs) (sym is)

pub get_left : {X : Type 0} (xs ys : List X) (i : ℕ) → i < length xs → slice_get (xs ++ ys) i ≡ slice_get xs i
get_left [] ys i below = absurd (omega arith)
get_left (x ∷ xs) ys zero below = refl
get_left (x ∷ xs) ys (suc i) below = get_left xs ys i (omega arith)

pub take_left : {X : Type 0} (xs ys : List X) (i : ℕ) → i ≤ length xs → take i (xs ++ ys) ≡ take i xs
take_left xs ys zero most = refl
take_left [] ys (suc i) most = absurd (omega arith)
take_left {X} (x ∷ xs) ys (suc i) most = ap (λ (zs : List X). x ∷ zs) (take_left xs ys i (omega arith))

pub mapped_at : {X Y : Type 0} (f : X → Y) (xs : List X) (i : ℕ) (x : X) → i < length xs → x ≡ get_or xs i x →
    f x ≡ get_or (map f xs) i (f x)
mapped_at f [] i x below is = absurd (omega arith)
mapped_at f (y ∷ ys) zero x below is = ap f is
mapped_at f (y ∷ ys) (suc i) x below is = mapped_at f ys i x (omega arith) is

pub take_suc : {X : Type 0} (xs : List X) (i : ℕ) (x : X) → slice_get xs i ≡ Some x →
    take (suc i) xs ≡ take i xs ++ x ∷ []
take_suc [] i x is = absurd cc
take_suc (y ∷ ys) zero x is = let same : y ≡ x = cc in ap (λ z. z ∷ []) same
take_suc (y ∷ ys) (suc i) x is = ap (λ zs. y ∷ zs) (take_suc ys i x is)

pub map_map : {X Y Z : Type 0} (f : Y → Z) (g : X → Y) (xs : List X) → map f (map g xs) ≡ map (λ x. f (g x)) xs
map_map f g [] = refl
map_map f g (x ∷ xs) = ap (λ ys. f (g x) ∷ ys) (map_map f g xs)

pub no_mark : (n v : ℕ) → get_or (replicate n false) v false ≡ false
no_mark zero v = refl
no_mark (suc n) zero = refl
no_mark (suc n) (suc v) = no_mark n v
