-- What goes over the numbers below another, one by one: lists, what is found, lists one after the other, and a test.
-- All crates above that have a loop over the masters go by these.
use Rattle.std.proofs.Common.{◌≡◌, ◌⊎◌, ℕ, zero, suc, ◌+◌, ◌*◌, ◌<◌, ◌≤◌, Bool, true, false, ◌||◌, cond, List, []}
use Rattle.std.proofs.Common.{◌∷◌, ◌++◌, Option, None, Some, length, map, get_or, set, refl, sym, ◌∙◌, ap, inl, inr}
use Rattle.std.proofs.Common.{arith, add-one, ◌&&◌, nat_lt}
use Rattle.std.specs.List.{list_any, filter_map, flat_map, list_all}
use Rattle.std.specs.Option.{option_to_list}
use Rattle.std.proofs.lemmas.Bool.{cases_lt, or_from, and_from, lt-ltb}
use Rattle.std.proofs.lemmas.List.{append-nil, length-append, length-map, map-append, get_or_append_left, get_or_push}
use Rattle.std.proofs.lemmas.List.{set-append_left, set_at}
use Rattle.std.proofs.lemmas.List.Elements.{filter_map-append}
use Rattle.std.proofs.lemmas.List.Folds.{list_any-append, list_all-append}
use Rattle.std.proofs.lemmas.Grind.{flat_map-append}
use Rattle.quorum_sets.specs.Masters.{numbers_below, voters}
use Rattle.quorum_sets.specs.declared.sizes.Sizes.{Sizes}
use Rattle.quorum_sets.proofs.MastersLemmas.{voters-suc}

-- no group has more than 14 masters
pub masters_few : (sizes : Sizes) → sizes.n ≤ 14
masters_few sizes = few sizes.f sizes.k sizes.n sizes.group.at_most_three_intruded
    sizes.group.at_most_two_away sizes.all
  where
    few : (f k n : ℕ) → f ≤ 3 → k ≤ 2 → n ≡ 3 * f + 2 * k + 1 → n ≤ 14
    few f k n most away e = omega arith

pub below_none_at : numbers_below 0 ≡ []
unfolding numbers_below
below_none_at = refl

pub below_one_more : (n : ℕ) → numbers_below (n + 1) ≡ numbers_below n ++ n ∷ []
unfolding numbers_below
below_one_more n = ap numbers_below (add-one n)

pub length-numbers_below : (n : ℕ) → length (numbers_below n) ≡ n
unfolding numbers_below
length-numbers_below zero = refl
length-numbers_below (suc n) = let before = length-numbers_below n in
    omega (arith, length-append (numbers_below n) (n ∷ []))

pub length-numbered : {X : Type 0} (f : ℕ → X) (n : ℕ) → length (map f (numbers_below n)) ≡ n
length-numbered f n = length-map (numbers_below n) f ∙ length-numbers_below n

-- functions that are the same below a number make the same list
pub map_below : {X : Type 0} (f g : ℕ → X) (n : ℕ) → ((k : ℕ) → k < n → f k ≡ g k) →
    map f (numbers_below n) ≡ map g (numbers_below n)
unfolding numbers_below
map_below f g zero same = refl
map_below {X} f g (suc n) same =
    map-append f (numbers_below n) (n ∷ [])
    ∙ (λ i. map_below f g n (λ k less. same k (omega arith)) i ++ same n (omega arith) i ∷ [])
    ∙ sym (map-append g (numbers_below n) (n ∷ []))

-- the element of a number
pub numbered_at : {X : Type 0} (f : ℕ → X) (n k : ℕ) (d : X) → k < n → get_or (map f (numbers_below n)) k d ≡ f k
unfolding numbers_below
numbered_at f zero k d below = absurd (omega arith)
numbered_at {X} f (suc n) k d below =
    ap (λ (xs : List X). get_or xs k d) (map-append f (numbers_below n) (n ∷ []))
    ∙ by (cases_lt k n) (numbered_at f n k d)
  where
    by : (k < n) ⊎ (n ≤ k) → (k < n → get_or (map f (numbers_below n)) k d ≡ f k) →
        get_or (map f (numbers_below n) ++ f n ∷ []) k d ≡ f k
    by (inl less) deeper =
        let size : length (map f (numbers_below n)) ≡ n = length-numbered f n in
        get_or_append_left (map f (numbers_below n)) (f n ∷ []) d k (omega arith) ∙ deeper less
    by (inr last) deeper =
        let here : n ≡ k = omega arith in
        get_or_push (map f (numbers_below n)) (f n) d k (length-numbered f n ∙ here) ∙ ap f here

-- only the element of one number becomes another
pub numbered_set : {X : Type 0} (f g : ℕ → X) (n k : ℕ) → k < n → ((j : ℕ) → (j ≡ k → ⊥) → f j ≡ g j)
    → set (map f (numbers_below n)) k (g k) ≡ map g (numbers_below n)
unfolding numbers_below
numbered_set f g zero k below same = absurd (omega arith)
numbered_set {X} f g (suc n) k below same =
    ap (λ (xs : List X). set xs k (g k)) (map-append f (numbers_below n) (n ∷ []))
    ∙ by (cases_lt k n) (λ less. numbered_set f g n k less same)
    ∙ sym (map-append g (numbers_below n) (n ∷ []))
  where
    by : (k < n) ⊎ (n ≤ k) → (k < n → set (map f (numbers_below n)) k (g k) ≡ map g (numbers_below n))
        → set (map f (numbers_below n) ++ f n ∷ []) k (g k) ≡ map g (numbers_below n) ++ g n ∷ []
    by (inl less) deeper =
        let size : length (map f (numbers_below n)) ≡ n = length-numbered f n in
        let apart : n ≡ k → ⊥ = λ (e : n ≡ k). omega arith in
        set-append_left (map f (numbers_below n)) (f n ∷ []) k (g k) (omega arith)
        ∙ ap (λ (xs : List X). xs ++ f n ∷ []) (deeper less)
        ∙ ap (λ (x : X). map g (numbers_below n) ++ x ∷ []) (same n apart)
    by (inr last) deeper =
        let here : k ≡ n = omega arith in
        set_at (map f (numbers_below n)) (f n) [] (g k) k (length-numbered f n ∙ sym here)
        ∙ ap (λ (m : ℕ). map f (numbers_below n) ++ g m ∷ []) here
        ∙ ap (λ (xs : List X). xs ++ g n ∷ []) (map_below f g n (λ j less. same j (λ (e : j ≡ k). omega arith)))

-- what is found at one number more
pub filter_map_more : {X : Type 0} (f : ℕ → Option X) (n : ℕ) → filter_map f (numbers_below (n + 1)) ≡ filter_map f
    (numbers_below n) ++ option_to_list (f n)
filter_map_more {X = X} f n = ap (filter_map f) (below_one_more n) ∙ filter_map-append f (numbers_below n) (n ∷ [])
    ∙ ap (λ xs. filter_map f (numbers_below n) ++ xs) (last (f n) refl)
  where
    last : (o : Option X) → f n ≡ o → filter_map f (n ∷ []) ≡ option_to_list o
    last None e = rw e refl
    last (Some x) e = rw e refl

pub filter_map_start : {X : Type 0} (f : ℕ → Option X) → filter_map f (numbers_below 0) ≡ []
filter_map_start f = ap (filter_map f) below_none_at

pub filter_map_below : {X : Type 0} (f h : ℕ → Option X) (n : ℕ) → ((j : ℕ) → j < n → f j ≡ h j) →
    filter_map f (numbers_below n) ≡ filter_map h (numbers_below n)
filter_map_below f h zero same = filter_map_start f ∙ sym (filter_map_start h)
filter_map_below f h (suc n) same =
    let before : filter_map f (numbers_below n) ≡ filter_map h (numbers_below n) =
    filter_map_below f h n (λ j lt. same j (omega arith)) in
    let here : f n ≡ h n = same n (omega arith) in
    ap (λ k. filter_map f (numbers_below k)) (sym (add-one n)) ∙ filter_map_more f n
    ∙ ap (λ xs. xs ++ option_to_list (f n)) before ∙ ap (λ x. filter_map h (numbers_below n) ++ option_to_list x)
    here ∙ sym (filter_map_more h n) ∙ ap (λ k. filter_map h (numbers_below k)) (add-one n)

pub filter_map_few : {X : Type 0} (f : ℕ → Option X) (n : ℕ) → length (filter_map f (numbers_below n)) ≤ n
filter_map_few f zero = let none : length (filter_map f (numbers_below 0)) ≡ 0 = ap length (filter_map_start f) in
    omega (arith, none)
filter_map_few {X = X} f (suc n) =
    let more : length (filter_map f (numbers_below (suc n))) ≡ length
    (filter_map f (numbers_below n) ++ option_to_list (f n)) =
    ap length (ap (filter_map f) (ap numbers_below (sym (add-one n))) ∙ filter_map_more f n) in
    let one : length (filter_map f (numbers_below n) ++ option_to_list (f n)) ≤ suc
    (length (filter_map f (numbers_below n))) = at (filter_map f (numbers_below n)) (f n) in
    omega (arith, more, one, filter_map_few f n)
  where
    at : (xs : List X) (o : Option X) → length (xs ++ option_to_list o) ≤ suc (length xs)
    at xs None = omega (arith, length-append xs [])
    at xs (Some x) = omega (arith, length-append xs (x ∷ []))

-- the lists of the numbers, one after the other
pub below_step : {X : Type 0} (f : ℕ → List X) (n : ℕ) →
    flat_map f (numbers_below (suc n)) ≡ flat_map f (numbers_below n) ++ f n
unfolding numbers_below
below_step f n = flat_map-append f (numbers_below n) (n ∷ [])
    ∙ ap (λ (ys : List _). flat_map f (numbers_below n) ++ ys) (append-nil (f n))

pub flat_below : {X : Type 0} (f g : ℕ → List X) (n : ℕ) → ((a : ℕ) → a < n → f a ≡ g a) →
    flat_map f (numbers_below n) ≡ flat_map g (numbers_below n)
unfolding numbers_below
flat_below f g zero same = refl
flat_below {X} f g (suc n) same =
    let rest : flat_map f (numbers_below n) ≡ flat_map g (numbers_below n) =
    flat_below f g n (λ a h. same a (omega arith)) in
    let last : f n ≡ g n = same n (omega arith) in
    below_step f n ∙ (λ i. rest i ++ last i) ∙ sym (below_step g n)

-- a number below passes, so one does
pub any_below : (p : ℕ → Bool) (n m : ℕ) → m < n → p m ≡ true → list_any p (numbers_below n) ≡ true
unfolding numbers_below
any_below p zero m low is = absurd (omega arith)
any_below p (suc n) m low is = list_any-append p (numbers_below n) (n ∷ []) ∙ by (cases_lt m n) (any_below p n m)
  where
    either_way : (b : Bool) → b || (true || false) ≡ true
    either_way true = refl
    either_way false = refl

    by : (m < n) ⊎ (n ≤ m) → (m < n → p m ≡ true → list_any p (numbers_below n) ≡ true) →
        list_any p (numbers_below n) || (p n || false) ≡ true
    by (inl less) deeper = ap (λ (b : Bool). b || (p n || false)) (deeper less is)
    by (inr last) deeper =
        let here : n ≡ m = omega arith in
        ap (λ (b : Bool). list_any p (numbers_below n) || (b || false)) (ap p here ∙ is)
        ∙ either_way (list_any p (numbers_below n))

-- where none passes from a number on, those below more numbers are the same
pub voters_up_to : (t : ℕ → Bool) (m more : ℕ) → ((a : ℕ) → m ≤ a → t a ≡ false) → voters t (m + more) ≡ voters t m
voters_up_to t m zero none = ap (voters t) (omega arith)
voters_up_to t m (suc more) none =
    let next : m + suc more ≡ suc (m + more) = omega arith in
    ap (voters t) next ∙ voters-suc t (m + more)
    ∙ ap (λ (b : Bool). voters t (m + more) ++ cond b ((m + more) ∷ []) []) (none (m + more) (omega arith))
    ∙ append-nil (voters t (m + more)) ∙ voters_up_to t m more none

pub map_start : {X : Type 0} (f : ℕ → X) → map f (numbers_below 0) ≡ []
map_start f = ap (map f) below_none_at

-- one more master's value
pub map_more : {X : Type 0} (f : ℕ → X) (n : ℕ) → map f (numbers_below (n + 1)) ≡ map f (numbers_below n) ++ f n ∷ []
map_more f n = ap (map f) (below_one_more n) ∙ map-append f (numbers_below n) (n ∷ [])

pub any_start : (p : ℕ → Bool) → list_any p (numbers_below 0) ≡ false
any_start p = ap (list_any p) below_none_at

-- one more master is asked
pub any_more : (p : ℕ → Bool) (n : ℕ) → list_any p (numbers_below n) ≡ false → p n ≡ false →
    list_any p (numbers_below (n + 1)) ≡ false
any_more p n none fails = ap (list_any p) (below_one_more n) ∙ list_any-append p (numbers_below n) (n ∷ [])
    ∙ or_from (list_any p (numbers_below n)) (p n || false) none (ap (λ b. b || false) fails)

-- what each number passes all pass
pub all_numbered : (p : ℕ → Bool) (n : ℕ) → ((m : ℕ) → m < n → p m ≡ true) → list_all p (numbers_below n) ≡ true
unfolding numbers_below
all_numbered p zero each = refl
all_numbered p (suc n) each =
    list_all-append p (numbers_below n) (n ∷ [])
    ∙ and_from (list_all p (numbers_below n)) (p n && true) (all_numbered p n (λ m less. each m (omega arith)))
    (and_from (p n) true (each n (omega arith)) refl)

pub numbers_pass : (n m : ℕ) → n ≤ m → list_all (λ a. nat_lt a m) (numbers_below n) ≡ true
numbers_pass n m low = all_numbered (λ a. nat_lt a m) n (λ a less. lt-ltb a m (omega arith))
