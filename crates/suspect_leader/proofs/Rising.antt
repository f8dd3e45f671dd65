-- Numbers and sayings in rising order, and which there are.
use Rattle.std.proofs.Common.{◌≡◌, ℕ, zero, suc, ◌<◌, ◌≤◌, Bool, true, false, cond, ◌&&◌, ◌||◌, List, [], ◌∷◌, ◌++◌}
use Rattle.std.proofs.Common.{filter, nat_eq, nat_lt, nat_le, refl, sym, ◌∙◌, ap, arith, add-one}
use Rattle.std.specs.List.{list_any, AllByRecursion}
use Rattle.std.proofs.lemmas.Bool.{leb-true, leb-false, ltb-true, ltb-false, lt-ltb, le-ltb, eqb-true, eqb-false}
use Rattle.std.proofs.lemmas.List.Folds.{list_any-append}
use Rattle.quorum_sets.specs.Masters.{numbers_below}
use Rattle.protocol_rules.specs.Words.{put_in_order, in_order, each_once}
use Rattle.quorum_sets.proofs.Numbered.{below_one_more, below_none_at}
use Rattle.plain_lists.proofs.Booleans.{or_middle}

abbrev pub Each : {X : Type 0} → (X → Type 0) → List X → Type 0
Each = AllByRecursion

pub each_then : {X : Type 0} (P Q : X → Type 0) (xs : List X) → ((x : X) → P x → Q x) → Each P xs → Each Q xs
each_then P Q [] f all = tt
each_then P Q (x ∷ rest) f all = (f x all.0, each_then P Q rest f all.1)

each_filter : {X : Type 0} (P : X → Type 0) (p : X → Bool) (xs : List X) → Each P xs → Each P (filter p xs)
each_filter P p [] all = tt
each_filter {X} P p (x ∷ rest) all = at (p x) (each_filter P p rest all.1)
  where
    at : (b : Bool) → Each P (filter p rest) → Each P (cond b (x ∷ filter p rest) (filter p rest))
    at true more = (all.0, more)
    at false more = more

pub each_append : {X : Type 0} (P : X → Type 0) (xs ys : List X) → Each P xs → Each P ys → Each P (xs ++ ys)
each_append P [] ys one two = two
each_append P (x ∷ rest) ys one two = (one.0, each_append P rest ys one.1 two)

-- numbers that don't fall, and numbers that rise
abbrev Climbing : List ℕ → Type 0
Climbing [] = Unit {0}
Climbing (x ∷ rest) = Each (λ y. x ≤ y) rest × Climbing rest

abbrev pub Steps : List ℕ → Type 0
Steps [] = Unit {0}
Steps (x ∷ rest) = Each (λ y. x < y) rest × Steps rest

pub each_put : (P : ℕ → Type 0) (x : ℕ) (l : List ℕ) → P x → Each P l → Each P (put_in_order x l)
each_put P x [] one all = (one, tt)
each_put P x (y ∷ rest) one all = at (nat_le x y) (each_put P x rest one all.1)
  where
    at : (b : Bool) → Each P (put_in_order x rest) → Each P (cond b (x ∷ y ∷ rest) (y ∷ put_in_order x rest))
    at true more = (one, all)
    at false more = (all.0, more)

climbing_put : (x : ℕ) (l : List ℕ) → Climbing l → Climbing (put_in_order x l)
climbing_put x [] up = (tt, tt)
climbing_put x (y ∷ rest) up = at (nat_le x y) refl (climbing_put x rest up.1)
  where
    at : (b : Bool) → nat_le x y ≡ b → Climbing (put_in_order x rest) →
        Climbing (cond b (x ∷ y ∷ rest) (y ∷ put_in_order x rest))
    at true e more =
        let le : x ≤ y = leb-true x y e in
        ((le, each_then (λ z. y ≤ z) (λ z. x ≤ z) rest (λ z h. omega (arith, le, h)) up.0), up)
    at false e more =
        let lt : y < x = leb-false x y e in
        (each_put (λ z. y ≤ z) x rest (omega (arith, lt)) up.0, more)

climbing : (xs : List ℕ) → Climbing (in_order xs)
unfolding in_order
climbing [] = tt
climbing (x ∷ rest) = climbing_put x (in_order rest) (climbing rest)

each_once_each : (P : ℕ → Type 0) (xs : List ℕ) → Each P xs → Each P (each_once xs)
unfolding each_once
each_once_each P [] all = tt
each_once_each P (x ∷ []) all = all
each_once_each P (x ∷ y ∷ rest) all = at (nat_eq x y) (each_once_each P (y ∷ rest) all.1)
  where
    at : (b : Bool) → Each P (each_once (y ∷ rest)) → Each P (cond b (each_once (y ∷ rest)) (x ∷ each_once (y ∷ rest)))
    at true more = more
    at false more = (all.0, more)

steps_once : (xs : List ℕ) → Climbing xs → Steps (each_once xs)
unfolding each_once
steps_once [] up = tt
steps_once (x ∷ []) up = (tt, tt)
steps_once (x ∷ y ∷ rest) up = at (nat_eq x y) refl (steps_once (y ∷ rest) up.1)
  where
    at : (b : Bool) → nat_eq x y ≡ b → Steps (each_once (y ∷ rest)) →
        Steps (cond b (each_once (y ∷ rest)) (x ∷ each_once (y ∷ rest)))
    at true e more = more
    at false e more =
        let le : x ≤ y = up.0.0 in
        let ne : x ≡ y → ⊥ = eqb-false x y e in
        let lt : x < y = omega (arith, le, ne) in (
          each_once_each (λ z. x < z) (y ∷ rest)
              (lt, each_then (λ z. y ≤ z) (λ z. x < z) rest (λ z h. omega (arith, lt, h)) up.1.0),
          more,
        )

pub steps_in_order : (xs : List ℕ) → Steps (each_once (in_order xs))
steps_in_order xs = steps_once (in_order xs) (climbing xs)

pub steps_filter : (p : ℕ → Bool) (xs : List ℕ) → Steps xs → Steps (filter p xs)
steps_filter p [] up = tt
steps_filter p (x ∷ rest) up = at (p x) (steps_filter p rest up.1)
  where
    at : (b : Bool) → Steps (filter p rest) → Steps (cond b (x ∷ filter p rest) (filter p rest))
    at true more = (each_filter (λ y. x < y) p rest up.0, more)
    at false more = more

steps_snoc : (xs : List ℕ) (n : ℕ) → Steps xs → Each (λ y. y < n) xs → Steps (xs ++ n ∷ [])
steps_snoc [] n up all = (tt, tt)
steps_snoc (x ∷ rest) n up all = (each_append (λ y. x < y) rest (n ∷ []) up.0 (all.0, tt), steps_snoc rest n up.1 all.1)

below_each : (n : ℕ) → Each (λ y. y < n) (numbers_below n)
unfolding numbers_below
below_each zero = tt
below_each (suc n) = each_append (λ y. y < suc n) (numbers_below n) (n ∷ [])
    (each_then (λ y. y < n) (λ y. y < suc n) (numbers_below n) (λ y h. omega (arith, h)) (below_each n))
    (omega arith, tt)

pub steps_below : (n : ℕ) → Steps (numbers_below n)
unfolding numbers_below
steps_below zero = tt
steps_below (suc n) = steps_snoc (numbers_below n) n (steps_below n) (below_each n)

pub or_twice : (a d : Bool) → (a || d) ≡ (a || (a || d))
or_twice true d = refl
or_twice false d = refl

any_put : (p : ℕ → Bool) (x : ℕ) (l : List ℕ) → list_any p (put_in_order x l) ≡ (p x || list_any p l)
any_put p x [] = refl
any_put p x (y ∷ rest) = at (nat_le x y) (any_put p x rest)
  where
    at : (b : Bool) → list_any p (put_in_order x rest) ≡ (p x || list_any p rest) →
        list_any p (cond b (x ∷ y ∷ rest) (y ∷ put_in_order x rest)) ≡ (p x || (p y || list_any p rest))
    at true more = refl
    at false more = ap (λ b. p y || b) more ∙ or_middle (p y) (p x) (list_any p rest)

any_in_order : (p : ℕ → Bool) (xs : List ℕ) → list_any p (in_order xs) ≡ list_any p xs
unfolding in_order
any_in_order p [] = refl
any_in_order p (x ∷ rest) = any_put p x (in_order rest) ∙ ap (λ b. p x || b) (any_in_order p rest)

any_once : (p : ℕ → Bool) (xs : List ℕ) → list_any p (each_once xs) ≡ list_any p xs
unfolding each_once
any_once p [] = refl
any_once p (x ∷ []) = refl
any_once p (x ∷ y ∷ rest) = at (nat_eq x y) refl (any_once p (y ∷ rest))
  where
    at : (b : Bool) → nat_eq x y ≡ b → list_any p (each_once (y ∷ rest)) ≡ (p y || list_any p rest) →
        list_any p (cond b (each_once (y ∷ rest)) (x ∷ each_once (y ∷ rest))) ≡ (p x || (p y || list_any p rest))
    at true e more = more ∙ or_twice (p y) (list_any p rest)
        ∙ ap (λ v. p v || (p y || list_any p rest)) (sym (eqb-true x y e))
    at false e more = ap (λ b. p x || b) more

pub any_each_once : (p : ℕ → Bool) (xs : List ℕ) → list_any p (each_once (in_order xs)) ≡ list_any p xs
any_each_once p xs = any_once p (in_order xs) ∙ any_in_order p xs

-- whether a number is among a first one and others, by whether the first is kept
abbrev any_kept : (ℕ → Bool) → ℕ → ℕ → List ℕ → Bool → Bool
any_kept p n x rest b = list_any (nat_eq n) (cond b (x ∷ filter p rest) (filter p rest))

pub any_filter : (p : ℕ → Bool) (n : ℕ) (xs : List ℕ) →
    list_any (nat_eq n) (filter p xs) ≡ (p n && list_any (nat_eq n) xs)
any_filter p n [] = nothing (p n)
  where
    nothing : (b : Bool) → false ≡ (b && false)
    nothing true = refl
    nothing false = refl
any_filter p n (x ∷ rest) = at (p x) refl (nat_eq n x) refl (any_filter p n rest)
  where
    at : (b : Bool) → p x ≡ b → (t : Bool) → nat_eq n x ≡ t →
        list_any (nat_eq n) (filter p rest) ≡ (p n && list_any (nat_eq n) rest)
        → list_any (nat_eq n) (cond (p x) (x ∷ filter p rest) (filter p rest)) ≡
        (p n && (nat_eq n x || list_any (nat_eq n) rest))
    at true e true h more =
        ap (any_kept p n x rest) e
        ∙ ap (λ t. t || list_any (nat_eq n) (filter p rest)) h
        ∙ sym (ap (λ t. p n && (t || list_any (nat_eq n) rest)) h ∙ ap (λ b. b && true) (ap p (eqb-true n x h) ∙ e))
    at true e false h more =
        ap (any_kept p n x rest) e
        ∙ ap (λ t. t || list_any (nat_eq n) (filter p rest)) h ∙ more
        ∙ sym (ap (λ t. p n && (t || list_any (nat_eq n) rest)) h)
    at false e true h more =
        ap (any_kept p n x rest) e ∙ more
        ∙ ap (λ b. b && list_any (nat_eq n) rest) (ap p (eqb-true n x h) ∙ e)
        ∙ sym (ap (λ b. b && (nat_eq n x || list_any (nat_eq n) rest)) (ap p (eqb-true n x h) ∙ e))
    at false e false h more =
        ap (any_kept p n x rest) e ∙ more
        ∙ sym (ap (λ t. p n && (t || list_any (nat_eq n) rest)) h)

pub any_below : (n m : ℕ) → list_any (nat_eq m) (numbers_below n) ≡ nat_lt m n
any_below zero m = ap (list_any (nat_eq m)) below_none_at ∙ sym (le-ltb m 0 (omega arith))
any_below (suc n) m =
    ap (list_any (nat_eq m)) (ap numbers_below (sym (add-one n)) ∙ below_one_more n)
    ∙ list_any-append (nat_eq m) (numbers_below n) (n ∷ [])
    ∙ ap (λ b. b || (nat_eq m n || false)) (any_below n m) ∙ at (nat_lt m n) refl (nat_eq m n) refl
  where
    at : (l : Bool) → nat_lt m n ≡ l → (e : Bool) → nat_eq m n ≡ e → (l || (e || false)) ≡ nat_lt m (suc n)
    at true lt e h = let below : m < n = ltb-true m n lt in sym (lt-ltb m (suc n) (omega (arith, below)))
    at false lt true h = let same : m ≡ n = eqb-true m n h in sym (lt-ltb m (suc n) (omega (arith, same)))
    at false lt false h =
        let not_below : n ≤ m = ltb-false m n lt in
        let other : m ≡ n → ⊥ = eqb-false m n h in
        sym (le-ltb m (suc n) (omega (arith, not_below, other)))
