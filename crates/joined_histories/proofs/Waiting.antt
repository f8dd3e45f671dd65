-- Which entries wait, as the code finds it.
use Rattle.std.proofs.Common.{◌≡◌, ◌<◌, ◌+◌, ◌^◌, ℕ, zero, suc, Bool, true, false, ◌&&◌, ◌||◌, not, List, [], ◌∷◌, ◌++◌}
use Rattle.std.proofs.Common.{Option, Some, None, length, map, take, drop, get_or, refl, sym, ◌∙◌, ap, subst, arith, ◌≤◌}
use Rattle.std.specs.Prelude.{slice_get, MatchOption}
use Rattle.std.specs.List.{list_any}
use Rattle.std.proofs.lemmas.Bool.{true≢false, and_parts, lt-ltb}
use Rattle.std.proofs.lemmas.List.{length-map, map-append}
use Rattle.std.proofs.lemmas.List.Folds.{list_any-append, list_any_at, list_any_more}
use Rattle.std.proofs.Math.Bool.{or-false}
use Rattle.history_rules.specs.Events.{Entry}
use Rattle.history_rules.specs.Setup.{Setup}
use Rattle.joint_lists.specs.Joint.{kept_by}
use Rattle.joined_histories.specs.Order.{AllWait, IsDue, NoneLeft, is_left, is_ready, next_waits, waits, waits_if}
use Rattle.joined_histories.proofs.Left.{HasNext, has_next, next_found}

-- ---- A list looked through from behind.

module _ {X Y : Type 0} (f : Y → Bool) (g : X → Y) (before : List X) (last : X) (xs : List X) (is : xs ≡ before ++ last ∷ []) where
  any_split : list_any f (map g xs) ≡ (list_any f (map g before) || f (g last))
  any_split =
      ap (λ (zs : List X). list_any f (map g zs)) is ∙ ap (list_any f) (map-append g before (last ∷ []))
      ∙ list_any-append f (map g before) (g last ∷ [])
      ∙ ap (λ (b : Bool). list_any f (map g before) || b) (or-false (f (g last)))

  or_true : (a : Bool) → (a || true) ≡ true
  or_true true = refl
  or_true false = refl

  pub any_at_last : f (g last) ≡ true → list_any f (map g xs) ≡ true
  any_at_last it = any_split ∙ ap (λ (b : Bool). list_any f (map g before) || b) it ∙ or_true (list_any f (map g before))

  pub any_but_last : f (g last) ≡ false → list_any f (map g xs) ≡ list_any f (map g before)
  any_but_last it =
      any_split ∙ ap (λ (b : Bool). list_any f (map g before) || b) it ∙ or-false (list_any f (map g before))

pub any_of_none : {X Y : Type 0} (f : Y → Bool) (g : X → Y) (xs : List X) → length xs ≡ 0 → list_any f (map g xs) ≡ false
any_of_none f g [] none = refl
any_of_none f g (x ∷ xs) none = absurd (omega arith)

-- ---- Beginnings and ends.

pub map_take : {X Y : Type 0} (g : X → Y) (n : ℕ) (xs : List X) → map g (take n xs) ≡ take n (map g xs)
map_take g zero xs = refl
map_take g (suc n) [] = refl
map_take g (suc n) (x ∷ xs) = ap (λ zs. g x ∷ zs) (map_take g n xs)

pub any_drop : {X Y : Type 0} (f : Y → Bool) (g : X → Y) (n : ℕ) (xs : List X) →
    list_any (λ x. f (g x)) (drop n xs) ≡ list_any f (drop n (map g xs))
any_drop f g zero [] = refl
any_drop f g zero (x ∷ xs) = ap (λ b. f (g x) || b) (any_drop f g zero xs)
any_drop f g (suc n) [] = refl
any_drop f g (suc n) (x ∷ xs) = any_drop f g n xs

pub any_beyond : {X : Type 0} (f : X → Bool) (n : ℕ) (xs : List X) → length xs ≤ n → list_any f (drop n xs) ≡ false
any_beyond f zero [] beyond = refl
any_beyond f zero (x ∷ xs) beyond = absurd (omega arith)
any_beyond f (suc n) [] beyond = refl
any_beyond f (suc n) (x ∷ xs) beyond = any_beyond f n xs (omega arith)

pub and_false : (a b : Bool) → b ≡ false → (a && b) ≡ false
and_false true b is = is
and_false false b is = refl

-- ---- The next entry.

pub next_is : (w : Setup) (lists : List (List Entry)) (next : List ℕ) (actor : ℕ) (x : Entry) →
    is_left lists next actor ≡ true → x ≡ get_or (kept_by lists actor) (get_or next actor 0) x →
    next_waits w lists next actor ≡ waits w lists next x
next_is w lists next actor x left is =
    ap (waits_if w lists next) (next_found lists next actor x (has_next lists next actor left).some is)

-- one that is ready may come
pub due_ready : (w : Setup) (lists : List (List Entry)) (next : List ℕ) (actor : ℕ) → is_ready w lists next actor ≡ true →
    IsDue w lists next actor
due_ready w lists next actor ready =
    let both = and_parts (is_left lists next actor) (not (next_waits w lists next actor)) ready in
    record { left = both.0; waits = λ waiting. absurd (true≢false (sym both.1 ∙ ap not waiting)) }

waits_left : (left waiting : Bool) → (left && not waiting) ≡ false → left ≡ true → waiting ≡ true
waits_left true true none so = refl
waits_left true false none so = absurd (true≢false none)
waits_left false waiting none so = absurd (true≢false (sym so))

-- where none is ready all that are left wait
pub all_wait : (w : Setup) (lists : List (List Entry)) (next : List ℕ) (actors : ℕ) → length lists ≤ actors →
    ((actor : ℕ) → actor < actors → is_ready w lists next actor ≡ false) → AllWait w lists next
all_wait w lists next actors all none = λ actor left.
    let there : actor < length lists = (has_next lists next actor left).there in
    waits_left (is_left lists next actor) (next_waits w lists next actor) (none actor (omega arith)) left

-- so the lowest that is left may come
pub due_lowest : (w : Setup) (lists : List (List Entry)) (next : List ℕ) (found : Option ℕ) → AllWait w lists next →
    MatchOption found (NoneLeft lists next) (λ actor. is_left lists next actor ≡ true) →
    MatchOption found (NoneLeft lists next) (IsDue w lists next)
due_lowest w lists next None all is = is
due_lowest w lists next (Some actor) all is = record { left = is; waits = λ waiting. all }

-- ---- What is still to come of a list.

module _ {X Y : Type 0} (f : Y → Bool) (g : X → Y) (n : ℕ) (xs : List X) (ys : List Y) (all : map g xs ≡ ys) where
  pub later_split : (front back : List X) (r : Bool) → front ≡ take n xs → back ≡ drop n xs →
      r ≡ (not (list_any f (map g front)) && list_any (λ x. f (g x)) back) →
      r ≡ (not (list_any f (take n ys)) && list_any f (drop n ys))
  later_split front back r first last is =
      let before : map g front ≡ take n ys = ap (map g) first ∙ map_take g n xs ∙ ap (take n) all in
      let after : list_any (λ x. f (g x)) back ≡ list_any f (drop n ys) =
      ap (list_any (λ x. f (g x))) last ∙ any_drop f g n xs ∙ ap (λ zs. list_any f (drop n zs)) all in
      is ∙ (λ i. not (list_any f (before i)) && after i)

  pub later_none : length xs ≤ n → false ≡ (not (list_any f (take n ys)) && list_any f (drop n ys))
  later_none beyond =
      let long : length ys ≡ length xs = sym (ap length all) ∙ length-map xs g in
      sym (and_false (not (list_any f (take n ys))) (list_any f (drop n ys)) (any_beyond f n ys (omega arith)))

-- ---- A list gone over.

pub any_here : {X : Type 0} (f : X → Bool) (xs : List X) (i : ℕ) (x : X) → i < length xs → x ≡ get_or xs i x →
    f x ≡ true → list_any f xs ≡ true
any_here f xs i x below is it = list_any_at f xs i x below (ap f (sym is) ∙ it)

pub none_on : {X : Type 0} (f : X → Bool) (xs : List X) (i : ℕ) (x : X) → i < length xs → x ≡ get_or xs i x →
    f x ≡ false → list_any f (take i xs) ≡ false → list_any f (take (i + 1) xs) ≡ false
none_on f xs i x below is it none =
    list_any_more f xs i x below ∙ ap (λ b. b || f (get_or xs i x)) none ∙ ap f (sym is) ∙ it
