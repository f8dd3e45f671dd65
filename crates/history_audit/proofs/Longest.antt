-- Comparing each list with the longest is enough.
use Rattle.std.proofs.Common.{◌≡◌, ◌⊎◌, ℕ, ◌+◌, ◌<◌, ◌≤◌, Bool, true, false, cond, ◌&&◌, ◌||◌, List, [], ◌∷◌, ◌++◌}
use Rattle.std.proofs.Common.{Option, Some, None, length, map, take, get_or, filter, fold, nat_lt, min, refl, sym}
use Rattle.std.proofs.Common.{◌∙◌, ap, subst, inl, inr, arith}
use Rattle.std.proofs.lemmas.Bool.{cases_lt, lt-ltb, le-ltb, or_left, or_cases}
use Rattle.std.proofs.lemmas.List.{append-nil, take_all, take_more, take-take, length-take, nil_from_length}
use Rattle.std.proofs.lemmas.List.Elements.{filter_map-append}
use Rattle.std.proofs.lemmas.List.Folds.{list_all-map, list_all_more, list_all_at}
use Rattle.std.proofs.lemmas.List.Sums.{fold_push}
use Rattle.std.specs.Bool.{Decides}
use Rattle.std.specs.List.{list_all, filter_map, cons_option, starts_with}
use Rattle.std.specs.Cmp.Lexicographic.{pointwise}
use Rattle.plain_lists.specs.Lists.{IsIn, here, there}
use Rattle.plain_lists.proofs.Members.{none_in, in_cons_cases, all_at}
use lib.Pointwise.{pointwise_decides}
use Rattle.message_types.specs.declared.updates.Update.{Update}
use Rattle.quorum_sets.specs.Masters.{numbers_below}
use Rattle.history_rules.specs.Setup.{is_correct_master}
use Rattle.history_rules.specs.Legal.{executions}
use Rattle.history_rules.specs.Sameness.{is_same_update}
use Rattle.history_laws.proofs.Same.{update_test}
use Rattle.world_rules.specs.Headline.{are_prefixes, agrees}
use Rattle.history_audit.specs.Prefixes.{all_prefixes, longer_of, longest, begins_if, AgreesByLists}
use Rattle.plain_lists.proofs.Booleans.{same_truth}
use Rattle.history_rules.proofs.Entries.{all_from}

-- one list begins another where it is the other's front
same_lists : (a b : List Update) → Decides (pointwise is_same_update a b) (a ≡ b)
same_lists a b = pointwise_decides {E = is_same_update} update_test a b

pub list_tested : (r : Bool) (a b : List Update) → (r ≡ true → a ≡ b) × (a ≡ b → r ≡ true) →
    r ≡ pointwise is_same_update a b
list_tested r a b h = same_truth r (pointwise is_same_update a b) (λ t. (same_lists a b).1 (h.0 t))
    (λ t. h.1 ((same_lists a b).0 t))

begins_from : (part whole : List Update) → starts_with is_same_update whole part ≡ true →
    part ≡ take (length part) whole
begins_from part whole e = (same_lists part (take (length part) whole)).0 e

begins_of : (part whole : List Update) → part ≡ take (length part) whole → starts_with is_same_update whole part ≡ true
begins_of part whole e = (same_lists part (take (length part) whole)).1 e

no_longer : (part whole : List Update) → part ≡ take (length part) whole → length part ≤ length whole
no_longer part whole e =
    let size : length part ≡ min (length part) (length whole) = ap length e ∙ length-take (length part) whole in
    omega arith

-- a list that is longer begins no other
pub too_long : (part whole : List Update) → length whole < length part → false ≡ starts_with is_same_update whole part
too_long part whole longer = by (starts_with is_same_update whole part) refl
  where
    by : (b : Bool) → starts_with is_same_update whole part ≡ b → false ≡ starts_with is_same_update whole part
    by true e = let short = no_longer part whole (begins_from part whole e) in absurd (omega arith)
    by false e = sym e

-- two lists that begin a third: the shorter begins the longer
shorter_begins : (a b whole : List Update) → a ≡ take (length a) whole → b ≡ take (length b) whole →
    length a ≤ length b → a ≡ take (length a) b
shorter_begins a b whole p q less = p ∙ sym (take-take (length a) (length b) whole less) ∙ ap (take (length a)) (sym q)

or_right : (a b : Bool) → b ≡ true → (a || b) ≡ true
or_right true b e = refl
or_right false b e = e

both_begin : (a b whole : List Update) → starts_with is_same_update whole a ≡ true →
    starts_with is_same_update whole b ≡ true → are_prefixes a b ≡ true
both_begin a b whole p q = elim (cases_lt (length b) (length a)) [
  | inl less ↦ or_right (starts_with is_same_update b a) (starts_with is_same_update a b)
      (begins_of b a (shorter_begins b a whole (begins_from b whole q) (begins_from a whole p) (omega arith)))
  | inr more ↦ or_left (starts_with is_same_update b a) (starts_with is_same_update a b)
      (begins_of a b (shorter_begins a b whole (begins_from a whole p) (begins_from b whole q) more))
]

-- of two lists that are prefixes the one that is no longer begins the other
begins_longer : (a b : List Update) → are_prefixes a b ≡ true → length a ≤ length b →
    starts_with is_same_update b a ≡ true
begins_longer a b e less = elim (or_cases (starts_with is_same_update b a) (starts_with is_same_update a b) e) [
  | inl first ↦ first
  | inr second ↦
      let front : b ≡ take (length b) a = begins_from b a second in
      let same : b ≡ a = front ∙ take_all (length b) a less in
      begins_of a b (sym (take_all (length a) b (omega (arith, ap length same)) ∙ same))
]

-- the longest of some lists
step_before : (best list : List Update) → length best ≤ length (longer_of best (Some list))
step_before best list = elim (cases_lt (length best) (length list)) [
  | inl less ↦ subst (λ (xs : List Update). length best ≤ length xs)
      (sym (ap (λ (b : Bool). cond b list best) (lt-ltb (length best) (length list) less))) (omega arith)
  | inr more ↦ subst (λ (xs : List Update). length best ≤ length xs)
      (sym (ap (λ (b : Bool). cond b list best) (le-ltb (length best) (length list) more))) (omega arith)
]

step_next : (best list : List Update) → length list ≤ length (longer_of best (Some list))
step_next best list = elim (cases_lt (length best) (length list)) [
  | inl less ↦ subst (λ (xs : List Update). length list ≤ length xs)
      (sym (ap (λ (b : Bool). cond b list best) (lt-ltb (length best) (length list) less))) (omega arith)
  | inr more ↦ subst (λ (xs : List Update). length list ≤ length xs)
      (sym (ap (λ (b : Bool). cond b list best) (le-ltb (length best) (length list) more))) (omega arith)
]

step_one : (best list : List Update) → (longer_of best (Some list) ≡ best) ⊎ (longer_of best (Some list) ≡ list)
step_one best list = by (nat_lt (length best) (length list))
  where
    by : (b : Bool) → (cond b list best ≡ best) ⊎ (cond b list best ≡ list)
    by true = inr refl
    by false = inl refl

abbrev longest_from : List Update → List (List Update) → List Update
longest_from best lists = fold (λ (first : List Update) (list : List Update). longer_of first (Some list)) best lists

from_before : (best : List Update) (lists : List (List Update)) → length best ≤ length (longest_from best lists)
from_before best [] = omega arith
from_before best (list ∷ lists) =
    let one = step_before best list in
    let later = from_before (longer_of best (Some list)) lists in
    omega arith

none_longer : (best : List Update) (lists : List (List Update)) (x : List Update) → IsIn x lists →
    length x ≤ length (longest_from best lists)
none_longer best [] x h = absurd (none_in h)
none_longer best (list ∷ lists) x h = elim (in_cons_cases h) [
  | inl is ↦
      let one = step_next best list in
      let later = from_before (longer_of best (Some list)) lists in
      let same : length x ≡ length list = ap length is in
      omega arith
  | inr behind ↦ none_longer (longer_of best (Some list)) lists x behind
]

one_of_them : (best : List Update) (lists : List (List Update)) → (longest_from best lists ≡ best)
    ⊎ IsIn (longest_from best lists) lists
one_of_them best [] = inl refl
one_of_them best (list ∷ lists) = elim (one_of_them (longer_of best (Some list)) lists) [
  | inl stays ↦ elim (step_one best list) [
    | inl old ↦ inl (stays ∙ old)
    | inr new ↦ inr (subst (λ (x : List Update). IsIn x (list ∷ lists)) (sym (stays ∙ new)) (here lists))
  ]
  | inr behind ↦ inr (there list lists behind)
]

-- all lists begin the longest exactly where of any two one begins the other
pub compared_with_longest : (lists : List (List Update)) →
    list_all (starts_with is_same_update (longest lists)) lists ≡ all_prefixes lists
compared_with_longest lists =
    same_truth (list_all (starts_with is_same_update (longest lists)) lists) (all_prefixes lists)
    (λ all. all_from (λ a. list_all (are_prefixes a) lists) lists (λ a p. all_from (are_prefixes a) lists (λ b q.
    both_begin a b (longest lists) (all_at (starts_with is_same_update (longest lists)) p all)
    (all_at (starts_with is_same_update (longest lists)) q all))))
    (λ pairs. all_from (starts_with is_same_update (longest lists)) lists
    (λ a p. begins a p (all_at (λ x. list_all (are_prefixes x) lists) p pairs)))
  where
    begins : (a : List Update) → IsIn a lists → list_all (are_prefixes a) lists ≡ true →
        starts_with is_same_update (longest lists) a ≡ true
    begins a p with_all = elim (one_of_them [] lists) [
      | inl none ↦
          let short : length a ≤ length (longest lists) = none_longer [] lists a p in
          let zero_long : length (longest lists) ≡ 0 = ap length none in
          let empty : a ≡ [] = nil_from_length a (omega arith) in
          subst (λ (x : List Update). starts_with is_same_update (longest lists) x ≡ true) (sym empty) refl
      | inr among ↦ begins_longer a (longest lists) (all_at (are_prefixes a) among with_all) (none_longer [] lists a p)
    ]

-- the same over what holders have executed, where they have
pub over_holders : {X : Type 0} (f : X → Option (List Update)) (whole : List Update) (xs : List X)
    → list_all (starts_with is_same_update whole) (filter_map f xs) ≡ list_all (λ x. begins_if whole (f x)) xs
over_holders f whole [] = refl
over_holders {X} f whole (x ∷ xs) = by (f x) ∙ ap (λ (b : Bool). begins_if whole (f x) && b) (over_holders f whole xs)
  where
    by : (o : Option (List Update)) → list_all (starts_with is_same_update whole) (cons_option o (filter_map f xs)) ≡
        (begins_if whole o && list_all (starts_with is_same_update whole) (filter_map f xs))
    by None = refl
    by (Some list) = refl

pub longest_more : {X : Type 0} (f : X → Option (List Update)) (xs : List X) (i : ℕ) (x : X)
    (best now : List Update) → i < length xs → x ≡ get_or xs i x
    → best ≡ longest (filter_map f (take i xs)) → now ≡ longer_of best (f x) →
    now ≡ longest (filter_map f (take (i + 1) xs))
longest_more {X} f xs i x best now below is so_far next =
    next ∙ ap (λ (b : List Update). longer_of b (f x)) so_far ∙ by (f x)
    ∙ ap (λ (z : X). longest (filter_map f (take i xs) ++ cons_option (f z) [])) is
    ∙ ap longest (sym (filter_map-append f (take i xs) (get_or xs i x ∷ [])))
    ∙ ap (λ (zs : List X). longest (filter_map f zs)) (sym (take_more xs i x below))
  where
    by : (o : Option (List Update)) → longer_of (longest (filter_map f (take i xs))) o ≡ longest
        (filter_map f (take i xs) ++ cons_option o [])
    by None = ap longest (sym (append-nil (filter_map f (take i xs))))
    by (Some list) = sym (fold_push (λ (first : List Update) (z : List Update). longer_of first (Some z)) []
        (filter_map f (take i xs)) list)

pub agrees_by_lists : AgreesByLists
unfolding agrees
agrees_by_lists w history = over (filter (is_correct_master w) (numbers_below w.group.n))
  where
    over : (correct : List ℕ) →
        list_all (λ i. list_all (λ j. are_prefixes (executions w history i) (executions w history j)) correct) correct
        ≡ all_prefixes (map (executions w history) correct)
    over correct =
        sym (list_all-map (λ a. list_all (are_prefixes a) (map (executions w history) correct))
        (executions w history) correct
        ∙ (λ k. list_all (λ i. list_all-map (are_prefixes (executions w history i)) (executions w history) correct k)
        correct))

-- steps of the comparison
pub all_next : {X : Type 0} (p : X → Bool) (xs : List X) (i : ℕ) (x : X) → i < length xs → x ≡ get_or xs i x →
    list_all p (take i xs) ≡ true → p x ≡ true → list_all p (take (i + 1) xs) ≡ true
all_next p xs i x below is done passes =
    list_all_more p xs i x below ∙ ap (λ (b : Bool). b && p (get_or xs i x)) done ∙ ap p (sym is) ∙ passes

pub all_stops : {X : Type 0} (p : X → Bool) (xs : List X) (i : ℕ) (x : X) → i < length xs → x ≡ get_or xs i x →
    p x ≡ false → false ≡ list_all p xs
all_stops p xs i x below is fails = sym (list_all_at p xs i x below (ap p (sym is) ∙ fails))

pub all_of_longest : {X : Type 0} (f : X → Option (List Update)) (xs : List X) (whole : List Update) →
    whole ≡ longest (filter_map f xs)
    → list_all (λ x. begins_if whole (f x)) xs ≡ all_prefixes (filter_map f xs)
all_of_longest f xs whole is =
    sym (over_holders f whole xs)
    ∙ ap (λ (l : List Update). list_all (starts_with is_same_update l) (filter_map f xs)) is
    ∙ compared_with_longest (filter_map f xs)
