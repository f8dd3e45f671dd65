-- The own lists of a legal history's actors have each stamp once.
use Rattle.std.proofs.Common.{◌≡◌, ℕ, zero, suc, ◌+◌, ◌<◌, ◌≤◌, List, [], ◌∷◌, ◌++◌, length, filter, map, refl, sym}
use Rattle.std.proofs.Common.{◌∙◌, ap, inl, inr, ◌⊎◌, arith}
use Rattle.std.proofs.lemmas.Bool.{ne_eqb, cases_eq, cases_lt}
use Rattle.std.proofs.lemmas.List.{length-append}
use Rattle.std.proofs.lemmas.List.Folds.{flat_map-map}
use Rattle.std.specs.List.{flat_map}
use Rattle.plain_lists.specs.Lists.{IsIn}
use Rattle.plain_lists.proofs.Members.{none_in, in_cons_cases, in_cases}
use Rattle.quorum_sets.specs.Masters.{numbers_below}
use Rattle.history_rules.specs.Events.{Entry}
use Rattle.history_rules.specs.Setup.{Setup, own}
use Rattle.history_rules.specs.Legal.{IsLegal}
use Rattle.agreement.proofs.KnownAsItGrows.{own_none}
use Rattle.agreement.proofs.Places.{by_growth, legal_before, stands_last}
use Rattle.history_laws.proofs.Forged.{filter_none}
use Rattle.history_laws.proofs.Merged.{none_below, own_within}
use Rattle.history_laws.specs.Own.{HasEachStampOnce}
use Rattle.quorum_sets.proofs.Numbered.{flat_below, below_step}
use Rattle.history_rules.proofs.Entries.{own_else, own_same, has_stamp, last_stamped, last_other}

-- the entries of an actor with a stamp
abbrev own_at : List Entry → ℕ → ℕ → List Entry
own_at history s a = filter (has_stamp s) (own history a)

same_below : {X : Type 0} (f g : ℕ → List X) (n : ℕ) → ((a : ℕ) → f a ≡ g a) →
    flat_map f (numbers_below n) ≡ flat_map g (numbers_below n)
unfolding numbers_below
same_below f g zero same = refl
same_below {X} f g (suc n) same =
    let rest : flat_map f (numbers_below n) ≡ flat_map g (numbers_below n) = same_below f g n same in
    below_step f n ∙ (λ i. rest i ++ same n i) ∙ sym (below_step g n)

-- one element more at one number
one_more : {X : Type 0} (f g : ℕ → List X) (n k : ℕ) → k < n → length (g k) ≡ length (f k) + 1 →
    ((a : ℕ) → (a ≡ k → ⊥) → g a ≡ f a)
    → length (flat_map g (numbers_below n)) ≡ length (flat_map f (numbers_below n)) + 1
one_more f g zero k low more same = absurd (omega arith)
one_more {X} f g (suc n) k low more same = at (cases_eq n k) (λ less. one_more f g n k less more same)
  where
    left : length (flat_map g (numbers_below (suc n))) ≡ length (flat_map g (numbers_below n)) + length (g n)
    left = ap length (below_step g n) ∙ length-append (flat_map g (numbers_below n)) (g n)

    right : length (flat_map f (numbers_below (suc n))) ≡ length (flat_map f (numbers_below n)) + length (f n)
    right = ap length (below_step f n) ∙ length-append (flat_map f (numbers_below n)) (f n)

    at : (n ≡ k) ⊎ (n ≡ k → ⊥) →
        (k < n → length (flat_map g (numbers_below n)) ≡ length (flat_map f (numbers_below n)) + 1)
        → length (flat_map g (numbers_below (suc n))) ≡ length (flat_map f (numbers_below (suc n))) + 1
    at (inl is) deeper =
        let rest : length (flat_map g (numbers_below n)) ≡ length (flat_map f (numbers_below n)) =
        ap length (flat_below g f n (λ a below. same a (λ e. absurd (omega arith)))) in
        let last : length (g n) ≡ length (f n) + 1 = ap (λ a. length (g a)) is ∙ more
        ∙ ap (λ a. length (f a) + 1) (sym is) in
        let l = left in
        let r = right in
        omega arith
    at (inr other) deeper =
        let rest : length (flat_map g (numbers_below n)) ≡ length (flat_map f (numbers_below n)) + 1 =
        deeper (omega arith) in
        let last : length (g n) ≡ length (f n) = ap length (same n other) in
        let l = left in
        let r = right in
        omega arith

-- what holds of a history as it grows
record IsStamped (n : ℕ) (history : List Entry) : Type 0 where
  many : length (flat_map (own history) (numbers_below n)) ≡ length history
  once : (s : ℕ) → s < length history → length (flat_map (own_at history s) (numbers_below n)) ≡ 1
  low : (e : Entry) → IsIn e history → e.stamp < length history

none_stamped : (n : ℕ) → IsStamped n []
none_stamped n = record {
  many = ap length (none_below (own []) n (λ a h. own_none a));
  once =
      λ s h. absurd (omega arith);
  low = λ e h. absurd (none_in h);
}

more_stamped : (n : ℕ) (before : List Entry) (e : Entry) → e.stamp ≡ length before → e.actor < n →
    IsStamped n before → IsStamped n (before ++ e ∷ [])
more_stamped n before e stamp actor was = record { many = many; once = once; low = low }
  where
    grown : length (before ++ e ∷ []) ≡ length before + 1
    grown = length-append before (e ∷ [])

    longer : (a : ℕ) → e.actor ≡ a → length (own (before ++ e ∷ []) a) ≡ length (own before a) + 1
    longer a by = ap length (own_same before e a by) ∙ length-append (own before a) (e ∷ [])

    many : length (flat_map (own (before ++ e ∷ [])) (numbers_below n)) ≡ length (before ++ e ∷ [])
    many =
        one_more (own before) (own (before ++ e ∷ [])) n e.actor actor (longer e.actor refl)
        (λ a other. own_else before e a (λ is. other (sym is)))
        ∙ (ap (λ k. k + 1) was.many ∙ sym grown)

    low : (x : Entry) → IsIn x (before ++ e ∷ []) → x.stamp < length (before ++ e ∷ [])
    low x h = elim (in_cases before h) [
      | inl first ↦ let less = was.low x first in let g = grown in omega arith
      | inr last ↦ elim (in_cons_cases last) [
        | inl is ↦ let same : x.stamp ≡ e.stamp = ap (λ (z : Entry). z.stamp) is in let g = grown in omega arith
        | inr none ↦ absurd (none_in none)
      ]
    ]

    none_yet : (a : ℕ) → own_at before (length before) a ≡ []
    none_yet a =
        filter_none (has_stamp (length before)) (own before a)
        (λ x h. let less = was.low x (own_within before a x h) in
        ne_eqb x.stamp (length before) (λ is. absurd (omega arith)))

    earlier_at : (s a : ℕ) → s < length before → (e.actor ≡ a) ⊎ (e.actor ≡ a → ⊥) →
        own_at (before ++ e ∷ []) s a ≡ own_at before s a
    earlier_at s a less (inl by) =
        ap (filter (has_stamp s)) (own_same before e a by) ∙ last_other s (own before a) e (λ is. absurd (omega arith))
    earlier_at s a less (inr other) = ap (filter (has_stamp s)) (own_else before e a other)

    last_at : length (own_at (before ++ e ∷ []) (length before) e.actor) ≡ length
        (own_at before (length before) e.actor) + 1
    last_at =
        ap (λ (es : List Entry). length (filter (has_stamp (length before)) es)) (own_same before e e.actor refl)
        ∙ ap length (last_stamped (length before) (own before e.actor) e stamp)
        ∙ length-append (own_at before (length before) e.actor) (e ∷ [])

    last : length (flat_map (own_at (before ++ e ∷ []) (length before)) (numbers_below n)) ≡ 1
    last =
        one_more (own_at before (length before)) (own_at (before ++ e ∷ []) (length before)) n e.actor actor last_at
        (λ a other. ap (filter (has_stamp (length before))) (own_else before e a (λ is. other (sym is))))
        ∙ ap (λ (es : List Entry). length es + 1) (none_below (own_at before (length before)) n (λ a h. none_yet a))

    once_at : (s : ℕ) → s < length (before ++ e ∷ []) → (s < length before) ⊎ (length before ≤ s) →
        length (flat_map (own_at (before ++ e ∷ []) s) (numbers_below n)) ≡ 1
    once_at s below (inl less) =
        ap length (same_below (own_at (before ++ e ∷ []) s) (own_at before s) n
        (λ a. earlier_at s a less (cases_eq e.actor a))) ∙ was.once s less
    once_at s below (inr past) =
        let g = grown in
        let here : s ≡ length before = omega arith in
        ap (λ k. length (flat_map (own_at (before ++ e ∷ []) k) (numbers_below n))) here ∙ last

    once : (s : ℕ) → s < length (before ++ e ∷ []) →
        length (flat_map (own_at (before ++ e ∷ []) s) (numbers_below n)) ≡ 1
    once s below = once_at s below (cases_lt s (length before))

always_stamped : (w : Setup) (history : List Entry) → IsLegal w history →
    IsStamped (w.group.n + w.group.clients) history
always_stamped w =
    by_growth (λ (history : List Entry). IsLegal w history → IsStamped (w.group.n + w.group.clients) history)
    (λ legal. none_stamped (w.group.n + w.group.clients))
    (λ before e was legal. let entry = legal.entries before e (stands_last before e) in
    more_stamped (w.group.n + w.group.clients) before e entry.stamp entry.actor
    (was (legal_before w before (e ∷ []) legal)))

pub each_stamp_once : (w : Setup) (history : List Entry) → IsLegal w history →
    HasEachStampOnce (map (own history) (numbers_below (w.group.n + w.group.clients)))
each_stamp_once w history legal = λ s below.
    let n = w.group.n + w.group.clients in
    let is = always_stamped w history legal in
    let many : length (flat_map (λ (entries : List Entry). entries) (map (own history) (numbers_below n)))
    ≡ length history =
    ap length (flat_map-map (λ (entries : List Entry). entries) (own history) (numbers_below n)) ∙ is.many in
    ap length (flat_map-map (filter (has_stamp s)) (own history) (numbers_below n)) ∙ is.once s (omega arith)
