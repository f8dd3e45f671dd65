-- The own lists of a legal history, merged by stamp, are that history.
use Rattle.std.proofs.Common.{◌≡◌, ℕ, zero, suc, ◌+◌, ◌<◌, List, [], ◌∷◌, ◌++◌, length, filter, map, refl, sym, ◌∙◌}
use Rattle.std.proofs.Common.{ap, inl, inr, ◌⊎◌, nat_eq, add-one, arith}
use Rattle.std.proofs.lemmas.Bool.{ne_eqb, cases_eq}
use Rattle.std.proofs.lemmas.List.{append-nil, length-append}
use Rattle.std.proofs.lemmas.List.Folds.{flat_map-map}
use Rattle.std.specs.List.{flat_map}
use Rattle.plain_lists.specs.Lists.{IsIn}
use Rattle.plain_lists.proofs.Members.{none_in, in_cons_cases, in_cases, in_filter_from}
use Rattle.quorum_sets.specs.Masters.{numbers_below}
use Rattle.history_rules.specs.Events.{Entry}
use Rattle.history_rules.specs.Setup.{Setup, own}
use Rattle.history_rules.specs.Legal.{IsLegal}
use Rattle.history_rules.specs.Counts.{stamped, merged}
use Rattle.agreement.proofs.Places.{by_growth, legal_before, stands_last}
use Rattle.history_laws.proofs.Forged.{filter_none}
use Rattle.quorum_sets.proofs.Numbered.{flat_below, below_step}
use Rattle.history_rules.proofs.Entries.{own_else, own_same, has_stamp, last_other, last_stamped}

pub none_below : {X : Type 0} (f : ℕ → List X) (n : ℕ) → ((a : ℕ) → a < n → f a ≡ []) →
    flat_map f (numbers_below n) ≡ []
unfolding numbers_below
none_below f zero none = refl
none_below f (suc n) none =
    let rest : flat_map f (numbers_below n) ≡ [] = none_below f n (λ a h. none a (omega arith)) in
    let last : f n ≡ [] = none n (omega arith) in
    below_step f n ∙ (λ i. rest i ++ last i)

only_at : {X : Type 0} (f : ℕ → List X) (n k : ℕ) → k < n → ((a : ℕ) → (a ≡ k → ⊥) → f a ≡ []) →
    flat_map f (numbers_below n) ≡ f k
only_at f zero k h none = absurd (omega arith)
only_at {X} f (suc n) k h none = below_step f n ∙ by_last (cases_eq n k) (λ less. only_at f n k less none)
  where
    by_last : (n ≡ k) ⊎ (n ≡ k → ⊥) → (k < n → flat_map f (numbers_below n) ≡ f k) →
        flat_map f (numbers_below n) ++ f n ≡ f k
    by_last (inl same) deeper =
        let rest : flat_map f (numbers_below n) ≡ [] =
        none_below f n (λ a below. none a (λ is. absurd (omega arith))) in
        ap (λ (ys : List X). ys ++ f n) rest ∙ ap f same
    by_last (inr other) deeper =
        let rest : flat_map f (numbers_below n) ≡ f k = deeper (omega arith) in
        ap (λ (ys : List X). ys ++ f n) rest ∙ (ap (λ (ys : List X). f k ++ ys) (none n other) ∙ append-nil (f k))

one_more : {X : Type 0} (f g : ℕ → List X) (x : X) (n k : ℕ) → k < n → g k ≡ f k ++ x ∷ [] →
    ((a : ℕ) → (a ≡ k → ⊥) → g a ≡ f a)
    → length (flat_map g (numbers_below n)) ≡ length (flat_map f (numbers_below n)) + 1
one_more f g x zero k h more same = absurd (omega arith)
one_more {X} f g x (suc n) k h more same =
    let left : length (flat_map g (numbers_below (suc n))) ≡ length (flat_map g (numbers_below n)) + length (g n) =
    ap length (below_step g n) ∙ length-append (flat_map g (numbers_below n)) (g n) in
    let right : length (flat_map f (numbers_below (suc n))) ≡ length (flat_map f (numbers_below n)) + length (f n) =
    ap length (below_step f n) ∙ length-append (flat_map f (numbers_below n)) (f n) in
    by_last (cases_eq n k) left right (λ less. one_more f g x n k less more same)
  where
    by_last : (n ≡ k) ⊎ (n ≡ k → ⊥) → length (flat_map g (numbers_below (suc n))) ≡ length
        (flat_map g (numbers_below n)) + length (g n)
        → length (flat_map f (numbers_below (suc n))) ≡ length (flat_map f (numbers_below n)) + length (f n)
        → (k < n → length (flat_map g (numbers_below n)) ≡ length (flat_map f (numbers_below n)) + 1)
        → length (flat_map g (numbers_below (suc n))) ≡ length (flat_map f (numbers_below (suc n))) + 1
    by_last (inl is) left right deeper =
        let rest : length (flat_map g (numbers_below n)) ≡ length (flat_map f (numbers_below n)) =
        ap length (flat_below g f n (λ a below. same a (λ e. absurd (omega arith)))) in
        let last : length (g n) ≡ length (f n) + 1 =
        ap (λ a. length (g a)) is
        ∙ (ap length more ∙ (length-append (f k) (x ∷ []) ∙ ap (λ a. length (f a) + 1) (sym is))) in
        omega arith
    by_last (inr other) left right deeper =
        let rest : length (flat_map g (numbers_below n)) ≡ length (flat_map f (numbers_below n)) + 1 =
        deeper (omega arith) in
        let last : length (g n) ≡ length (f n) = ap length (same n other) in
        omega arith

pub own_within : (history : List Entry) (a : ℕ) (e : Entry) → IsIn e (own history a) → IsIn e history
unfolding own
own_within history a e h = (in_filter_from (λ x. nat_eq x.actor a) history h).0

-- the entries with a stamp in the own lists of the actors below n
abbrev at_stamp : ℕ → List Entry → ℕ → List Entry
at_stamp n history s = flat_map (λ a. filter (has_stamp s) (own history a)) (numbers_below n)

-- what holds of a history as it grows
record IsMerged (n : ℕ) (history : List Entry) : Type 0 where
  many : length (flat_map (own history) (numbers_below n)) ≡ length history
  whole : flat_map (at_stamp n history) (numbers_below (length history)) ≡ history
  stamps : (e : Entry) → IsIn e history → e.stamp < length history

merged_none : (n : ℕ) → IsMerged n []
unfolding own numbers_below
merged_none n = record {
  many = ap length (none_below (own []) n (λ a h. refl));
  whole = refl;
  stamps =
      λ e h. absurd (none_in h);
}

merged_more : (n : ℕ) (before : List Entry) (e : Entry) → e.stamp ≡ length before → e.actor < n → IsMerged n before →
    IsMerged n (before ++ e ∷ [])
merged_more n before e stamp actor was = record { many = many; whole = whole; stamps = stamps }
  where
    grown : length (before ++ e ∷ []) ≡ length before + 1
    grown = length-append before (e ∷ [])

    many : length (flat_map (own (before ++ e ∷ [])) (numbers_below n)) ≡ length (before ++ e ∷ [])
    many =
        one_more (own before) (own (before ++ e ∷ [])) e n e.actor actor (own_same before e e.actor refl)
        (λ a other. own_else before e a (λ is. other (sym is)))
        ∙ (ap (λ k. k + 1) was.many ∙ sym grown)

    stamps : (x : Entry) → IsIn x (before ++ e ∷ []) → x.stamp < length (before ++ e ∷ [])
    stamps x h = elim (in_cases before h) [
      | inl first ↦ let low = was.stamps x first in let g = grown in omega arith
      | inr last ↦ elim (in_cons_cases last) [
        | inl is ↦ let same : x.stamp ≡ e.stamp = ap (λ (z : Entry). z.stamp) is in let g = grown in omega arith
        | inr none ↦ absurd (none_in none)
      ]
    ]

    earlier_at : (s a : ℕ) → s < length before → (e.actor ≡ a) ⊎ (e.actor ≡ a → ⊥) →
        filter (has_stamp s) (own (before ++ e ∷ []) a) ≡ filter (has_stamp s) (own before a)
    earlier_at s a low (inl by) =
        ap (filter (has_stamp s)) (own_same before e a by) ∙ last_other s (own before a) e (λ is. absurd (omega arith))
    earlier_at s a low (inr other) = ap (filter (has_stamp s)) (own_else before e a other)

    earlier : (s : ℕ) → s < length before → at_stamp n (before ++ e ∷ []) s ≡ at_stamp n before s
    earlier s low =
        flat_below (λ a. filter (has_stamp s) (own (before ++ e ∷ []) a)) (λ a. filter (has_stamp s) (own before a)) n
        (λ a h. earlier_at s a low (cases_eq e.actor a))

    none_yet : (a : ℕ) → filter (has_stamp (length before)) (own before a) ≡ []
    none_yet a =
        filter_none (has_stamp (length before)) (own before a)
        (λ x h. let low = was.stamps x (own_within before a x h) in
        ne_eqb x.stamp (length before) (λ is. absurd (omega arith)))

    last : at_stamp n (before ++ e ∷ []) (length before) ≡ e ∷ []
    last =
        only_at (λ a. filter (has_stamp (length before)) (own (before ++ e ∷ []) a)) n e.actor actor
        (λ a other. ap (filter (has_stamp (length before))) (own_else before e a (λ is. other (sym is))) ∙ none_yet a)
        ∙ (ap (filter (has_stamp (length before))) (own_same before e e.actor refl)
        ∙ (last_stamped (length before) (own before e.actor) e stamp
        ∙ ap (λ (ys : List Entry). ys ++ e ∷ []) (none_yet e.actor)))

    whole : flat_map (at_stamp n (before ++ e ∷ [])) (numbers_below (length (before ++ e ∷ []))) ≡ before ++ e ∷ []
    whole =
        ap (λ k. flat_map (at_stamp n (before ++ e ∷ [])) (numbers_below k)) (grown ∙ add-one (length before))
        ∙ (below_step (at_stamp n (before ++ e ∷ [])) (length before)
        ∙ (ap (λ (ys : List Entry). ys ++ at_stamp n (before ++ e ∷ []) (length before))
        (flat_below (at_stamp n (before ++ e ∷ [])) (at_stamp n before) (length before) earlier ∙ was.whole)
        ∙ ap (λ (ys : List Entry). before ++ ys) last))

merged_always : (w : Setup) (history : List Entry) → IsLegal w history → IsMerged (w.group.n + w.group.clients) history
merged_always w =
    by_growth (λ (history : List Entry). IsLegal w history → IsMerged (w.group.n + w.group.clients) history)
    (λ legal. merged_none (w.group.n + w.group.clients))
    (λ before e was legal. let entry = legal.entries before e (stands_last before e) in
    merged_more (w.group.n + w.group.clients) before e entry.stamp entry.actor
    (was (legal_before w before (e ∷ []) legal)))

pub merged_whole : (w : Setup) (history : List Entry) → IsLegal w history
    → merged (map (own history) (numbers_below (w.group.n + w.group.clients))) ≡ history
merged_whole w history legal =
    let n = w.group.n + w.group.clients in
    let is = merged_always w history legal in
    let many : length (flat_map (λ (entries : List Entry). entries) (map (own history) (numbers_below n)))
    ≡ length history =
    ap length (flat_map-map (λ (entries : List Entry). entries) (own history) (numbers_below n)) ∙ is.many in
    ap (λ k. flat_map (stamped (map (own history) (numbers_below n))) (numbers_below k)) many
    ∙ (flat_below (stamped (map (own history) (numbers_below n))) (at_stamp n history) (length history)
    (λ s h. flat_map-map (filter (has_stamp s)) (own history) (numbers_below n))
    ∙ is.whole)
