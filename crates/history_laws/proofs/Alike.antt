-- No text counts as alike exactly where no two different texts share a digest.
use Rattle.std.proofs.Common.{◌≡◌, ◌↔◌, ℕ, ◌+◌, Bool, true, false, cond, List, [], ◌∷◌, ◌++◌, refl, sym, ◌∙◌, ap}
use Rattle.std.proofs.Common.{subst, inl, inr, append_assoc, arith}
use Rattle.std.proofs.lemmas.Bool.{false≢true}
use Rattle.std.proofs.lemmas.List.{append-nil}
use Rattle.std.proofs.lemmas.Slice.Eq.{bytes_eq-Decides}
use Rattle.std.specs.List.{list_any}
use Rattle.std.specs.Str.{bytes_eq}
use Rattle.plain_lists.specs.Lists.{IsIn, here, there}
use Rattle.plain_lists.proofs.Members.{none_in, in_left, in_right, in_cons_cases, in_cases, any_from, any_in}
use Rattle.sha2.specs.Sha256.{sha256}
use Rattle.protocol_rules.specs.Group.{Group}
use Rattle.history_rules.specs.Events.{Entry}
use Rattle.history_rules.specs.Audit.{history_texts, NoSharedDigest}
use Rattle.history_rules.specs.Counts.{alike_from, alike}

-- no two different texts of the list have one digest
abbrev Distinct : List (List ℕ) → Type 0
Distinct texts = (a b : List ℕ) → IsIn a texts → IsIn b texts → sha256 a ≡ sha256 b → a ≡ b

abbrev shares : List ℕ → List ℕ → Bool
shares text other = bytes_eq (sha256 text) (sha256 other)

same_bytes : (a b : List ℕ) → bytes_eq a b ≡ true → a ≡ b
same_bytes a b e = (bytes_eq-Decides a b).0 e

bytes_same : (a b : List ℕ) → a ≡ b → bytes_eq a b ≡ true
bytes_same a b e = (bytes_eq-Decides a b).1 e

-- what is behind a text that stands before too is no more
without : (earlier rest : List (List ℕ)) (text : List ℕ) → IsIn text earlier → (x : List ℕ) →
    IsIn x (earlier ++ text ∷ rest) → IsIn x (earlier ++ rest)
without earlier rest text known x h = elim (in_cases earlier h) [
  | inl first ↦ in_left rest first
  | inr behind ↦ elim (in_cons_cases behind) [
    | inl same ↦ in_left rest (subst (λ (z : List ℕ). IsIn z earlier) (sym same) known)
    | inr later ↦ in_right earlier later
  ]
]

-- a text more, with a digest of its own
distinct_more : (earlier : List (List ℕ)) (text : List ℕ) → Distinct earlier →
    list_any (shares text) earlier ≡ false → Distinct (earlier ++ text ∷ [])
distinct_more earlier text distinct fresh a b h k same = elim (in_cases earlier h) [
  | inl first ↦ elim (in_cases earlier k) [
    | inl second ↦ distinct a b first second same
    | inr last ↦ elim (in_cons_cases last) [
      | inl is ↦ absurd (clash a first (sym (ap sha256 is) ∙ sym same))
      | inr none ↦ absurd (none_in none)
    ]
  ]
  | inr last ↦ elim (in_cons_cases last) [
    | inl is ↦ elim (in_cases earlier k) [
      | inl second ↦ absurd (clash b second (sym (ap sha256 is) ∙ same))
      | inr other ↦ elim (in_cons_cases other) [ inl also ↦ is ∙ sym also | inr none ↦ absurd (none_in none) ]
    ]
    | inr none ↦ absurd (none_in none)
  ]
]
  where
    clash : (x : List ℕ) → IsIn x earlier → sha256 text ≡ sha256 x → ⊥
    clash x there_before e = false≢true
        (sym fresh ∙ any_in (shares text) there_before (bytes_same (sha256 text) (sha256 x) e))

none_alike : (earlier rest : List (List ℕ)) → Distinct earlier → alike_from earlier rest ≡ 0 →
    Distinct (earlier ++ rest)
none_alike earlier [] distinct none = subst Distinct (sym (append-nil earlier)) distinct
none_alike earlier (text ∷ rest) distinct none =
    by_place (list_any (bytes_eq text) earlier) (list_any (shares text) earlier) refl refl none
    (λ z. none_alike earlier rest distinct z) (λ more z. none_alike (earlier ++ text ∷ []) rest more z)
  where
    by_place : (known shared : Bool) → list_any (bytes_eq text) earlier ≡ known →
        list_any (shares text) earlier ≡ shared
        → cond known (alike_from earlier rest) (cond shared 1 0 + alike_from (earlier ++ text ∷ []) rest) ≡ 0
        → (alike_from earlier rest ≡ 0 → Distinct (earlier ++ rest)) →
        (Distinct (earlier ++ text ∷ []) → alike_from (earlier ++ text ∷ []) rest ≡ 0 →
        Distinct ((earlier ++ text ∷ []) ++ rest))
        → Distinct (earlier ++ text ∷ rest)
    by_place true shared is fresh none same_list longer =
        let found = any_from (bytes_eq text) earlier is in
        let known = subst (λ (z : List ℕ). IsIn z earlier) (sym (same_bytes text found.0 found.2)) found.1 in
        let kept = same_list none in
        λ a b h k same. kept a b (without earlier rest text known a h) (without earlier rest text known b k) same
    by_place false true is fresh none same_list longer = absurd (omega arith)
    by_place false false is fresh none same_list longer =
        subst Distinct (append_assoc earlier (text ∷ []) rest)
        (longer (distinct_more earlier text distinct fresh) (omega arith))

alike_none : (earlier rest : List (List ℕ)) → Distinct (earlier ++ rest) → alike_from earlier rest ≡ 0
alike_none earlier [] distinct = refl
alike_none earlier (text ∷ rest) distinct =
    by_place (list_any (bytes_eq text) earlier) (list_any (shares text) earlier) refl refl
    (alike_none earlier rest (λ a b h k same. distinct a b (longer a h) (longer b k) same))
    (alike_none (earlier ++ text ∷ []) rest (subst Distinct (sym (append_assoc earlier (text ∷ []) rest)) distinct))
  where
    longer : (x : List ℕ) → IsIn x (earlier ++ rest) → IsIn x (earlier ++ text ∷ rest)
    longer x h = elim (in_cases earlier h) [
      | inl first ↦ in_left (text ∷ rest) first
      | inr later ↦ in_right earlier (there text rest later)
    ]

    by_place : (known shared : Bool) → list_any (bytes_eq text) earlier ≡ known →
        list_any (shares text) earlier ≡ shared
        → alike_from earlier rest ≡ 0 → alike_from (earlier ++ text ∷ []) rest ≡ 0
        → cond known (alike_from earlier rest) (cond shared 1 0 + alike_from (earlier ++ text ∷ []) rest) ≡ 0
    by_place true shared is fresh same_list one_more = same_list
    by_place false true is fresh same_list one_more =
        let found = any_from (shares text) earlier fresh in
        let one = distinct text found.0 (in_right earlier (here rest)) (in_left (text ∷ rest) found.1)
        (same_bytes (sha256 text) (sha256 found.0) found.2) in
        absurd (false≢true (sym is ∙ any_in (bytes_eq text) found.1 (bytes_same text found.0 one)))
    by_place false false is fresh same_list one_more = omega arith

pub alike_counts : (g : Group) (history : List Entry) → (alike g history ≡ 0) ↔ NoSharedDigest g history
alike_counts g history = (
  (λ none. record { alike = none_alike [] (history_texts g history) (λ a b h k same. absurd (none_in h)) none }),
  (λ distinct. alike_none [] (history_texts g history) distinct.alike),
)
