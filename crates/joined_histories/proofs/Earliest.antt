-- Of another history the first entry that doesn't stand yet behind a beginning of this one.
use Rattle.std.proofs.Common.{◌≡◌, ◌≤◌, ◌<◌, ◌+◌, ℕ, List, [], ◌∷◌, ◌++◌, length, refl, sym, ◌∙◌, ap, subst, arith}
use Rattle.std.proofs.Common.{inl, inr, ◌⊎◌, append_assoc}
use Rattle.std.proofs.lemmas.Bool.{cases_eq}
use Rattle.std.proofs.lemmas.List.{append-nil, length-append}
use Rattle.history_rules.specs.Events.{Entry}
use Rattle.history_rules.specs.Setup.{own}
use Rattle.history_rules.proofs.Entries.{own_same, own_else}

-- how many of an actor's entries stand in a list
abbrev pub many : List Entry → ℕ → ℕ
many es a = length (own es a)

-- the entry stands in the other history behind no more of any actor's entries than stand here, and as many of its own
pub record IsFirst (before other : List Entry) : Type 0 where
  pub front : List Entry
  pub first : Entry
  pub after : List Entry
  pub whole : other ≡ front ++ first ∷ after
  pub fewer : (a : ℕ) → many front a ≤ many before a
  pub as_many : many front first.actor ≡ many before first.actor

one_more : (before seen : List Entry) (y : Entry) → ((a : ℕ) → many seen a ≤ many before a) →
    many seen y.actor < many before y.actor → (a : ℕ) → many (seen ++ y ∷ []) a ≤ many before a
one_more before seen y fewer below a = by (cases_eq y.actor a)
  where
    by : (y.actor ≡ a) ⊎ (y.actor ≡ a → ⊥) → many (seen ++ y ∷ []) a ≤ many before a
    by (inl same) =
        let longer : many (seen ++ y ∷ []) a ≡ many seen a + 1 =
        ap length (own_same seen y a same) ∙ length-append (own seen a) (y ∷ []) in
        let less : many seen a < many before a = subst (λ (b : ℕ). many seen b < many before b) same below in
        omega arith
    by (inr apart) =
        let stays : many (seen ++ y ∷ []) a ≡ many seen a = ap length (own_else seen y a apart) in
        let most : many seen a ≤ many before a = fewer a in
        omega arith

search_first : (before seen rest : List Entry) → ((a : ℕ) → many seen a ≤ many before a) → (b : ℕ) →
    many before b < many (seen ++ rest) b → IsFirst before (seen ++ rest)
search_first before seen [] fewer b more =
    let same : many (seen ++ []) b ≡ many seen b = ap (λ (es : List Entry). many es b) (append-nil seen) in
    let most : many seen b ≤ many before b = fewer b in
    absurd (omega arith)
search_first before seen (y ∷ rest) fewer b more =
    let again : (seen ++ y ∷ []) ++ rest ≡ seen ++ y ∷ rest = append_assoc seen (y ∷ []) rest in
    by (cases_eq (many seen y.actor) (many before y.actor))
    (λ below. subst (IsFirst before) again
    (search_first before (seen ++ y ∷ []) rest (one_more before seen y fewer below) b
    (subst (λ (es : List Entry). many before b < many es b) (sym again) more)))
  where
    by : (many seen y.actor ≡ many before y.actor) ⊎ (many seen y.actor ≡ many before y.actor → ⊥) →
        (many seen y.actor < many before y.actor → IsFirst before (seen ++ y ∷ rest)) →
        IsFirst before (seen ++ y ∷ rest)
    by (inl all) later =
        record { front = seen; first = y; after = rest; whole = refl; fewer = fewer; as_many = all }
    by (inr apart) later =
        let most : many seen y.actor ≤ many before y.actor = fewer y.actor in
        later (omega (arith, apart))

-- where the other history has more of an actor's entries
pub first_missing : (before other : List Entry) (b : ℕ) → many before b < many other b → IsFirst before other
unfolding own
first_missing before other b more = search_first before [] other (λ a. omega arith) b more
