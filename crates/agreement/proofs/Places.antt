-- Time in a history.
use Rattle.std.proofs.Common.{◌≡◌, ℕ, List, [], ◌∷◌, ◌++◌, refl, sym, ◌∙◌, ap, subst, inl, inr, ◌⊎◌, append_assoc}
use Rattle.std.proofs.lemmas.List.{append-nil}
use Rattle.plain_lists.specs.Lists.{IsIn}
use Rattle.plain_lists.proofs.Members.{none_in, in_cons_cases}
use Rattle.message_types.specs.declared.body.Body.{Body}
use Rattle.history_rules.specs.Events.{Entry}
use Rattle.history_rules.specs.Setup.{Setup}
use Rattle.history_rules.specs.Legal.{Stands, IsLegal}
use Rattle.history_rules.specs.Audit.{HasSaid, NothingForged}

grow : {X : Type 0} (P : List X → Type 0) → ((before : List X) (x : X) → P before → P (before ++ x ∷ [])) →
    (before rest : List X) → P before → P (before ++ rest)
grow P step before [] p = subst P (sym (append-nil before)) p
grow P step before (x ∷ rest) p =
    subst P (append_assoc before (x ∷ []) rest) (grow P step (before ++ x ∷ []) rest (step before x p))

-- induction on a list as it grew
pub by_growth : {X : Type 0} (P : List X → Type 0) → P [] →
    ((before : List X) (x : X) → P before → P (before ++ x ∷ [])) → (xs : List X) → P xs
by_growth P none step xs = grow P step [] xs none

pub heads_same : {X : Type 0} {x y : X} {xs ys : List X} → x ∷ xs ≡ y ∷ ys → x ≡ y
heads_same e = cc

pub tails_same : {X : Type 0} {x y : X} {xs ys : List X} → x ∷ xs ≡ y ∷ ys → xs ≡ ys
tails_same e = cc

-- the place comes no later than the end of this beginning
pub stands_on : {history before : List Entry} {e : Entry} (more : List Entry) → Stands history before e →
    Stands (history ++ more) before e
stands_on {history} {before} {e} more s = record {
  after = s.after ++ more;
  whole = ap (λ (xs : List Entry). xs ++ more) s.whole ∙ append_assoc before (e ∷ s.after) more;
}

pub stands_behind : (x : Entry) {history before : List Entry} {e : Entry} → Stands history before e →
    Stands (x ∷ history) (x ∷ before) e
stands_behind x s = record { after = s.after; whole = ap (λ (xs : List Entry). x ∷ xs) s.whole }

pub stands_last : (before : List Entry) (e : Entry) → Stands (before ++ e ∷ []) before e
stands_last before e = record { after = []; whole = refl }

-- two places of one history: the same, or one before the other
pub two_places : (first second : List Entry) (d e : Entry) (rest more : List Entry) →
    first ++ d ∷ rest ≡ second ++ e ∷ more
    → ((first ≡ second) × (d ≡ e)) ⊎ (Stands second first d ⊎ Stands first second e)
two_places [] [] d e rest more same = inl (refl, heads_same same)
two_places [] (y ∷ second) d e rest more same =
    inr (inl record { after = second; whole = ap (λ (x : Entry). x ∷ second) (sym (heads_same same)) })
two_places (x ∷ first) [] d e rest more same =
    inr (inr record { after = first; whole = ap (λ (z : Entry). z ∷ first) (heads_same same) })
two_places (x ∷ first) (y ∷ second) d e rest more same =
    elim (two_places first second d e rest more (tails_same same)) [
      | inl alike ↦ inl (
        ap (λ (z : Entry). z ∷ first) (heads_same same) ∙ ap (λ (zs : List Entry). y ∷ zs) alike.0,
        alike.1,
      )
      | inr apart ↦ elim apart [
        | inl s ↦ inr (inl (subst (λ (z : Entry). Stands (y ∷ second) (z ∷ first) d) (sym (heads_same same))
            (stands_behind y s)))
        | inr s ↦ inr (inr (subst (λ (z : Entry). Stands (x ∷ first) (z ∷ second) e) (heads_same same)
            (stands_behind x s)))
      ]
    ]

pub said_on : {history : List Entry} {actor : ℕ} {b : Body} (more : List Entry) → HasSaid history actor b →
    HasSaid (history ++ more) actor b
said_on more h = record {
  before = h.before;
  entry = h.entry;
  place = stands_on more h.place;
  by = h.by;
  among = h.among;
}

-- what holds of a place's beginning holds of the whole
pub said_whole : {history before : List Entry} {e : Entry} {actor : ℕ} {b : Body} → Stands history before e →
    HasSaid before actor b → HasSaid history actor b
said_whole {before = before} {e} {actor} {b} s h =
    subst (λ (xs : List Entry). HasSaid xs actor b) (sym s.whole) (said_on (e ∷ s.after) h)

pub legal_before : (w : Setup) (before more : List Entry) → IsLegal w (before ++ more) → IsLegal w before
legal_before w before more legal = record { entries = λ b e s. legal.entries b e (stands_on more s) }

pub unforged_before : (w : Setup) (before more : List Entry) → NothingForged w (before ++ more) → NothingForged w before
unforged_before w before more unforged = record { said = λ b e s. unforged.said b e (stands_on more s) }

-- the beginning with the entry stands in the whole
pub whole_upto : {history before : List Entry} {e : Entry} (s : Stands history before e) →
    history ≡ (before ++ e ∷ []) ++ s.after
whole_upto {before = before} {e} s = s.whole ∙ sym (append_assoc before (e ∷ []) s.after)

pub stands_cases : {history first second : List Entry} {d e : Entry} → Stands history first d → Stands history second e
    → ((first ≡ second) × (d ≡ e)) ⊎ (Stands second first d ⊎ Stands first second e)
stands_cases {first = first} {second} {d} {e} s t = two_places first second d e s.after t.after (sym s.whole ∙ t.whole)

-- an entry of a list stands in it
pub stands_in : {e : Entry} (xs : List Entry) → IsIn e xs → (before : List Entry) × Stands xs before e
stands_in [] h = absurd (none_in h)
stands_in (x ∷ xs) h = elim (in_cons_cases h) [
  | inl same ↦ ([], record { after = xs; whole = ap (λ (z : Entry). z ∷ xs) (sym same) })
  | inr later ↦ let found = stands_in xs later in (x ∷ found.0, stands_behind x found.1)
]
