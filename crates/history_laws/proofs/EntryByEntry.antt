-- Legal histories and own lists, entry by entry.
use Rattle.std.proofs.Common.{◌≡◌, ℕ, ◌+◌, ◌<◌, List, [], ◌∷◌, ◌++◌, length, sym, ◌∙◌, ap, subst, inl, inr, ◌⊎◌}
use Rattle.std.proofs.Common.{arith}
use Rattle.std.proofs.lemmas.List.{length-append}
use Rattle.plain_lists.proofs.Members.{none_in}
use Rattle.history_rules.specs.Events.{Entry}
use Rattle.history_rules.specs.Setup.{Setup, own}
use Rattle.history_rules.specs.Keeping.{is_halted}
use Rattle.history_rules.specs.Legal.{says_in, TakesWell, Stands, IsLegalEntry, IsLegal}
use Rattle.agreement.proofs.Places.{stands_last, stands_cases}
use Rattle.history_laws.proofs.Forged.{in_of_stands}
use Rattle.history_laws.specs.Own.{IsOwnEntry, IsOwnHistory}

-- a place of a list with one more entry: it is the last, or one of the list
pub last_or_before : {list before : List Entry} {e x : Entry} → Stands (list ++ e ∷ []) before x
    → ((before ≡ list) × (x ≡ e)) ⊎ Stands list before x
last_or_before {list} {before} {e} {x} s = elim (stands_cases s (stands_last list e)) [
  | inl last ↦ inl last
  | inr apart ↦ elim apart [
    | inl earlier ↦ inr earlier
    | inr later ↦
        let long : length before ≡ length list + length (e ∷ later.after) = ap length later.whole
        ∙ length-append list (e ∷ later.after) in
        let whole : length (list ++ e ∷ []) ≡ length before + length (x ∷ s.after) =
        ap length s.whole ∙ length-append before (x ∷ s.after) in
        let short : length (list ++ e ∷ []) ≡ length list + 1 = length-append list (e ∷ []) in
        absurd (omega arith)
  ]
]

pub nothing_stands : {before : List Entry} {e : Entry} → Stands [] before e → ⊥
nothing_stands s = none_in (in_of_stands s)

pub none_is_legal : (w : Setup) → IsLegal w []
none_is_legal w = record { entries = λ before e s. absurd (nothing_stands s) }

pub one_more_is_legal : (w : Setup) (history : List Entry) (e : Entry) → IsLegal w history → IsLegalEntry w history e
    → IsLegal w (history ++ e ∷ [])
one_more_is_legal w history e legal may = record { entries = λ before x s. at before x (last_or_before s) }
  where
    at : (before : List Entry) (x : Entry) → ((before ≡ history) × (x ≡ e)) ⊎ Stands history before x
        → IsLegalEntry w before x
    at before x (inl last) = subst (λ (b : List Entry). IsLegalEntry w b x) (sym last.0)
        (subst (λ (y : Entry). IsLegalEntry w history y) (sym last.1) may)
    at before x (inr s) = legal.entries before x s

pub none_is_own : (w : Setup) (actor : ℕ) → IsOwnHistory w actor []
none_is_own w actor = record { entries = λ before e s. absurd (nothing_stands s) }

pub one_more_is_own : (w : Setup) (actor : ℕ) (list : List Entry) (e : Entry) → IsOwnHistory w actor list
    → IsOwnEntry w actor list e → IsOwnHistory w actor (list ++ e ∷ [])
one_more_is_own w actor list e is may = record { entries = λ before x s. at before x (last_or_before s) }
  where
    at : (before : List Entry) (x : Entry) → ((before ≡ list) × (x ≡ e)) ⊎ Stands list before x
        → IsOwnEntry w actor before x
    at before x (inl last) = subst (λ (b : List Entry). IsOwnEntry w actor b x) (sym last.0)
        (subst (λ (y : Entry). IsOwnEntry w actor list y) (sym last.1) may)
    at before x (inr s) = is.entries before x s

pub own_entry_is_legal : (w : Setup) (history : List Entry) (actor : ℕ) (e : Entry)
    → actor < w.group.n + w.group.clients → e.stamp ≡ length history
    → IsOwnEntry w actor (own history actor) e → IsLegalEntry w history e
own_entry_is_legal w history actor e there stamp is = record {
  stamp = stamp;
  actor = let same : e.actor ≡ actor = is.by in omega arith;
  running = ap (λ a. is_halted w a (own history a)) is.by ∙ is.running;
  role = ap (λ a. w.fits a e.event) is.by ∙ is.role;
  taken = subst (λ now. TakesWell w now e.event) stamp is.taken;
  said = is.said ∙ ap (λ a. says_in w a (own history a) e.event) (sym is.by);
}
