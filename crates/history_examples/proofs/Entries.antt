-- Legality entry after entry: what can be tested at once, and what each actor says.
use Rattle.std.proofs.Common.{◌≡◌, ℕ, ◌+◌, Bool, true, ◌&&◌, not, List, [], ◌∷◌, ◌++◌, length, nat_eq, nat_lt, sym}
use Rattle.std.proofs.Common.{subst, append_assoc}
use Rattle.std.proofs.lemmas.Bool.{and_parts, eqb-true, not-true}
use Rattle.std.proofs.lemmas.Bool.Decides.{Decides-ltb}
use Rattle.std.proofs.lemmas.List.{append-nil}
use Rattle.history_rules.specs.Events.{Event, Entry, Took}
use Rattle.history_rules.specs.Setup.{Setup, stands, own}
use Rattle.history_rules.specs.Keeping.{is_halted}
use Rattle.history_rules.specs.Legal.{says, TakesWell, IsLegalEntry, IsLegal}
use Rattle.history_laws.proofs.EntryByEntry.{none_is_legal, one_more_is_legal}
use Rattle.history_examples.proofs.Minds.{EachSays, each_says, says_by_minds}

-- all that legality asks of an entry but what was said
abbrev takes_well : Setup → ℕ → Event → Bool
takes_well w now (Took stamp place frame) = stands w frame && nat_lt stamp now
takes_well w now _ = true

abbrev may_come : Setup → List Entry → Entry → Bool
may_come w before e =
    nat_eq e.stamp (length before) && nat_lt e.actor (w.group.n + w.group.clients)
    && not (is_halted w e.actor (own before e.actor))
    && w.fits e.actor e.event && takes_well w (length before) e.event

abbrev pub each_may_come : Setup → List Entry → List Entry → Bool
each_may_come w seen [] = true
each_may_come w seen (e ∷ rest) = may_come w seen e && each_may_come w (seen ++ e ∷ []) rest

-- each of the entries may come after those seen and those before it
abbrev EachLegal : Setup → List Entry → List Entry → Type 0
EachLegal w seen [] = Unit {0}
EachLegal w seen (e ∷ rest) = IsLegalEntry w seen e × EachLegal w (seen ++ e ∷ []) rest

taken_well : (w : Setup) (now : ℕ) (event : Event) → takes_well w now event ≡ true → TakesWell w now event
taken_well w now (Took stamp place frame) e =
    let both = and_parts (stands w frame) (nat_lt stamp now) e in (both.0, (Decides-ltb stamp now).0 both.1)
taken_well w now _ e = tt

legal_entry : (w : Setup) (before : List Entry) (e : Entry) → may_come w before e ≡ true →
    e.said ≡ says w before e.actor e.event → IsLegalEntry w before e
legal_entry w before e may said =
    let stamp = nat_eq e.stamp (length before) in
    let actor = nat_lt e.actor (w.group.n + w.group.clients) in
    let running = not (is_halted w e.actor (own before e.actor)) in
    let role = w.fits e.actor e.event in
    let taken = takes_well w (length before) e.event in
    let four = and_parts (stamp && actor && running && role) taken may in
    let three = and_parts (stamp && actor && running) role four.0 in
    let both = and_parts (stamp && actor) running three.0 in
    let first = and_parts stamp actor both.0 in
    record {
      stamp = eqb-true e.stamp (length before) first.0;
      actor = (Decides-ltb e.actor (w.group.n + w.group.clients)).0 first.1;
      running = not-true (is_halted w e.actor (own before e.actor)) both.1;
      role = three.1;
      taken = taken_well w (length before) e.event four.1;
      said = said;
    }

each_legal : (w : Setup) (seen rest : List Entry) → each_may_come w seen rest ≡ true → EachSays w seen rest →
    EachLegal w seen rest
each_legal w seen [] may said = tt
each_legal w seen (e ∷ rest) may said =
    let both = and_parts (may_come w seen e) (each_may_come w (seen ++ e ∷ []) rest) may in
    (legal_entry w seen e both.0 said.0, each_legal w (seen ++ e ∷ []) rest both.1 said.1)

legal_after : (w : Setup) (seen rest : List Entry) → IsLegal w seen → EachLegal w seen rest → IsLegal w (seen ++ rest)
legal_after w seen [] legal all = subst (IsLegal w) (sym (append-nil seen)) legal
legal_after w seen (e ∷ rest) legal all =
    subst (IsLegal w) (append_assoc seen (e ∷ []) rest)
    (legal_after w (seen ++ e ∷ []) rest (one_more_is_legal w seen e legal all.0) all.1)

-- A history is legal whose entries may come and say what the rules make their actors say.
pub legal_by_says : (w : Setup) (history : List Entry) → each_may_come w [] history ≡ true →
    EachSays w [] history → IsLegal w history
legal_by_says w history may said = legal_after w [] history (none_is_legal w) (each_legal w [] history may said)

pub legal_history : (w : Setup) (history : List Entry) → each_may_come w [] history ≡ true →
    each_says w history ≡ true → IsLegal w history
legal_history w history may said = legal_by_says w history may (says_by_minds w history said)
