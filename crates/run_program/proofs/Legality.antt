-- A history that a text tells is legal.
use Rattle.std.proofs.Common.{◌≡◌, ℕ, Bool, true, false, cond, ◌&&◌, List, [], ◌∷◌, ◌++◌, Option, Some, None, Result}
use Rattle.std.proofs.Common.{Ok, Err, length, nat_eq, refl, subst}
use Rattle.std.proofs.lemmas.Bool.{and_parts}
use Rattle.plain_lists.proofs.Members.{some_same}
use Rattle.script_grammar.specs.declared.kinds.Kind.{Kind}
use Rattle.scenario_file.specs.Reading.{Contents}
use Rattle.history_rules.specs.Events.{Event, Entry}
use Rattle.history_rules.specs.Setup.{Setup}
use Rattle.history_rules.specs.Legal.{says, TakesWell, IsLegalEntry, IsLegal}
use Rattle.world_rules.specs.Scenarios.{setup_of}
use Rattle.history_laws.proofs.EntryByEntry.{none_is_legal, one_more_is_legal}
use Rattle.run_lines.specs.declared.entry_line.EntryLine.{EntryLine}
use Rattle.run_lines.specs.Runs.{Reading, run_in}
use Rattle.printed_run.specs.Printed.{cast_in}
use Rattle.printed_history.specs.Histories.{is_running, are_kinds, entry_with, entry_by, entry_of_event, entry_from}
use Rattle.printed_history.specs.Histories.{entries_from, event_from, standing_event, not_legal, history_of}
use Rattle.printed_history.specs.Histories.{history_in}
use Rattle.printed_history.proofs.NextEntry.{next_legal}
use Rattle.printed_history.proofs.EventTold.{taken_well}

same_ok : {X E : Type 0} {x y : X} → ◌≡◌ {A = Result X E} (Ok x) (Ok y) → x ≡ y
same_ok same = cc

-- the entry of an event that may be taken
of_event : (w : Setup) (before : List Entry) (actor : ℕ) (kinds : List Kind) (found : Option Event) (e : Entry) →
    is_running w before actor ≡ true
    → ((event : Event) → Some event ≡ found → TakesWell w (length before) event) →
    entry_of_event w before actor kinds found ≡ Some e → IsLegalEntry w before e
of_event w before actor kinds None e running well is = absurd (cc)
of_event w before actor kinds (Some event) e running well is =
    by (w.fits actor event && are_kinds kinds (says w before actor event)) refl is
  where
    by : (b : Bool) → (w.fits actor event && are_kinds kinds (says w before actor event)) ≡ b
        → cond b (Some (entry_with before actor event (says w before actor event))) None ≡ Some e →
        IsLegalEntry w before e
    by true passes same =
        subst (IsLegalEntry w before) (some_same same)
        (next_legal w before actor event
        (record {
          running = running;
          fits =
              (and_parts (w.fits actor event) (are_kinds kinds (says w before actor event)) passes).0;
          taken = well event refl;
        }))
    by false fails same = absurd (cc)

of_actor : (w : Setup) (before : List Entry) (l : EntryLine) (named : Option ℕ) (e : Entry) →
    entry_by w before l named ≡ Some e → IsLegalEntry w before e
of_actor w before l None e is = absurd (cc)
of_actor w before l (Some actor) e is = by (nat_eq l.stamp (length before) && is_running w before actor) refl is
  where
    by : (b : Bool) → (nat_eq l.stamp (length before) && is_running w before actor) ≡ b
        → cond b (entry_of_event w before actor l.kinds (standing_event w (event_from w before l.event)))
        None ≡ Some e → IsLegalEntry w before e
    by true passes same =
        of_event w before actor l.kinds (standing_event w (event_from w before l.event)) e
        (and_parts (nat_eq l.stamp (length before)) (is_running w before actor) passes).1
        (λ event found. taken_well w before l.event event found) same
    by false fails same = absurd (cc)

-- an entry that a line tells may come
pub told_is_legal : (w : Setup) (before : List Entry) (l : EntryLine) (e : Entry) → entry_from w before l ≡ Some e →
    IsLegalEntry w before e
unfolding entry_from
told_is_legal w before l e is = of_actor w before l l.actor e is

all_legal : (w : Setup) (before : List Entry) (lines : List EntryLine) (history : List Entry) → IsLegal w before →
    entries_from w before lines ≡ Ok history → IsLegal w history
all_legal w before [] history legal is = subst (IsLegal w) (same_ok is) legal
all_legal w before (l ∷ rest) history legal is =
    by (entry_from w before l) refl is (λ e. all_legal w (before ++ e ∷ []) rest history)
  where
    by : (o : Option Entry) → entry_from w before l ≡ o →
        ◌≡◌ {A = Reading (List Entry)}
        (elim o [ None ↦ not_legal (length before) | Some e ↦ entries_from w (before ++ e ∷ []) rest ]) (Ok history)
        → ((e : Entry) → IsLegal w (before ++ e ∷ []) → entries_from w (before ++ e ∷ []) rest ≡ Ok history →
        IsLegal w history) → IsLegal w history
    by None none same onward = absurd (cc)
    by (Some e) found same onward =
        onward e (one_more_is_legal w before e legal (told_is_legal w before l e found)) same

of_lines : (w : Setup) (read : Reading (List EntryLine)) (history : List Entry) → history_of w read ≡ Ok history →
    IsLegal w history
of_lines w (Ok lines) history is = all_legal w [] lines history (none_is_legal w) is
of_lines w (Err e) history is = absurd (cc)

pub read_is_legal : (c : Contents) (text : List ℕ) (history : List Entry) → history_in c text ≡ Ok history →
    IsLegal (setup_of c) history
unfolding history_in
read_is_legal c text history is = of_lines (setup_of c) (run_in (cast_in c) text) history is
