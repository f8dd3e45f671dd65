-- A station that is given a line stays one: the entry that the line makes is one that may come next, and its actor's.
use Rattle.std.proofs.Common.{◌≡◌, ℕ, Bool, true, false, cond, not, ◌&&◌, List, [], ◌∷◌, ◌++◌, Option, Some, None}
use Rattle.std.proofs.Common.{refl, sym, subst}
use Rattle.std.proofs.lemmas.Bool.{and_parts}
use Rattle.std.proofs.lemmas.List.{append-nil}
use Rattle.scenario_file.specs.Reading.{Contents}
use Rattle.history_rules.specs.Events.{Event, Entry}
use Rattle.history_rules.specs.Setup.{Setup}
use Rattle.history_laws.proofs.EntryByEntry.{one_more_is_legal}
use Rattle.world_rules.specs.Scenarios.{setup_of}
use Rattle.run_lines.specs.declared.event_line.EventLine.{EventLine}
use Rattle.printed_history.specs.Histories.{event_from, standing_event, is_running, entry_next}
use Rattle.printed_history.proofs.NextEntry.{MayCome, next_of, next_legal}
use Rattle.printed_history.proofs.EventTold.{taken_well}
use Rattle.joint_lists.specs.Stations.{IsStation}
use Rattle.joint_lists.proofs.Alone.{alone_more}
use Rattle.run_lines.specs.declared.event_line.EventLine.TheVariants as line
use Rattle.station_rules.specs.Coming.{is_given, is_repeated, entry_of_line, entry_given, first_entry}
use Rattle.station_rules.specs.Answers.{Start, Given, Again, Unclear, entry_answer, start_answer, line_asked, after_asked}
use Rattle.station_rules.specs.Laws.{AnsweredIsStation, LinesKeepStation}

-- the entry of an event that an entry's words tell
pub line_stays : (c : Contents) (actor : ℕ) (list : List Entry) (l : EventLine) (e : Entry) → IsStation c actor list →
    entry_of_line c actor list l ≡ Some e → IsStation c actor (list ++ e ∷ [])
line_stays c actor list l e is given = by (standing_event w (event_from w list l)) refl given
  where
    w : Setup
    w = setup_of c

    one : (event : Event) → MayCome w list actor event → next_of w list actor event ≡ e →
        IsStation c actor (list ++ e ∷ [])
    one event may same = subst (λ (x : Entry). IsStation c actor (list ++ x ∷ [])) same (record {
      legal = one_more_is_legal w list (next_of w list actor event) is.legal (next_legal w list actor event may);
      alone = alone_more actor list (next_of w list actor event) is.alone refl;
    })

    go : (event : Event) → Some event ≡ standing_event w (event_from w list l) → (b : Bool) →
        (is_running w list actor && w.fits actor event) ≡ b
        → cond b (Some (next_of w list actor event)) None ≡ Some e → IsStation c actor (list ++ e ∷ [])
    go event there true both same =
        let p = and_parts (is_running w list actor) (w.fits actor event) both in
        let its : next_of w list actor event ≡ e = cc in
        one event (record { running = p.0; fits = p.1; taken = taken_well w list l event there }) its
    go event there false both same = absurd (cc)

    by : (o : Option Event) → o ≡ standing_event w (event_from w list l) → entry_next w list actor o ≡ Some e →
        IsStation c actor (list ++ e ∷ [])
    by None there same = absurd (cc)
    by (Some event) there same = go event there (is_running w list actor && w.fits actor event) refl same

given_stays : (c : Contents) (actor : ℕ) (list : List Entry) (l : EventLine) (e : Entry) → IsStation c actor list →
    entry_given c actor list l ≡ Some e → IsStation c actor (list ++ e ∷ [])
given_stays c actor list l e is given = at (is_given l && not (is_repeated list l)) given
  where
    at : (b : Bool) → cond b (entry_of_line c actor list l) None ≡ Some e → IsStation c actor (list ++ e ∷ [])
    at true same = line_stays c actor list l e is same
    at false same = absurd (cc)

started_stays : (c : Contents) (actor : ℕ) (list : List Entry) → IsStation c actor list →
    IsStation c actor (list ++ (start_answer c actor list (first_entry c actor list)).entries)
started_stays c actor [] is = by (entry_of_line c actor [] line.Restart) refl
  where
    by : (o : Option Entry) → entry_of_line c actor [] line.Restart ≡ o →
        IsStation c actor ([] ++ (start_answer c actor [] o).entries)
    by None same = is
    by (Some e) same = line_stays c actor [] line.Restart e is same
started_stays c actor (x ∷ list) is = subst (IsStation c actor) (sym (append-nil (x ∷ list))) is

pub answered_is_station : AnsweredIsStation
answered_is_station c actor list Start is = started_stays c actor list is
answered_is_station c actor list (Given l) is = by (entry_given c actor list l) refl
  where
    by : (o : Option Entry) → entry_given c actor list l ≡ o →
        IsStation c actor (list ++ (entry_answer c list l o).entries)
    by None same = subst (IsStation c actor) (sym (append-nil list)) is
    by (Some e) same = given_stays c actor list l e is same
answered_is_station c actor list (Again stamp) is = subst (IsStation c actor) (sym (append-nil list)) is
answered_is_station c actor list Unclear is = subst (IsStation c actor) (sym (append-nil list)) is

pub lines_keep_station : LinesKeepStation
lines_keep_station c actor work [] is = is
lines_keep_station c actor work (line ∷ rest) is =
    lines_keep_station c actor (after_asked c actor work (line_asked line)) rest
    (answered_is_station c actor work.list (line_asked line) is)
