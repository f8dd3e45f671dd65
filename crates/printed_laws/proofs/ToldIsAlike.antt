-- A history as its text tells it differs from the history only by where frames were said.
use Rattle.std.proofs.Common.{◌≡◌, ℕ, Bool, true, false, cond, List, [], ◌∷◌, map, refl, ap}
use Rattle.scenario_file.specs.Reading.{Contents}
use Rattle.history_rules.specs.Events.{Event, Took, Tick, Command, Field, Poll, Cry, Skip, Restart, Entry}
use Rattle.history_rules.specs.Setup.{Setup}
use Rattle.history_rules.specs.Legal.{TakesWell}
use Rattle.world_rules.specs.Scenarios.{setup_of}
use Rattle.printed_run.specs.Printed.{is_said}
use Rattle.run_lines.specs.Texts.{event_text}
use Rattle.printed_history.specs.Histories.{frame_stands}
use Rattle.printed_laws.specs.AlikeLaws.{without_place, bare, AreAlike, ComeToTheSame}
use Rattle.printed_laws.proofs.AlikeAreTheSame.{alike_come_to_the_same}
use Rattle.printed_run.specs.Tellable.{told_by_bytes_at, entry_as_told}

-- an event as it is told, by whether its frame is named by where it was said
abbrev pub event_as_told : Bool → ℕ → Event → Event
event_as_told b stamp event = cond b event (told_by_bytes_at stamp event)

pub plain_told : (b : Bool) (stamp : ℕ) (event : Event) →
    without_place (event_as_told b stamp event) ≡ without_place event
plain_told true stamp event = refl
plain_told false stamp (Took at place frame) = refl
plain_told false stamp Tick = refl
plain_told false stamp (Command op) = refl
plain_told false stamp (Field area place value) = refl
plain_told false stamp Poll = refl
plain_told false stamp (Cry bytes) = refl
plain_told false stamp Skip = refl
plain_told false stamp Restart = refl

-- its frame still stands
pub stands_told : (w : Setup) (now stamp : ℕ) (b : Bool) (event : Event) → TakesWell w now event →
    frame_stands w (event_as_told b stamp event) ≡ true
stands_told w now stamp true (Took at place frame) takes = takes.0
stands_told w now stamp false (Took at place frame) takes = takes.0
stands_told w now stamp true Tick takes = refl
stands_told w now stamp false Tick takes = refl
stands_told w now stamp true (Command op) takes = refl
stands_told w now stamp false (Command op) takes = refl
stands_told w now stamp true (Field area place value) takes = refl
stands_told w now stamp false (Field area place value) takes = refl
stands_told w now stamp true Poll takes = refl
stands_told w now stamp false Poll takes = refl
stands_told w now stamp true (Cry bytes) takes = refl
stands_told w now stamp false (Cry bytes) takes = refl
stands_told w now stamp true Skip takes = refl
stands_told w now stamp false Skip takes = refl
stands_told w now stamp true Restart takes = refl
stands_told w now stamp false Restart takes = refl

-- and it is printed as the same text
pub text_told : (b : Bool) (stamp : ℕ) (event : Event) → event_text b (event_as_told b stamp event) ≡ event_text b event
unfolding event_text
text_told true stamp event = refl
text_told false stamp (Took at place frame) = refl
text_told false stamp Tick = refl
text_told false stamp (Command op) = refl
text_told false stamp (Field area place value) = refl
text_told false stamp Poll = refl
text_told false stamp (Cry bytes) = refl
text_told false stamp Skip = refl
text_told false stamp Restart = refl

with_event : Entry → Event → Entry
with_event e event = record e { event = event }

bare_told : (w : Setup) (history : List Entry) (e : Entry) → bare (entry_as_told w history e) ≡ bare e
unfolding with_event
bare_told w history e = ap (with_event e) (plain_told (is_said w history e.event) e.stamp e.event)

alike_told : (w : Setup) (history entries : List Entry) → AreAlike (map (entry_as_told w history) entries) entries
alike_told w history [] = refl
alike_told w history (e ∷ entries) = λ i. bare_told w history e i ∷ alike_told w history entries i

-- so it comes to the same
pub told_comes_to_the_same : (c : Contents) (history entries : List Entry) →
    ComeToTheSame c (map (entry_as_told (setup_of c) history) entries) entries
told_comes_to_the_same c history entries =
    alike_come_to_the_same c (map (entry_as_told (setup_of c) history) entries) entries
    (alike_told (setup_of c) history entries)
