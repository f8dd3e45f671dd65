-- What a station is asked for, as it is started and by each line that comes, and what it makes of that. (This project's
-- own.)
use Rattle.std.specs.Prelude.{ℕ, Bool, if◌then◌else◌, List, [], ◌∷◌, ◌++◌, Option, Some, None, Ok, Err, codes}
use Rattle.std.specs.Str.{bytes_eq, is_utf8}
use Rattle.scenario_file.specs.Reading.{Contents}
use Rattle.script_grammar.specs.Faults.{Answer}
use Rattle.script_grammar.specs.Lines.{words_of}
use Rattle.script_grammar.specs.Numbers.{wide_in}
use Rattle.history_rules.specs.Events.{Entry}
use Rattle.run_lines.specs.declared.event_line.EventLine.{EventLine}
use Rattle.run_lines.specs.Reading.{event_in}
use Rattle.station_rules.specs.Coming.{is_given, is_repeated, entry_given, first_entry}
use Rattle.station_rules.specs.Notes.{begun_note, entry_notes}
use Rattle.station_lives.specs.Saying.{word_lines, words_since, note_line}

pub data Asked : Type 0 where
  -- that it begins to live
  Start : Asked
  -- an event of the actor
  Given : EventLine → Asked
  -- the words of its entries from this stamp on once more, since a peer came back that may have lost them
  Again : ℕ → Asked
  -- a line that is none of these
  Unclear : Asked

abbrev pub event_asked : Answer EventLine → Asked
event_asked (Ok l) = if is_given l then Given l else Unclear
event_asked (Err e) = Unclear

abbrev pub stamp_asked : Answer ℕ → Asked
stamp_asked (Ok stamp) = Again stamp
stamp_asked (Err e) = Unclear

abbrev pub again_asked : List (List ℕ) → Asked
again_asked (stamp ∷ []) = stamp_asked (wide_in stamp)
again_asked other = Unclear

-- an event's words as an entry of a printed run has them, or `again` and a stamp
abbrev pub words_asked : List (List ℕ) → Asked
words_asked [] = Unclear
words_asked (what ∷ fields) =
    if bytes_eq what (codes "again") then again_asked fields else event_asked (event_in (what ∷ fields))

-- a line is text
abbrev pub line_asked : List ℕ → Asked
line_asked bytes = if is_utf8 bytes then words_asked (words_of bytes) else Unclear

-- What a line comes to: an entry or none, and what is told.
pub record Outcome : Type 0 where
  pub entries : List Entry
  pub told : List ℕ

-- an event that makes no entry: its frame was taken before, or it can't come
abbrev pub refusal : Bool → List ℕ
refusal is_known = note_line (if is_known then codes "repeated" else codes "refused")

-- what an entry tells: its words, and then what its actor came to
abbrev pub told_at : Contents → List Entry → Entry → List ℕ
told_at c before e = word_lines c before e ++ entry_notes c before e

abbrev pub entry_answer : Contents → List Entry → EventLine → Option Entry → Outcome
entry_answer c list l None = record { entries = []; told = refusal (is_repeated list l) }
entry_answer c list l (Some e) = record { entries = e ∷ []; told = told_at c list e }

-- it tells how far it is
abbrev pub start_answer : Contents → ℕ → List Entry → Option Entry → Outcome
start_answer c actor list None = record { entries = []; told = begun_note c actor list }
start_answer c actor list (Some e) = record { entries = e ∷ []; told = begun_note c actor list ++ told_at c list e }

abbrev pub answer : Contents → ℕ → List Entry → Asked → Outcome
answer c actor list Start = start_answer c actor list (first_entry c actor list)
answer c actor list (Given l) = entry_answer c list l (entry_given c actor list l)
answer c actor list (Again stamp) = record { entries = []; told = words_since c stamp [] list }
answer c actor list Unclear = record { entries = []; told = note_line (codes "badline") }

-- A station's entries, and all that it has told or is to tell once they are durable.
pub record Work : Type 0 where
  pub list : List Entry
  pub told : List ℕ

abbrev pub after_asked : Contents → ℕ → Work → Asked → Work
after_asked c actor work asked =
    let its = answer c actor work.list asked in
    record { list = work.list ++ its.entries; told = work.told ++ its.told }

-- the same after lines in turn
abbrev pub after_lines : Contents → ℕ → Work → List (List ℕ) → Work
after_lines c actor work [] = work
after_lines c actor work (line ∷ rest) = after_lines c actor (after_asked c actor work (line_asked line)) rest
