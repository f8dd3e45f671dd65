-- What was kept, read again. A file is whole lines; what stands behind its last line feed was torn, and is cut. Each line
-- tells the next entry of the file's one actor, and is the line that is kept of that entry. (This project's own.)
use Rattle.std.specs.Prelude.{◌≡◌, ℕ, ◌+◌, ◌-◌, Bool, true, false, ◌&&◌, if◌then◌else◌, List, [], ◌∷◌, ◌++◌, Option}
use Rattle.std.specs.Prelude.{Some, None, Result, Ok, Err, length, take, nat_eq}
use Rattle.std.specs.Str.{bytes_eq}
use Rattle.plain_lists.specs.Answers.{IsRight, IsRightRefusal}
use Rattle.scenario_file.specs.Reading.{Contents, cast_of}
use Rattle.script_grammar.specs.declared.fault.LineRefusal.{LineRefusal}
use Rattle.script_grammar.specs.declared.fault.LineRefusal.TheVariants as fault
use Rattle.script_grammar.specs.Faults.{Answer}
use Rattle.history_rules.specs.Events.{Entry}
use Rattle.history_rules.specs.Setup.{Setup}
use Rattle.world_rules.specs.Scenarios.{setup_of}
use Rattle.run_lines.specs.declared.entry_line.EntryLine.{EntryLine}
use Rattle.run_lines.specs.Reading.{entry_line_in}
use Rattle.run_lines.specs.Runs.{pieces}
use Rattle.printed_history.specs.Histories.{event_from, standing_event, entry_next}
use Rattle.kept_lines.specs.declared.refusal.KeptRefusal.{KeptRefusal}
use Rattle.kept_lines.specs.declared.refusal.KeptRefusal.TheVariants as refusal
use Rattle.kept_lines.specs.Lines.{kept_line}

abbrev pub Reading : Type 0 → Type 0
Reading A = Result A KeptRefusal

-- a line without its digest, which takes 72 bytes with the word before it
abbrev pub entry_part : List ℕ → List ℕ
entry_part line = take (length line - 72) line

abbrev pub is_actor : ℕ → Option ℕ → Bool
is_actor actor None = false
is_actor actor (Some other) = nat_eq other actor

-- the entry that a line tells, where it has the next stamp, is of this actor, and may come after these
abbrev pub entry_told : Setup → ℕ → List Entry → EntryLine → Option Entry
entry_told w actor before l =
    if nat_eq l.stamp (length before) && is_actor actor l.actor then entry_next w before actor
    (standing_event w (event_from w before l.event)) else None

-- an entry that can come, if the line is the one that is kept of it: else its words are those of another program, or of
-- other keys
abbrev pub kept_so : Contents → List Entry → List ℕ → Option Entry → Reading Entry
kept_so c before line None = Err (refusal.NotLegal (length before))
kept_so c before line (Some e) =
    if bytes_eq line (kept_line c before e) then Ok e else Err (refusal.OtherWords (length before))

abbrev pub told_so : Contents → ℕ → List Entry → List ℕ → Answer EntryLine → Reading Entry
told_so c actor before line (Ok l) = kept_so c before line (entry_told (setup_of c) actor before l)
told_so c actor before line (Err e) = Err (refusal.BadLine (length before + 1))

-- The entry of a line, after these. So the line's number is one more than their count.
unfoldable pub line_in : Contents → ℕ → List Entry → List ℕ → Reading Entry
line_in c actor before line =
    told_so c actor before line (entry_line_in (cast_of c.settings c.plant) (entry_part line))

-- the entries of lines in turn, the last piece being the torn end
abbrev pub lines_in : Contents → ℕ → List Entry → List (List ℕ) → Reading (List Entry)
lines_in c actor before [] = Ok before
lines_in c actor before (torn ∷ []) = Ok before
lines_in c actor before (line ∷ next ∷ more) =
    elim (line_in c actor before line) [ Err e ↦ Err e | Ok e ↦ lines_in c actor (before ++ e ∷ []) (next ∷ more) ]

-- The list of which an actor kept this, or the first fault.
unfoldable pub kept_in : Contents → ℕ → List ℕ → Reading (List Entry)
kept_in c actor bytes = lines_in c actor [] (pieces bytes)

-- whether it is want of memory that is told
abbrev pub is_want : KeptRefusal → Bool
is_want refusal.Want = true
is_want other = false

-- a refusal is the right answer, unless memory ran out
abbrev pub Refuses : {A : Type 0} → KeptRefusal → Reading A → Type 0
Refuses why right = IsRightRefusal is_want why right

-- an answer is the right one, unless memory ran out
abbrev pub Reads : {A : Type 0} → Reading A → Reading A → Type 0
Reads answer right = IsRight is_want answer right

-- the refusal of a line of this number
abbrev pub fault_at : ℕ → LineRefusal → KeptRefusal
fault_at line fault.Want = refusal.Want
fault_at line other = refusal.BadLine line
