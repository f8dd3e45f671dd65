-- What the line of an entry in a printed run says. (This project's own.)
use Rattle.std.specs.Prelude.{ℕ, suc, ◌==◌, codes, Bool, if◌then◌else◌, List, [], ◌∷◌, ℤ, Option, Some, None, Result}
use Rattle.std.specs.Prelude.{Ok, Err, take, drop, position}
use Rattle.std.specs.List.{slice_split}
use Rattle.std.specs.Str.{bytes_eq, is_utf8}
use Rattle.message_types.specs.declared.updates.Op.{Op}
use Rattle.message_types.specs.declared.updates.Op.TheVariants as op
use Rattle.point_table.specs.declared.point.Area.{Area}
use Rattle.scenario_file.specs.declared.actors.Cast.{Cast}
use Rattle.script_grammar.specs.declared.fault.LineRefusal.{LineRefusal}
use Rattle.script_grammar.specs.declared.fault.LineRefusal.TheVariants as fault
use Rattle.script_grammar.specs.declared.kinds.Kind.{Kind}
use Rattle.script_grammar.specs.Faults.{Answer, bad, or_bad, said, both, each}
use Rattle.script_grammar.specs.Kinds.{kind_named}
use Rattle.script_grammar.specs.Lines.{words_of}
use Rattle.script_grammar.specs.Names.{actor_in}
use Rattle.script_grammar.specs.Numbers.{wide_in, narrow_in, short_in, signed_in, bytes_in}
use Rattle.run_lines.specs.declared.event_line.EventLine.{EventLine}
use Rattle.run_lines.specs.declared.event_line.EventLine.TheVariants as line
use Rattle.run_lines.specs.declared.entry_line.EntryLine.{EntryLine}
use Rattle.run_lines.specs.Names.{area_named}

-- a stamp and a place with a dot between them
abbrev pub place_in : List (List ℕ) → Answer EventLine
place_in (stamp ∷ place ∷ []) = said (λ (p : ℕ × ℕ). line.Said p.0 p.1) (both (wide_in stamp) (narrow_in place))
place_in _ = bad

abbrev pub frame_in : List ℕ → List ℕ → Answer EventLine
frame_in what bytes = if bytes_eq what (codes "frame") then said line.Frame (bytes_in bytes) else bad

abbrev pub took_in : List (List ℕ) → Answer EventLine
took_in (place ∷ []) = place_in (slice_split (λ b. b == 46) place)
took_in (what ∷ bytes ∷ []) = frame_in what bytes
took_in _ = bad

abbrev pub value_in : List (List ℕ) → Answer (ℕ × ℤ)
value_in (point ∷ value ∷ []) = both (narrow_in point) (signed_in value)
value_in _ = bad

abbrev pub alarm_in : List (List ℕ) → Answer ℕ
alarm_in (alarm ∷ []) = narrow_in alarm
alarm_in _ = bad

abbrev pub op_in : List (List ℕ) → Answer Op
op_in [] = bad
op_in (what ∷ fields) =
    if bytes_eq what (codes "reading") then said (λ (p : ℕ × ℤ). op.Reading p.0 p.1) (value_in fields)
    else (if bytes_eq what (codes "set") then said (λ (p : ℕ × ℤ). op.Set p.0 p.1) (value_in fields)
    else (if bytes_eq what (codes "ack") then said op.Ack (alarm_in fields) else bad))

abbrev pub change_in : List (List ℕ) → Answer EventLine
change_in (name ∷ place ∷ value ∷ []) =
    said (λ (p : Area × (ℕ × ℕ)). line.Field p.0 p.1.0 p.1.1)
    (both (or_bad (area_named name)) (both (short_in place) (short_in value)))
change_in _ = bad

abbrev pub cry_in : List (List ℕ) → Answer EventLine
cry_in (bytes ∷ []) = said line.Cry (bytes_in bytes)
cry_in _ = bad

-- a word with nothing behind it
abbrev pub alone : EventLine → List (List ℕ) → Answer EventLine
alone event [] = Ok event
alone event (word ∷ more) = bad

-- what an event's words say, by the first of them
abbrev pub event_of : List ℕ → List (List ℕ) → Answer EventLine
event_of what fields =
    if bytes_eq what (codes "took") then took_in fields
    else (if bytes_eq what (codes "tick") then alone line.Tick fields
    else (if bytes_eq what (codes "command") then said line.Command (op_in fields)
    else (if bytes_eq what (codes "field") then change_in fields
    else (if bytes_eq what (codes "poll") then alone line.Poll fields
    else (if bytes_eq what (codes "cry") then cry_in fields
    else (if bytes_eq what (codes "skip") then alone line.Skip fields
    else (if bytes_eq what (codes "restart") then alone line.Restart fields
    else bad)))))))

unfoldable pub event_in : List (List ℕ) → Answer EventLine
event_in [] = bad
event_in (what ∷ fields) = event_of what fields

-- the kinds behind `says`, of which there is one at least
abbrev pub kind_in : List ℕ → Answer Kind
kind_in name = or_bad (kind_named name)

abbrev pub kinds_in : List (List ℕ) → Answer (List Kind)
kinds_in [] = bad
kinds_in (name ∷ names) = each kind_in (name ∷ names)

-- an event, and the kinds of what was said at it, `says` standing at this place if anywhere
abbrev pub parted : Option ℕ → List (List ℕ) → Answer (EventLine × List Kind)
parted None words = said (λ event. (event, [])) (event_in words)
parted (Some place) words = both (event_in (take place words)) (kinds_in (drop (suc place) words))

unfoldable pub event_and_kinds_in : List (List ℕ) → Answer (EventLine × List Kind)
event_and_kinds_in words = parted (position (λ word. bytes_eq word (codes "says")) words) words

-- the actor of a name, if it is there
abbrev pub if_there : Result ℕ LineRefusal → Answer (Option ℕ)
if_there (Ok actor) = Ok (Some actor)
if_there (Err fault.NoActor) = Ok None
if_there (Err other) = Err other

abbrev pub made : ℕ × (Option ℕ × (EventLine × List Kind)) → EntryLine
made p = record { stamp = p.0; actor = p.1.0; event = p.1.1.0; kinds = p.1.1.1 }

unfoldable pub entry_in : Cast → List (List ℕ) → Answer EntryLine
entry_in cast (stamp ∷ name ∷ words) =
    said made (both (wide_in stamp) (both (if_there (actor_in cast name)) (event_and_kinds_in words)))
entry_in cast _ = bad

-- a line is text
unfoldable pub entry_line_in : Cast → List ℕ → Answer EntryLine
entry_line_in cast bytes = if is_utf8 bytes then entry_in cast (words_of bytes) else bad
