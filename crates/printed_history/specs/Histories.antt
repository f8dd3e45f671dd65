-- The history that the text of a run tells. (This project's own.)
use Rattle.std.specs.Prelude.{ℕ, zero, suc, ◌+◌, Bool, true, not, ◌&&◌, if◌then◌else◌, List, [], ◌∷◌, ◌++◌, Option}
use Rattle.std.specs.Prelude.{Some, None, Result, Ok, Err, length, map, nat_eq, nat_lt, slice_get}
use Rattle.std.specs.Str.{bytes_eq}
use Rattle.message_types.specs.declared.signed.Signed.{Signed}
use Rattle.message_types.specs.declared.body.Body.{Body}
use Rattle.message_forms.specs.declared.refusal.FormRefusal.{FormRefusal}
use Rattle.message_forms.specs.Forms.{frame_at}
use Rattle.scenario_file.specs.Reading.{Contents, cast_of}
use Rattle.script_grammar.specs.declared.kinds.Kind.{Kind}
use Rattle.script_grammar.specs.Kinds.{kind_number}
use Rattle.history_rules.specs.Events.{Event, Took, Tick, Command, Field, Poll, Cry, Skip, Restart, Entry}
use Rattle.history_rules.specs.Setup.{Setup, stands, own}
use Rattle.history_rules.specs.Keeping.{is_halted}
use Rattle.history_rules.specs.Legal.{says}
use Rattle.world_rules.specs.Frames.{frames_at_stamp}
use Rattle.world_rules.specs.Scenarios.{setup_of}
use Rattle.run_lines.specs.declared.event_line.EventLine.{EventLine}
use Rattle.run_lines.specs.declared.event_line.EventLine.TheVariants as line
use Rattle.run_lines.specs.declared.entry_line.EntryLine.{EntryLine}
use Rattle.run_lines.specs.declared.refusal.HistoryRefusal.TheVariants as refusal
use Rattle.run_lines.specs.Names.{kind_of}
use Rattle.run_lines.specs.Runs.{Reading, run_in}

-- a frame that was said at this stamp and place, if there is one
abbrev pub said_there : ℕ → ℕ → Option (Signed Body) → Option Event
said_there stamp place None = None
said_there stamp place (Some frame) = Some (Took stamp place frame)

-- A frame that is told by its bytes counts as said at the entry before, at a place that no body has.
abbrev pub told_by_bytes : ℕ → Result (Signed Body) FormRefusal → Option Event
told_by_bytes zero read = None
told_by_bytes (suc before) (Ok frame) = Some (Took before 4294967295 frame)
told_by_bytes (suc before) (Err e) = None

-- the event of a line, if its frame is there
abbrev pub event_from : Setup → List Entry → EventLine → Option Event
event_from w before (line.Said stamp place) = said_there stamp place (slice_get (frames_at_stamp w before stamp) place)
event_from w before (line.Frame bytes) = told_by_bytes (length before) (frame_at bytes)
event_from w before line.Tick = Some Tick
event_from w before (line.Command op) = Some (Command op)
event_from w before (line.Field area place value) = Some (Field area place value)
event_from w before line.Poll = Some Poll
event_from w before (line.Cry bytes) = Some (Cry bytes)
event_from w before line.Skip = Some Skip
event_from w before line.Restart = Some Restart

-- a frame that the event takes stands
abbrev pub frame_stands : Setup → Event → Bool
frame_stands w (Took stamp place frame) = stands w frame
frame_stands w _ = true

-- the event, where the frame that it takes stands
abbrev pub standing_event : Setup → Option Event → Option Event
standing_event w None = None
standing_event w (Some event) = if frame_stands w event then Some event else None

-- the actor is there and not halted
abbrev pub is_running : Setup → List Entry → ℕ → Bool
is_running w before actor = nat_lt actor (w.group.n + w.group.clients) && not (is_halted w actor (own before actor))

-- the bodies are of these kinds, in order
abbrev pub are_kinds : List Kind → List Body → Bool
are_kinds kinds said = bytes_eq (map kind_number kinds) (map (λ b. kind_number (kind_of b)) said)

-- the next entry of a history
abbrev pub entry_with : List Entry → ℕ → Event → List Body → Entry
entry_with before actor event said = record { stamp = length before; actor = actor; event = event; said = said }

-- the entry of an event, where it is one of the actor's role and the actor says bodies of these kinds at it
abbrev pub entry_of_event : Setup → List Entry → ℕ → List Kind → Option Event → Option Entry
entry_of_event w before actor kinds None = None
entry_of_event w before actor kinds (Some event) =
    if w.fits actor event && are_kinds kinds (says w before actor event) then Some
    (entry_with before actor event (says w before actor event)) else None

-- The entry that an actor's event makes next, whatever the actor says at it: there is one where the actor is running and
-- the event is one of its role.
abbrev pub entry_next : Setup → List Entry → ℕ → Option Event → Option Entry
entry_next w before actor None = None
entry_next w before actor (Some event) =
    if is_running w before actor && w.fits actor event then Some
    (entry_with before actor event (says w before actor event)) else None

-- the entry that a line tells of an actor, if the scenario has it
abbrev pub entry_by : Setup → List Entry → EntryLine → Option ℕ → Option Entry
entry_by w before l None = None
entry_by w before l (Some actor) =
    if nat_eq l.stamp (length before) && is_running w before actor then entry_of_event w before actor l.kinds
    (standing_event w (event_from w before l.event)) else None

-- the entry that a line tells, where it may come after this history
unfoldable pub entry_from : Setup → List Entry → EntryLine → Option Entry
entry_from w before l = entry_by w before l l.actor

-- the entry with this stamp can't come
abbrev pub not_legal : ℕ → Reading (List Entry)
not_legal stamp = Err (refusal.NotLegal stamp)

-- the entries of lines in turn, or the place of the first that can't come
abbrev pub entries_from : Setup → List Entry → List EntryLine → Reading (List Entry)
entries_from w before [] = Ok before
entries_from w before (l ∷ rest) =
    elim (entry_from w before l) [ None ↦ not_legal (length before) | Some e ↦ entries_from w (before ++ e ∷ []) rest ]

-- the history that lines tell
abbrev pub history_of : Setup → Reading (List EntryLine) → Reading (List Entry)
history_of w (Ok entries) = entries_from w [] entries
history_of w (Err e) = Err e

-- The history that a text tells. The form of all lines comes first, then the first entry that can't come after those
-- before it.
unfoldable pub history_in : Contents → List ℕ → Reading (List Entry)
history_in c bytes = history_of (setup_of c) (run_in (cast_of c.settings c.plant) bytes)
