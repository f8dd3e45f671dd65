-- Which entry an event makes that comes to a station: none but those that come from outside. (This project's own.)
use Rattle.std.specs.Prelude.{ℕ, Bool, true, false, not, ◌&&◌, if◌then◌else◌, List, [], ◌∷◌, Option, None}
use Rattle.std.specs.List.{list_any}
use Rattle.std.specs.Str.{bytes_eq}
use Rattle.sha2.specs.Sha256.{sha256}
use Rattle.message_types.specs.Texts.{frame_text}
use Rattle.scenario_file.specs.Reading.{Contents}
use Rattle.history_rules.specs.Events.{Event, Took, Entry}
use Rattle.world_rules.specs.Scenarios.{setup_of}
use Rattle.run_lines.specs.declared.event_line.EventLine.{EventLine}
use Rattle.run_lines.specs.declared.event_line.EventLine.TheVariants as line
use Rattle.printed_history.specs.Histories.{event_from, standing_event, entry_next}

-- Which events come from outside: a frame by its bytes, a tick, a command, a change in the field, a poll.
abbrev pub is_given : EventLine → Bool
is_given (line.Frame bytes) = true
is_given line.Tick = true
is_given (line.Command op) = true
is_given (line.Field area place value) = true
is_given line.Poll = true
is_given other = false

-- The frame of these bytes was taken before, as far as digests tell: it isn't taken again, since it would tell nothing new
-- and an intruder could fill the file with it.
abbrev pub takes_frame : List ℕ → Event → Bool
takes_frame bytes (Took stamp place frame) = bytes_eq (sha256 (frame_text frame)) (sha256 bytes)
takes_frame bytes _ = false

abbrev pub is_repeated : List Entry → EventLine → Bool
is_repeated list (line.Frame bytes) = list_any (λ e. takes_frame bytes e.event) list
is_repeated list other = false

-- The entry that an event's words make, those of an entry that is kept: none of a halted actor or of another role's event,
-- and none where a frame spells nothing or doesn't stand.
abbrev pub entry_of_line : Contents → ℕ → List Entry → EventLine → Option Entry
entry_of_line c actor list l =
    entry_next (setup_of c) list actor (standing_event (setup_of c) (event_from (setup_of c) list l))

-- the entry that they make where they come from outside
abbrev pub entry_given : Contents → ℕ → List Entry → EventLine → Option Entry
entry_given c actor list l = if is_given l && not (is_repeated list l) then entry_of_line c actor list l else None

-- What a station that did nothing yet does as it is started: it is made anew from what was kept, which is nothing. So there is
-- an entry before the first frame that comes, and that frame may be taken: told by its bytes, it counts as said there.
abbrev pub first_entry : Contents → ℕ → List Entry → Option Entry
first_entry c actor [] = entry_of_line c actor [] line.Restart
first_entry c actor (e ∷ list) = None
