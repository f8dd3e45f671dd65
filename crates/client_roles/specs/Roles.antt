-- How a client goes on at an event: its front or its desk becomes that after the event. (This project's own.)
use Rattle.std.specs.Prelude.{ℕ, ◌+◌, Bool, true, List, [], ◌∷◌, ◌++◌, length}
use Rattle.message_types.specs.declared.body.Body.{Body}
use Rattle.protocol_rules.specs.Places.{op_in_place}
use Rattle.vouched_orders.specs.Vouching.{votes_in, counted}
use Rattle.field_proxy.specs.Front.{Front, ProxyState, IsFrontOf}
use Rattle.field_proxy.specs.Happenings.{front_after}
use Rattle.operator_screen.specs.Board.{Desk, ScreenState, IsDeskOf, is_notice}
use Rattle.history_rules.specs.Events.{Event, Command, Entry}
use Rattle.history_rules.specs.Audit.{parts_taken}
use Rattle.world_rules.specs.Clients.{happenings_of}

-- an entry with this event and these words
abbrev pub entry_with : Event → List Body → Entry
entry_with event said = record { stamp = 0; actor = 0; event = event; said = said }

-- the state of a proxy after an event at which it said these words
abbrev pub front_at : Front → Event → List Body → Front
front_at s event said = front_after s (happenings_of (entry_with event said))

-- the state of a screen after an event at which it said these words
abbrev pub desk_at : Desk → Event → List Body → Desk
desk_at s event said = record s {
  commands = s.commands + length said;
  votes = s.votes ++ counted is_notice s.client (votes_in (parts_taken (entry_with event said)));
}

-- A proxy went from one state to another at an event at which it said these words, whatever its front was.
abbrev pub IsProxyAfter : ProxyState → ProxyState → Event → List Body → Type 0
IsProxyAfter old new event said = (s : Front) → IsFrontOf old s → IsFrontOf new (front_at s event said)

-- So did a screen, whatever its desk was.
abbrev pub IsScreenAfter : ScreenState → ScreenState → Event → List Body → Type 0
IsScreenAfter old new event said = (s : Desk) → IsDeskOf old s → IsDeskOf new (desk_at s event said)

-- A command whose numbers have the size that an update can hold. No other event puts its numbers into words.
abbrev pub carries_well : Event → Bool
carries_well (Command op) = op_in_place op
carries_well _ = true
