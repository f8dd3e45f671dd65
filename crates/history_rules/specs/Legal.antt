-- What actors say and execute, and which histories are legal. What an actor says goes by its own list of entries alone.
-- A history is legal where each entry is one that its actor, as it then was, could add, and where what was said at it
-- is what the rules make that actor say. (This project's own.)
use Rattle.std.specs.Prelude.{◌≡◌, ℕ, ◌+◌, ◌<◌, true, false, List, [], ◌∷◌, ◌++◌, length, take, nat_lt, if◌then◌else◌}
use Rattle.message_types.specs.declared.signed.Signed.{Signed}
use Rattle.message_types.specs.declared.updates.Update.{Update}
use Rattle.message_types.specs.declared.body.Body.{Body}
use Rattle.protocol_rules.specs.Views.{view}
use Rattle.protocol_rules.specs.Master.{Heard, learned, taken_frames, executed, answers}
use Rattle.message_types.specs.Parts.{parts}
use Rattle.std.specs.List.{flat_map}
use Rattle.history_rules.specs.Events.{Event, Took, Entry, frame_taken, is_tick, is_silent}
use Rattle.history_rules.specs.Setup.{Setup, stands, room, heard_from, own}
use Rattle.history_rules.specs.Keeping.{is_halted}

-- what a master heard, by its own list
unfoldable pub heard_in : Setup → ℕ → List Entry → List Heard
heard_in w master own = heard_from w master 0 own

-- An intruded master says nothing: its words stand in its cries.
abbrev pub intruded_says : List Body
intruded_says = []

-- A correct master says what the rules make it say, at a silent event nothing.
abbrev pub master_says : Setup → ℕ → List Entry → Event → List Body
master_says w master own event =
    if is_silent event then [] else answers w.group w.orders master (heard_in w master own)
    (frame_taken event) (is_tick event)

-- what an actor of whatever kind would say at an event after its own list, with leaves enough
abbrev pub would_say : Setup → ℕ → List Entry → Event → List Body
would_say w actor own event =
    if nat_lt actor w.group.n
    then (if w.intruded actor then intruded_says else master_says w actor own event)
    else w.client_says actor own event

-- what it says: as much of it as its leaves can sign
unfoldable pub says_in : Setup → ℕ → List Entry → Event → List Body
says_in w actor own event = take (room w own) (would_say w actor own event)

-- all that a master knows at the last of its events: what it said at that event isn't known to it yet
unfoldable pub known_of : List Heard → List (Signed Body)
known_of [] = []
known_of (e ∷ []) = flat_map parts (taken_frames e.took)
known_of (e ∷ f ∷ rest) = learned e ++ known_of (f ∷ rest)

-- what a master has executed, and the view that it is in, after its own list
abbrev pub executions_in : Setup → ℕ → List Entry → List Update
executions_in w master own = executed w.group (known_of (heard_in w master own))

abbrev pub view_in : Setup → ℕ → List Entry → ℕ
view_in w master own = view w.group (known_of (heard_in w master own))

-- the same over a whole history, by the actor's own entries of it
abbrev pub heard : Setup → List Entry → ℕ → List Heard
heard w history actor = heard_in w actor (own history actor)

abbrev pub says : Setup → List Entry → ℕ → Event → List Body
says w before actor event = says_in w actor (own before actor) event

abbrev pub executions : Setup → List Entry → ℕ → List Update
executions w history actor = executions_in w actor (own history actor)

abbrev pub view_by : Setup → List Entry → ℕ → ℕ
view_by w history actor = view_in w actor (own history actor)

-- An event that takes a frame takes one that stands and bears a lower stamp. That it was said there isn't asked.
abbrev pub TakesWell : Setup → ℕ → Event → Type 0
TakesWell w now (Took stamp place frame) = (stands w frame ≡ true) × (stamp < now)
TakesWell w now _ = Unit {0}

-- the entry may come after this history
pub record IsLegalEntry (w : Setup) (before : List Entry) (e : Entry) : Type 0 where
  pub stamp : e.stamp ≡ length before
  pub actor : e.actor < w.group.n + w.group.clients
  pub running : is_halted w e.actor (own before e.actor) ≡ false
  pub role : w.fits e.actor e.event ≡ true
  pub taken : TakesWell w (length before) e.event
  pub said : e.said ≡ says w before e.actor e.event

-- the entry stands in the history behind this beginning
pub record Stands (history before : List Entry) (e : Entry) : Type 0 where
  pub after : List Entry
  pub whole : history ≡ before ++ e ∷ after

pub record IsLegal (w : Setup) (history : List Entry) : Type 0 where
  pub entries : (before : List Entry) (e : Entry) → Stands history before e → IsLegalEntry w before e
