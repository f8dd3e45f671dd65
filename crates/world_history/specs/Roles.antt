-- What an actor's role keeps after its own entries. (This project's own.)
use Rattle.std.specs.Prelude.{◌≡◌, ℕ, ◌+◌, ◌^◌, ◌<◌, ◌≤◌, Bool, true, false, if◌then◌else◌, List, [], ◌∷◌, ◌++◌}
use Rattle.std.specs.Prelude.{Option, Some, None, length}
use Rattle.message_types.specs.declared.signed.Signed.{Signed}
use Rattle.message_types.specs.declared.body.Body.{Body}
use Rattle.protocol_rules.specs.Group.{Group}
use Rattle.protocol_rules.specs.Master.{Heard}
use Rattle.master_knowledge.specs.Whole.{is_whole}
use Rattle.master_node.specs.Charge.{Charge, says_at}
use Rattle.master_node.specs.Laws.{charge_of}
use Rattle.master_node.specs.Node.{NodeState}
use Rattle.master_node.specs.Running.{IsRunning, IsSomeRunning, HasSpoken, group_in, ticks_in}
use Rattle.scenario_file.specs.Reading.{Contents}
use Rattle.scenario_file.specs.Valid.{IsScenario}
use Rattle.history_rules.specs.Events.{Event, Took, Entry, frame_taken, is_tick, is_silent}
use Rattle.history_rules.specs.Setup.{Setup, is_correct_master}
use Rattle.history_rules.specs.Legal.{heard_in}
use Rattle.field_proxy.specs.Front.{IsFrontOf}
use Rattle.operator_screen.specs.Board.{IsDeskOf}
use Rattle.world_rules.specs.Clients.{front_of, desk_of}
use Rattle.world_rules.specs.Frames.{overheard}
use Rattle.world_rules.specs.Scenarios.{setup_of, group_in as sizes_in, masters_in, proxies_in, fits_correct, HasKey}
use Rattle.client_roles.specs.Roles.{carries_well}
use Rattle.history_laws.specs.BenchLists.{AddsEntry, IsBenchList}
use Rattle.world_history.specs.declared.role.Role.{Role}
use Rattle.world_history.specs.declared.role.Role.TheVariants as role

-- An actor of a scenario, which has its key, comes to an entry after its own list.
pub record Comes (c : Contents) (actor : ℕ) (own : List Entry) (e : Entry) : Type 0 where
  pub scenario : IsScenario c
  pub there : actor < (sizes_in c).n + (sizes_in c).clients
  pub key : HasKey c actor
  pub list : IsBenchList (setup_of c) actor own
  pub adds : AddsEntry (setup_of c) actor own e
  pub short : length own < 2 ^ 32
  pub carried : carries_well e.event ≡ true

-- a correct master's object after its own entries
pub record IsMaster (w : Setup) (actor : ℕ) (own : List Entry) (node : NodeState) : Type 0 where
  pub correct : is_correct_master w actor ≡ true
  pub works : node.is_spent ≡ false
  pub running : IsRunning (charge_of w actor) node.running (heard_in w actor own)

-- an intruded master's knowledge
pub record IsIntruded (w : Setup) (actor : ℕ) (own : List Entry) (known : List (Signed Body)) : Type 0 where
  pub master : actor < w.group.n
  pub intruded : w.intruded actor ≡ true
  pub knows : known ≡ overheard own

-- The role's state after the actor's own entries.
abbrev pub IsRole : Contents → ℕ → List Entry → Role → Type 0
IsRole c actor own (role.Master node) = IsMaster (setup_of c) actor own node
IsRole c actor own (role.Intruded known) = IsIntruded (setup_of c) actor own known
IsRole c actor own (role.Proxy front) =
    (client : ℕ) × (actor ≡ masters_in c + client) × (client < proxies_in c)
    × IsFrontOf front (front_of (masters_in c) c.settings.f c.plant client own)
IsRole c actor own (role.Screen desk) =
    (client : ℕ) × (actor ≡ masters_in c + client) × (proxies_in c ≤ client)
    × IsDeskOf desk (desk_of (masters_in c) c.settings.f client own)

-- what a master says at an event of whatever kind
abbrev pub says_event : Charge → List Heard → Event → List Body
says_event c before event = if is_silent event then [] else says_at c before (frame_taken event) (is_tick event)

-- The state of a master that answered an event and wasn't handed its frames yet.
pub record HasAnswered (c : Charge) (before : List Heard) (event : Event) (node : NodeState) : Type 0 where
  pub works : node.is_spent ≡ false
  pub silent : is_silent event ≡ true → IsRunning c node.running before
  pub loud : is_silent event ≡ false → HasSpoken c node.running before (frame_taken event) (is_tick event)

-- The role's state once it answered the event of an entry: a master waits for its frames, all others have gone on.
abbrev pub IsReady : Contents → ℕ → List Entry → Entry → Role → Type 0
IsReady c actor own e (role.Master node) =
    (is_correct_master (setup_of c) actor ≡ true) × HasAnswered (charge_of (setup_of c) actor)
    (heard_in (setup_of c) actor own) e.event node
IsReady c actor own e other = IsRole c actor (own ++ e ∷ []) other

-- each part of the frame that an event takes is in its place
abbrev pub is_event_whole : Group → Event → Bool
is_event_whole g (Took stamp place frame) = is_whole g frame
is_event_whole g _ = true

-- A master can have the event: memory never ran out under it, and it has a tick left.
pub record CanHear (node : NodeState) (event : Event) : Type 0 where
  pub works : node.is_spent ≡ false
  pub some : IsSomeRunning node.running
  pub whole : is_event_whole (group_in node.running) event ≡ true
  pub ticks : ticks_in node.running < 2 ^ 32
  pub role : fits_correct event ≡ true

-- A role can have the event.
abbrev pub CanAnswer : Event → Role → Type 0
CanAnswer event (role.Master node) = CanHear node event
CanAnswer event (role.Intruded known) = Unit {0}
CanAnswer event (role.Proxy front) = front.updates < 2 ^ 62
CanAnswer event (role.Screen desk) = desk.commands < 2 ^ 63

-- what an option has, as a list
abbrev pub optional : {X : Type 0} → Option X → List X
optional None = []
optional (Some x) = x ∷ []
