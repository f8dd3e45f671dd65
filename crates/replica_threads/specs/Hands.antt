-- What the hands of a run share, and by which passes they take and post. (This project's own.)
use Rattle.std.specs.Prelude.{◌≡◌, ◌⊎◌, ℕ, List, length, Option, Some, None, slice_get, IsTrue}
use Rattle.message_types.specs.Spelling.{has_spelling}
use Rattle.scenario_file.specs.Reading.{Contents, contents}
use Rattle.scenario_file.specs.Valid.{IsScenario}
use Rattle.world_rules.specs.Scenarios.{setup_of, actors_in}
use Rattle.world_history.specs.Signed.{ring_in}
use Rattle.station_turns.specs.declared.held.Held.{Held}
use Rattle.station_turns.specs.Naming.{RunName}
use Rattle.station_turns.specs.Checking.{held_where_standing}
use Rattle.inboxes.specs.declared.inbox.Inbox.{Inbox}
use Rattle.inboxes.specs.declared.pass.InboxPass.{InboxPass}
use Rattle.inboxes.specs.Passes.{known, IsPassOf}
use Rattle.inboxes.specs.Steps.{Took}
use Rattle.replica_threads.specs.declared.posted.Posted.{Posted}
use Rattle.replica_threads.specs.declared.shared.Shared.{Shared}

-- It is what the hands of the run of this name share: its scenario with the keys of its actors, its stamps, and an
-- inbox for each actor.
pub record IsShared (name : RunName) (shared : Shared) : Type 0 where
  pub valid : IsScenario name.scenario
  pub scenario : contents shared.scenario.now ≡ name.scenario
  pub ring : shared.ring.now ≡ ring_in name.scenario
  pub stamps : shared.stamps.now ≡ name.source
  pub inboxes : length shared.inboxes.now ≡ actors_in name.scenario
  pub turns : shared.turns ≡ name.turns

-- the passes are of these inboxes, one of each, in their order
pub record ArePassesOf (inboxes : List (Inbox Posted)) (passes : List (InboxPass Posted)) : Type 0 where
  pub count : length passes ≡ length inboxes
  pub each : (place : ℕ) (inbox : Inbox Posted) (pass : InboxPass Posted) → slice_get inboxes place ≡ Some inbox →
      slice_get passes place ≡ Some pass → IsPassOf inbox pass

-- what may be posted
abbrev pub may_post : Posted → Type 0
may_post x = IsTrue (has_spelling x.frame)

-- One frame was taken from the inbox, and it is held if it stands.
pub record TakesOne (c : Contents) (old : InboxPass Posted) (held : Option Held) (new : InboxPass Posted) : Type 0 where
  pub posted : Posted
  pub took : Took may_post (known old) posted (known new)
  pub checked : held ≡ held_where_standing (setup_of c) posted.stamp posted.place posted.frame

-- Nothing was taken and nothing is held, or a frame was taken.
abbrev pub Takes : Contents → InboxPass Posted → Option Held → InboxPass Posted → Type 0
Takes c old held new = ((known new ≡ known old) × (held ≡ None)) ⊎ TakesOne c old held new
