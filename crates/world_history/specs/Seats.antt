-- When an actor's state is the replay of its list. (This project's own.)
use Rattle.std.specs.Prelude.{◌≡◌, ℕ, ◌+◌, ◌<◌, true, false, List, [], ◌∷◌, ◌++◌, map}
use Rattle.std.specs.List.{list_all}
use Rattle.message_types.specs.declared.signed.Signed.{Signed}
use Rattle.message_types.specs.declared.body.Body.{Body}
use Rattle.checked_frames.specs.Standing.{Ring, stands}
use Rattle.hash_signatures.specs.State.{KeyUse, key_use}
use Rattle.scenario_file.specs.Reading.{Contents, contents, with_held}
use Rattle.scenario_file.specs.Valid.{IsScenario}
use Rattle.history_rules.specs.Events.{Event, Entry}
use Rattle.history_rules.specs.Setup.{Setup, is_correct, leaves_used}
use Rattle.history_rules.specs.Legal.{says_in}
use Rattle.world_entries.specs.Entries.{entry_of}
use Rattle.world_rules.specs.Scenarios.{setup_of, group_in, key_in, HasKey}
use Rattle.history_laws.specs.BenchLists.{IsBenchList}
use Rattle.bench_rules.specs.Lists.{frames_after}
use Rattle.world_history.specs.declared.role.Role.{Role}
use Rattle.world_history.specs.declared.seat.Seat.{Seat}
use Rattle.world_history.specs.Roles.{IsRole}
use Rattle.world_history.specs.State.{BenchState}

-- all frames stand in some ring
pub record AllStand (frames : List (Signed Body)) : Type 0 where
  pub ring : Ring
  pub are_standing : list_all (stands ring) frames ≡ true

-- the frames of each entry of an actor's list, one list an entry
abbrev pub frames_of_each : Setup → ℕ → List Entry → List Entry → List (List (Signed Body))
frames_of_each w actor before [] = []
frames_of_each w actor before (e ∷ rest) =
    frames_after w actor before e ∷ frames_of_each w actor (before ++ e ∷ []) rest

-- the scenario as the seat's owner knows it
abbrev pub world_in : Seat → Contents
world_in s = with_held (contents s.scenario) s.held

abbrev pub list_in : Seat → List Entry
list_in s = map entry_of s.list.items

-- the seat as contracts see it in a bench under which memory didn't run out
abbrev pub state_of : Seat → BenchState
state_of s = record { world = world_in s; actor = s.actor; list = list_in s; signed = s.signed; is_spent = false }

-- the entry that an event at a stamp makes
abbrev pub entry_of_seat : Seat → ℕ → Event → Entry
entry_of_seat s stamp event =
    record {
      stamp = stamp;
      actor = s.actor;
      event = event;
      said =
          says_in (setup_of (world_in s)) s.actor (list_in s) event;
    }

-- the same actor of the same scenario, of whom as many words are signed outside its list
abbrev pub GoesByTheSame : Seat → Seat → Type 0
GoesByTheSame old new = (world_in new ≡ world_in old) × (new.actor ≡ old.actor) × (new.signed ≡ old.signed)

-- An actor has its key, and its role, key and frames are what its list makes of them, where it signed so many words that
-- aren't in its list. Only an intruded master signs such words.
pub record IsReplay (c : Contents) (actor : ℕ) (list : List Entry) (signed : ℕ) (r : Role) (k : KeyUse)
    (made : List (List (Signed Body))) : Type 0 where
  pub scenario : IsScenario c
  pub there : actor < (group_in c).n + (group_in c).clients
  pub own : HasKey c actor
  pub entries : IsBenchList (setup_of c) actor list
  pub role : IsRole c actor list r
  pub key : k ≡ key_use (key_in c actor) (leaves_used (setup_of c) list + signed)
  pub signs : is_correct (setup_of c) actor ≡ true → signed ≡ 0
  pub frames : made ≡ frames_of_each (setup_of c) actor [] list

abbrev pub IsSeated : Seat → Type 0
IsSeated s = IsReplay (world_in s) s.actor (list_in s) s.signed s.role s.key s.frames.items
