-- What contracts see of an actor with its keeper. (This project's own.)
use Rattle.std.specs.Prelude.{◌≡◌, ℕ, ◌+◌, ◌<◌, Bool, true, false, List, [], ◌∷◌, ◌++◌, Option, Some, None}
use Rattle.std.specs.Prelude.{if◌then◌else◌}
use Rattle.std.specs.declared.vec.Vec.{Vec}
use Rattle.std.specs.declared.alloc.Global.{Global}
use Rattle.message_types.specs.declared.signed.Signed.{Signed}
use Rattle.message_types.specs.declared.body.Body.{Body}
use Rattle.outside.specs.Keepers.{Binder}
use Rattle.scenario_file.specs.Reading.{Contents}
use Rattle.scenario_file.specs.Valid.{IsScenario}
use Rattle.history_rules.specs.Events.{Event, is_restart}
use Rattle.history_rules.specs.Setup.{Setup, is_correct}
use Rattle.history_rules.specs.Keeping.{is_halted}
use Rattle.world_rules.specs.Scenarios.{setup_of, group_in}
use Rattle.history_laws.specs.BenchLists.{IsBenchList}
use Rattle.world_history.specs.State.{BenchState, setup_in, entry_at, frames_said}
use Rattle.world_history.specs.Lists.{EachFits, replayed, frames_of_last}
use Rattle.world_history.specs.Keeping.{entries_kept, GoesWith}

-- Its bench, its keeper, and whether memory ran out under it. An intruded master has no keeper.
pub record KeptState : Type 0 where
  pub bench : BenchState
  pub keeper : Option Binder
  pub is_spent : Bool

-- a keeper's call failed at one of the entries
abbrev pub halted_in : BenchState → Bool
halted_in b = is_halted (setup_in b) b.actor b.list

abbrev pub is_kept : BenchState → Bool
is_kept b = is_correct (setup_in b) b.actor

-- A correct actor, whose keeper goes with its list.
pub record HasKeeper (b : BenchState) (k : Binder) (halted : Bool) : Type 0 where
  pub works : b.is_spent ≡ false
  pub scenario : IsScenario b.world
  pub there : b.actor < (group_in b.world).n + (group_in b.world).clients
  pub correct : is_kept b ≡ true
  pub unsigned : b.signed ≡ 0
  pub entries : IsBenchList (setup_in b) b.actor b.list
  pub fits : EachFits (entries_kept (setup_in b) b.actor b.list)
  pub keeper : GoesWith (setup_in b) b.actor b.list k
  pub agrees : halted ≡ halted_in b

-- An intruded master, which is never halted.
pub record HasNone (b : BenchState) (halted : Bool) : Type 0 where
  pub works : b.is_spent ≡ false
  pub intruded : is_kept b ≡ false
  pub failing : (setup_in b).failing b.actor ≡ []
  pub running : halted ≡ false

abbrev pub Keeps : BenchState → Option Binder → Bool → Type 0
Keeps b (Some k) halted = HasKeeper b k halted
Keeps b None halted = HasNone b halted

-- an actor before its first event, with its keeper
abbrev pub first_keeper : Setup → ℕ → Option Binder
first_keeper w actor = if is_correct w actor then Some
    (record { entries = []; failing = w.failing actor; calls = 0; faults = 0 }) else None

abbrev pub first_state : Contents → ℕ → KeptState
first_state c actor = record { bench = replayed c actor []; keeper = first_keeper (setup_of c) actor; is_spent = false }

-- The frames to post of an event: none where the actor is halted at it, at a restart those of the entry before again,
-- since a stop may have come before they went out, and else those of what it says.
abbrev pub frames_kept : BenchState → ℕ → Event → List (Signed Body)
frames_kept b stamp event =
    if is_halted (setup_in b) b.actor (b.list ++ entry_at b stamp event ∷ [])
    then []
    else (if is_restart event then frames_of_last (setup_in b) b.actor b.list else frames_said b stamp event)

-- what is posted; nothing where the actor is halted
abbrev pub posted : Option (Vec (Signed Body) Global) → List (Signed Body)
posted None = []
posted (Some frames) = frames.items
