-- What a run of threads comes to: one actor a number, each with a list that goes turn by turn, whose stamps were drawn
-- each once. (This project's own.)
use Rattle.std.specs.Prelude.{◌≡◌, ℕ, ◌+◌, ◌<◌, ◌≤◌, false, List, [], ◌∷◌, ◌++◌, Some, slice_get}
use Rattle.std.specs.List.{slice_index_or}
use Rattle.play_words.specs.declared.input.Input.{Input}
use Rattle.scenario_file.specs.Reading.{Contents}
use Rattle.history_rules.specs.Events.{Entry}
use Rattle.history_rules.specs.Keeping.{is_halted}
use Rattle.history_rules.specs.Legal.{IsLegal}
use Rattle.history_rules.specs.Counts.{merged}
use Rattle.history_laws.specs.Own.{IsOwnHistory, HasEachStampOnce}
use Rattle.world_rules.specs.Scenarios.{setup_of, actors_in}
use Rattle.stamps.specs.Seats.{Drawer, IsEachOnce}
use Rattle.world_history.specs.State.{BenchState}
use Rattle.world_history.specs.KeptState.{KeptState, halted_in}
use Rattle.world_history.specs.Benches.{lists_of, IsBenchOf, AreOfAll}
use Rattle.station_turns.specs.Laws.{stamps_in, stamps_of}
use Rattle.station_turns.specs.Pace.{turns_made, IsPaced}
use Rattle.station_turns.specs.Turns.{Stationed}
use Rattle.station_turns.specs.Naming.{RunName}

-- An actor's list goes turn by turn, and all turns were made unless its keeper failed.
pub record IsActor (c : Contents) (inputs : List (List Input)) (turns actor : ℕ) (b : BenchState) : Type 0 where
  pub paced : IsPaced c actor (slice_index_or inputs actor []) b.list
  pub most : turns_made b.list ≤ turns
  pub whole : is_halted (setup_of c) actor b.list ≡ false → turns_made b.list ≡ turns

-- What a run of threads comes to: a bench of each actor, in the order of their numbers, each made turn by turn, and the
-- stamps that were drawn are those of the entries, each once.
pub record IsRun (c : Contents) (inputs : List (List Input)) (turns : ℕ) (benches : List BenchState) : Type 0 where
  pub of_all : AreOfAll c benches
  pub each : (actor : ℕ) (b : BenchState) → slice_get benches actor ≡ Some b → IsActor c inputs turns actor b
  pub drawn : ℕ
  pub once : IsEachOnce drawn (stamps_of (lists_of benches))

-- The history of such a run: its actors' lists as one, in the order of their stamps.
pub record IsHistoryOf (c : Contents) (inputs : List (List Input)) (turns : ℕ) (history : List Entry) : Type 0 where
  pub benches : List BenchState
  pub run : IsRun c inputs turns benches
  pub merged : history ≡ merged (lists_of benches)

-- in such a run each stamp is that of just one entry
abbrev pub RunsStampOnce : Type 0
RunsStampOnce = (c : Contents) (inputs : List (List Input)) (turns : ℕ) (benches : List BenchState) →
    IsRun c inputs turns benches → HasEachStampOnce (lists_of benches)

-- its history is legal
abbrev pub HistoriesAreLegal : Type 0
HistoriesAreLegal = (c : Contents) (inputs : List (List Input)) (turns : ℕ) (history : List Entry) →
    IsHistoryOf c inputs turns history → IsLegal (setup_of c) history

-- the station's actor made all its turns, unless the station was given up or the actor's keeper failed
abbrev pub HasEnded : ℕ → Stationed → Type 0
HasEnded turns s = s.given_up ≡ false → halted_in s.kept.bench ≡ false → turns_made s.kept.bench.list ≡ turns

-- One actor of a run, whatever the others did.
pub record IsDone (name : RunName) (k : KeptState) : Type 0 where
  pub works : k.is_spent ≡ false
  pub bench : IsBenchOf name.scenario k.bench.actor k.bench
  pub there : k.bench.actor < actors_in name.scenario
  pub own : IsOwnHistory (setup_of name.scenario) k.bench.actor k.bench.list
  pub acts : IsActor name.scenario name.inputs name.turns k.bench.actor k.bench

-- a seat once an actor's is in it: it has that one's number, and drew the stamps of the actor's list
abbrev pub with_actor : Drawer → BenchState → Drawer
with_actor seat b = record seat { numbers = seat.numbers ++ (b.actor + 1) ∷ []; drawn = seat.drawn ++ stamps_in b.list }
