-- A history as the benches of all actors. (This project's own.)
use Rattle.std.specs.Prelude.{◌≡◌, ℕ, false, List, Some, map, slice_get}
use Rattle.std.specs.List.{flat_map}
use Rattle.quorum_sets.specs.Masters.{numbers_below}
use Rattle.scenario_file.specs.Reading.{Contents}
use Rattle.history_rules.specs.Events.{Entry}
use Rattle.history_rules.specs.Setup.{own}
use Rattle.history_laws.specs.Own.{AreOwnHistories}
use Rattle.world_rules.specs.Scenarios.{actors_in, setup_of}
use Rattle.world_history.specs.State.{BenchState}

-- an actor's bench in a history: its list is the actor's own, and it spoke no word
abbrev pub bench_in : Contents → List Entry → ℕ → BenchState
bench_in c history actor = record { world = c; actor = actor; list = own history actor; signed = 0; is_spent = false }

-- one bench for each actor, in the order of their numbers
abbrev pub benches_of : Contents → List Entry → List BenchState
benches_of c history = map (bench_in c history) (numbers_below (actors_in c))

-- a bench without the words that an intruded master signed outside its list
abbrev pub unsigned : BenchState → BenchState
unsigned b = record b { signed = 0 }

-- The benches of all actors in a history, whatever words intruded masters signed outside their lists.
abbrev pub AreBenches : Contents → List Entry → List BenchState → Type 0
AreBenches c history benches = map unsigned benches ≡ benches_of c history

-- the lists of the actors' entries, in the order of their numbers
abbrev pub lists_of : List BenchState → List (List Entry)
lists_of benches = map (λ b. b.list) benches

-- all entries of the benches, one actor's after the other's
abbrev pub entries_of : List BenchState → List Entry
entries_of benches = flat_map (λ b. b.list) benches

-- a bench of this actor, under which memory never ran out
pub record IsBenchOf (c : Contents) (actor : ℕ) (b : BenchState) : Type 0 where
  pub world : b.world ≡ c
  pub actor_is : b.actor ≡ actor
  pub works : b.is_spent ≡ false

-- one bench of each actor, in the order of their numbers, with lists that the actors could make alone
pub record AreOfAll (c : Contents) (benches : List BenchState) : Type 0 where
  pub each : (actor : ℕ) (b : BenchState) → slice_get benches actor ≡ Some b → IsBenchOf c actor b
  pub lists : AreOwnHistories (setup_of c) (lists_of benches)
