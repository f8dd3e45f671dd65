-- How a run goes, what its actors are given, and which hands they have. (This project's own.)
use Rattle.std.specs.Prelude.{◌≡◌, ℕ, ◌+◌, ◌≤◌, ◌<◌, true, List, [], ◌∷◌, length, nat_lt, All, if◌then◌else◌}
use Rattle.std.specs.List.{slice_index_or}
use Rattle.std.specs.declared.vec.Vec.{Vec}
use Rattle.std.specs.declared.alloc.Global.{Global}
use Rattle.play_words.specs.declared.input.Input.{Input}
use Rattle.scenario_file.specs.Reading.{Contents, contents, cast_of}
use Rattle.scenario_file.specs.Valid.{IsScenario}
use Rattle.script_lines.specs.declared.saying.Saying.{Saying}
use Rattle.script_lines.specs.declared.script.Line.{Line}
use Rattle.script_lines.specs.Given.{inputs_of}
use Rattle.world_rules.specs.Scenarios.{actors_in}
use Rattle.stamps.specs.Seats.{Source, Drawer}
use Rattle.inboxes.specs.declared.inbox.Inbox.{Inbox}
use Rattle.station_turns.specs.Pace.{fit_inputs}
use Rattle.station_turns.specs.Turns.{Stationed}
use Rattle.station_turns.specs.Naming.{RunName}
use Rattle.replica_threads.specs.declared.posted.Posted.{Posted}
use Rattle.replica_threads.specs.declared.shared.Shared.{Shared}
use Rattle.replica_threads.specs.Hands.{IsShared, ArePassesOf}
use Rattle.replica_threads.specs.declared.course.Course.{Course}
use Rattle.replica_threads.specs.declared.job.Job.{Job}
use Rattle.replica_threads.specs.declared.place.Place.{Place}

-- one list of inputs for each actor, in the order of their numbers, each of what the actor can be given
pub record AreFit (c : Contents) (inputs : List (List Input)) : Type 0 where
  pub all : length inputs ≡ actors_in c
  pub each : (actor : ℕ) → actor < actors_in c → fit_inputs c actor (slice_index_or inputs actor []) ≡ true

-- what a script and words give the actors of a scenario
abbrev pub inputs_given : Contents → List Line → List Saying → List (List Input)
inputs_given c lines sayings = inputs_of (cast_of c.settings c.plant) lines sayings

-- the run of this name goes so
pub record IsCourse (name : RunName) (course : Course) : Type 0 where
  pub valid : IsScenario (contents course.scenario.now)
  pub scenario : contents course.scenario.now ≡ name.scenario
  pub turns : course.turns ≡ name.turns
  pub most : course.turns ≤ 4000

-- the first seat of some stamps once the seats of so many actors were split off from it: it is one of them itself, and
-- drew nothing
abbrev pub seats_made : Source → ℕ → Drawer
seats_made source actors = record { of = source; number = 0; made = actors + 1; numbers = 0 ∷ []; drawn = [] }

-- An actor of the run of this name before its station is made: its seat is the one that was split off after those of
-- the actors before it, and has drawn nothing.
pub record IsPlace (name : RunName) (place : Place) : Type 0 where
  pub there : place.actor < actors_in name.scenario
  pub number : (place.seat.number ≡ place.actor + 1) × (place.seat.numbers ≡ place.seat.number ∷ [])
      × (place.seat.drawn ≡ [])
  pub source : place.seat.of ≡ name.source
  pub inputs : place.inputs.items ≡ slice_index_or name.inputs place.actor []
  pub fit : fit_inputs name.scenario place.actor place.inputs.items ≡ true

-- how many hands an actor has: a master so many, another one
abbrev pub hands_of : ℕ → ℕ → ℕ → ℕ
hands_of masters hands actor = if nat_lt actor masters then hands else 1

-- so many hands, each with a pass of each inbox
pub record AreJobs (inboxes : List (Inbox Posted)) (count : ℕ) (jobs : List Job) : Type 0 where
  pub many : length jobs ≡ count
  pub passes : All (λ job. ArePassesOf inboxes job.passes.items) jobs

-- a station with as many hands as its actor has
abbrev pub IsCrew : List (Inbox Posted) → ℕ → ℕ → Vec Job Global × Stationed → Type 0
IsCrew inboxes masters hands crew = AreJobs inboxes (hands_of masters hands crew.1.kept.bench.actor) crew.0.items

-- The hands can make turns: they share what the hands of the run of this name share, and each has a pass of each inbox.
pub record CanTurn (name : RunName) (shared : Shared) (jobs : List Job) : Type 0 where
  pub shares : IsShared name shared
  pub passes : All (λ job. ArePassesOf shared.inboxes.now job.passes.items) jobs

-- so can all crews
abbrev pub AreAllReady : RunName → Shared → List (Vec Job Global × Stationed) → Type 0
AreAllReady name shared crews = All (λ crew. CanTurn name shared crew.0.items) crews
