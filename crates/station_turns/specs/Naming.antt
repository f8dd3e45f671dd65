-- What all stations of one run agree on. (This project's own.)
use Rattle.std.specs.Prelude.{◌≡◌, ℕ, ◌+◌, false, List, []}
use Rattle.std.specs.List.{slice_index_or}
use Rattle.play_words.specs.declared.input.Input.{Input}
use Rattle.scenario_file.specs.Reading.{Contents}
use Rattle.stamps.specs.Seats.{Source}
use Rattle.station_turns.specs.Turns.{Stationed}

-- The scenario, the inputs that each actor is given, in the order of the actors' numbers, how many turns an actor
-- makes, and which stamps are drawn.
pub record RunName : Type 0 where
  pub scenario : Contents
  pub inputs : List (List Input)
  pub turns : ℕ
  pub source : Source

-- The station is one of that run.
pub record IsOf (name : RunName) (s : Stationed) : Type 0 where
  pub world : s.kept.bench.world ≡ name.scenario
  pub inputs : s.inputs ≡ slice_index_or name.inputs s.kept.bench.actor []
  pub turns : s.turns ≡ name.turns
  pub source : s.seat.of ≡ name.source

-- The station is that of the actor of this number, as long as memory lasts under it.
abbrev pub IsStationOf : ℕ → Stationed → Type 0
IsStationOf actor s = s.given_up ≡ false → s.kept.bench.actor ≡ actor

-- It is the actor's in that run: it draws by the actor's seat of the run's stamps, of which there is one.
pub record IsOwn (name : RunName) (actor : ℕ) (s : Stationed) : Type 0 where
  pub of : IsOf name s
  pub whose : s.kept.bench.actor ≡ actor
  pub seat : s.seat.number ≡ actor + 1

-- stamps that nothing is drawn from
abbrev pub no_source : Source
no_source = record {
  table = record {
    words = 1;
    slots = 0;
    views_name = 0;
    atom = 0;
    block = 0;
    offset = 0;
    slot_names = [];
  };
  seats = 0;
}
