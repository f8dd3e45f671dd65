-- The seat of an actor bears its number, and its inputs fit the run's scenario, which is the course's.
use Rattle.std.proofs.Common.{◌≡◌, ◌<◌, true, sym, subst}
use Rattle.scenario_file.specs.Reading.{Contents}
use Rattle.world_rules.specs.Scenarios.{actors_in}
use Rattle.station_turns.specs.Pace.{fit_inputs}
use Rattle.replica_threads.proofs.seating.station_at.Goals as goal

pub make-requires-clause-valid : goal.make-requires-clause-valid
make-requires-clause-valid g c = c.requires.course.valid

pub make-requires-clause-there : goal.make-requires-clause-there
make-requires-clause-there g c = subst (λ (x : Contents). c.args.place.actor < actors_in x)
    (sym c.requires.course.scenario) c.requires.place.there

pub make-requires-clause-scenario : goal.make-requires-clause-scenario
make-requires-clause-scenario g c = c.requires.course.scenario

pub make-requires-clause-number : goal.make-requires-clause-number
make-requires-clause-number g c = c.requires.place.number

pub make-requires-clause-source : goal.make-requires-clause-source
make-requires-clause-source g c = c.requires.place.source

pub make-requires-clause-inputs : goal.make-requires-clause-inputs
make-requires-clause-inputs g c = c.requires.place.inputs

pub make-requires-clause-fit : goal.make-requires-clause-fit
make-requires-clause-fit g c = subst (λ (x : Contents). fit_inputs x c.args.place.actor c.args.place.inputs.items ≡ true)
    (sym c.requires.course.scenario) c.requires.place.fit

pub make-requires-clause-turns : goal.make-requires-clause-turns
make-requires-clause-turns g c = (c.requires.course.turns, c.requires.course.most)
