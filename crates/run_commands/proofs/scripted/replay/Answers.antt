-- The course of a replay begins with the scenario's file. Where it is refused the course ends there, and
-- otherwise the history goes on from the scenario that the file holds.
use Rattle.std.proofs.Common.{[], refl}
use Rattle.scenario_file.specs.Reading.{contents}
use Rattle.command_ends.proofs.Courses.{after-load}
use Rattle.run_commands.specs.Reading.{with_scenario}
use Rattle.run_commands.specs.Told.{ReplayCourse}
use Rattle.run_commands.proofs.Openings.{open-refused}
use Rattle.run_commands.proofs.Playing.{replay-refused}
use Rattle.run_commands.proofs.scripted.replay.Goals as goal

pub returns-in-Ok-clause-cause : goal.returns-in-Ok-clause-cause
returns-in-Ok-clause-cause g c =
    let found = c.in-Ok.ensures.found in
    after-load (ReplayCourse g.R.Runs.readers c.args.scenario.now c.args.history.now) _ _ _ _ _ []
    c.args.scenario.now found.0 c.replay_history.result
    refl found.1 found.2 c.open_scenario.ensures.kept c.in-Ok.ensures.file_faults
    (c.replay_history.ensures.cause c.args.scenario.now found.0 found.3)

pub returns-in-Err-clause-cause : goal.returns-in-Err-clause-cause
returns-in-Err-clause-cause g c =
    open-refused (ReplayCourse g.R.Runs.readers c.args.scenario.now c.args.history.now) _ _ _ []
    c.args.scenario.now with_scenario contents c.in-Err.refusal refl c.in-Err.ensures.cause
    (λ first w one. replay-refused g.R.Runs.readers c.args.scenario.now c.args.history.now first w one)
