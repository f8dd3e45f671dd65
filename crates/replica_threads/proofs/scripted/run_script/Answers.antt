-- What the script and the words give each actor fits that actor's role, so the run may start with it, and it is
-- a run of just these inputs.
use Rattle.std.proofs.Common.{sym, subst}
use Rattle.scenario_file.specs.Reading.{contents}
use Rattle.replica_threads.specs.Courses.{AreFit}
use Rattle.replica_threads.proofs.Fitting.{given_are_fit}
use Rattle.replica_threads.proofs.Given.{run_given}
use Rattle.replica_threads.proofs.scripted.run_script.Goals as goal

pub run-requires-clause-fit : goal.run-requires-clause-fit
run-requires-clause-fit g c κs within =
    subst (AreFit (contents c.args.scenario.now)) (sym c.in_ok-inputs.ensures)
    (given_are_fit (contents c.args.scenario.now) c.args.script.now c.args.words.now
    c.requires.lines c.requires.words)

pub returns-clause-run : goal.returns-clause-run
returns-clause-run g c = run_given (contents c.args.scenario.now) c.args.turns _ _ c.run.result
    c.in_ok-inputs.ensures c.run.ensures.run
