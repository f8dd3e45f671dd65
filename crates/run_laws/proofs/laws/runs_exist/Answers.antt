use Rattle.run_laws.proofs.ActorsInTurn.{runs_exist, scripts_have_runs}
use Rattle.run_laws.proofs.laws.runs_exist.Goals as goal

pub returns-clause-given : goal.returns-clause-given
returns-clause-given c = runs_exist

pub returns-clause-scripts : goal.returns-clause-scripts
returns-clause-scripts c = scripts_have_runs
