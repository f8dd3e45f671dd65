-- A content leads to the scenario that is read of it, or to the refusal that the fault of its reading stands for.
use Rattle.run_commands.proofs.Scenarios.{found, leads}
use Rattle.run_commands.proofs.opening.read_scenario.Goals as goal

pub returns-clause-leads : goal.returns-clause-leads
returns-clause-leads c = leads c.args.content.now c.read_scenario.result c.read_scenario.ensures.cause

pub returns-clause-found : goal.returns-clause-found
returns-clause-found c = found c.args.content.now c.read_scenario.result c.read_scenario.ensures.cause
