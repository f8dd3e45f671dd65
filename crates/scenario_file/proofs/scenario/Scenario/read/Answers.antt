use Rattle.scenario_file.proofs.ValidLaws.{read-valid}
use Rattle.scenario_file.proofs.scenario.Scenario.read.Goals as goal

pub returns-in-Ok-clause-valid : goal.returns-in-Ok-clause-valid
returns-in-Ok-clause-valid c = read-valid c.read_text.result c.in-Ok.text.now c.read_text.ensures
