use Rattle.world_history.proofs.ScenarioCharges.{charged_by_setup}
use Rattle.world_history.proofs.laws.charged_by_setup.Goals as goal

pub returns : goal.returns
returns c = charged_by_setup
