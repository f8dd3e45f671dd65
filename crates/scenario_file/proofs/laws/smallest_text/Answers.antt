use Rattle.scenario_file.proofs.SmallestLaws.{smallest-text}
use Rattle.scenario_file.proofs.laws.smallest_text.Goals as goal

pub returns : goal.returns
returns c = smallest-text
