use Rattle.scenario_file.proofs.UnknownLaws.{first-unknown}
use Rattle.scenario_file.proofs.unknown.first_unknown.Goals as goal

pub returns : goal.returns
returns c = rw (first-unknown _) c.least_unknown.ensures
