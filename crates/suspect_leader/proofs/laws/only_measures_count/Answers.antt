use Rattle.suspect_leader.proofs.Taken.{only_measures}
use Rattle.suspect_leader.proofs.laws.only_measures_count.Goals as goal

pub returns : goal.returns
returns c = only_measures
