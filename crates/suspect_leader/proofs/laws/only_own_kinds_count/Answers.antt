use Rattle.suspect_leader.proofs.Taken.{only_own_kinds}
use Rattle.suspect_leader.proofs.laws.only_own_kinds_count.Goals as goal

pub returns : goal.returns
returns c = only_own_kinds
