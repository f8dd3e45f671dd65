use Rattle.history_laws.proofs.Unmerged.{own_of_merged}
use Rattle.history_laws.proofs.counts.own_of_merged.Goals as goal

pub returns : goal.returns
returns c = own_of_merged
