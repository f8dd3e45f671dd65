use Rattle.history_laws.proofs.MergedHistories.{merged_is_legal, merged_has_own_lists}
use Rattle.history_laws.proofs.own_lists.merged_is_legal.Goals as goal

pub returns : goal.returns
returns c = record { legal = merged_is_legal; own = merged_has_own_lists }
