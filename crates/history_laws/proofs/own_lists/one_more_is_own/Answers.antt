use Rattle.history_laws.proofs.EntryByEntry.{none_is_own, one_more_is_own}
use Rattle.history_laws.proofs.own_lists.one_more_is_own.Goals as goal

pub returns : goal.returns
returns c = record { none = none_is_own; more = one_more_is_own }
