use Rattle.history_laws.proofs.EntryByEntry.{none_is_legal, one_more_is_legal}
use Rattle.history_laws.proofs.own_lists.one_more_is_legal.Goals as goal

pub returns : goal.returns
returns c = record { none = none_is_legal; more = one_more_is_legal }
