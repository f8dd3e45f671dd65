use Rattle.history_laws.proofs.EntryByEntry.{own_entry_is_legal}
use Rattle.history_laws.proofs.own_lists.own_entry_is_legal.Goals as goal

pub returns : goal.returns
returns c = own_entry_is_legal
