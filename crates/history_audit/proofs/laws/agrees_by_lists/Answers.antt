use Rattle.history_audit.proofs.Longest.{agrees_by_lists}
use Rattle.history_audit.proofs.laws.agrees_by_lists.Goals as goal

pub returns : goal.returns
returns c = agrees_by_lists
