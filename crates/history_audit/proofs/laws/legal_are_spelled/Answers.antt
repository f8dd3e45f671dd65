use Rattle.history_audit.proofs.Legal.{legal_are_spelled}
use Rattle.history_audit.proofs.laws.legal_are_spelled.Goals as goal

pub returns : goal.returns
returns c = legal_are_spelled
