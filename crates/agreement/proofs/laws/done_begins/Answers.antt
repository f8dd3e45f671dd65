use Rattle.agreement.proofs.DoneIsVouched.{done_begins}
use Rattle.agreement.proofs.laws.done_begins.Goals as goal

pub returns : goal.returns
returns c = done_begins
