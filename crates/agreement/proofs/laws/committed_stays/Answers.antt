use Rattle.agreement.proofs.ExecutionsAgree.{committed_stays}
use Rattle.agreement.proofs.laws.committed_stays.Goals as goal

pub returns : goal.returns
returns c = committed_stays
