use Rattle.agreement.proofs.ExecutionsAgree.{certified_agree}
use Rattle.agreement.proofs.laws.certified_agree.Goals as goal

pub returns : goal.returns
returns c = certified_agree
