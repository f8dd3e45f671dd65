use Rattle.agreement.proofs.ExecutionsAgree.{ordered_agree}
use Rattle.agreement.proofs.laws.ordered_agree.Goals as goal

pub returns : goal.returns
returns c = ordered_agree
