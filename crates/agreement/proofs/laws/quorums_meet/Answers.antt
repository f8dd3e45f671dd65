use Rattle.agreement.proofs.QuorumsMeet.{meet_at}
use Rattle.agreement.proofs.laws.quorums_meet.Goals as goal

pub returns : goal.returns
returns c = λ g first second intruded sizes p q few. meet_at g first second intruded sizes p q few
