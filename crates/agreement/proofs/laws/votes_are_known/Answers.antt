use Rattle.agreement.proofs.QuorumsAreBacked.{votes_are_known}
use Rattle.agreement.proofs.laws.votes_are_known.Goals as goal

pub returns : goal.returns
returns c = votes_are_known
