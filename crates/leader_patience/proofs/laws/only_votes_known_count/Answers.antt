use Rattle.leader_patience.proofs.Votes.{only_votes_known}
use Rattle.leader_patience.proofs.laws.only_votes_known_count.Goals as goal

pub returns : goal.returns
returns c = only_votes_known
