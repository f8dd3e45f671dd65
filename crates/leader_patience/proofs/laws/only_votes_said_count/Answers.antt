use Rattle.leader_patience.proofs.Votes.{only_votes_said}
use Rattle.leader_patience.proofs.laws.only_votes_said_count.Goals as goal

pub returns : goal.returns
returns c = only_votes_said
