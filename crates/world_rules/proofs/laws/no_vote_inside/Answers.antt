use Rattle.world_rules.proofs.Votes.{no_vote_inside}
use Rattle.world_rules.proofs.laws.no_vote_inside.Goals as goal

pub returns : goal.returns
returns c = no_vote_inside
