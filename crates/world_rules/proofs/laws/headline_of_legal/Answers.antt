use Rattle.world_rules.proofs.Headline.{headline_of_legal}
use Rattle.world_rules.proofs.laws.headline_of_legal.Goals as goal

pub returns : goal.returns
returns c = headline_of_legal
