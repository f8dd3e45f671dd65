use Rattle.joined_histories.proofs.EarlyLaws.{nothing_early}
use Rattle.joined_histories.proofs.laws.nothing_early_where_that_can_be.Goals as goal

pub returns : goal.returns
returns c = nothing_early
