use Rattle.progress_bounds.proofs.Shares.{asks_within_share}
use Rattle.progress_bounds.proofs.laws.asks_within_share.Goals as goal

pub returns : goal.returns
returns c = asks_within_share
