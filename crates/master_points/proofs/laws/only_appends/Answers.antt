use Rattle.master_points.proofs.OrderLaws.{only-appends}
use Rattle.master_points.proofs.laws.only_appends.Goals as goal

pub returns : goal.returns
returns c = only-appends
