use Rattle.master_points.proofs.OrderLaws.{holds-orders}
use Rattle.master_points.proofs.laws.holds_orders.Goals as goal

pub returns : goal.returns
returns c = holds-orders
