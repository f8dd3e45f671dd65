use Rattle.std.proofs.Common.{◌≡◌, ◌++◌, drop}
use Rattle.master_points.specs.Effects.{change_orders}
use Rattle.master_points.proofs.master.Master.change_orders.Given as goal

abbrev pub invariant-loop-change : goal.invariant-loop-change
invariant-loop-change l =
    l.orders ++ change_orders l.self.site (drop l.change-index l.told) ≡ change_orders l.self.site l.told
