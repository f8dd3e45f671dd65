use Rattle.std.proofs.Common.{◌≡◌, take}
use Rattle.master_points.specs.Orders.{held_after}
use Rattle.master_node.proofs.execute.apply_all.Given as goal

abbrev pub invariant-loop-update : goal.invariant-loop-update
invariant-loop-update l = l.points ≡ held_after l.fn.points (take l.update-index l.updates)
