use Rattle.std.proofs.Common.{◌≡◌, ◌++◌, ◌+◌, ◌-◌}
use Rattle.master_points.specs.Effects.{to_each}
use Rattle.master_points.proofs.master.to_each.Given as goal

abbrev pub invariant-loop-place : goal.invariant-loop-place
invariant-loop-place l = l.orders ++ to_each (l.first + l.place) (l.count - l.place) l.order ≡ l.initial.orders
    ++ to_each l.first l.count l.order
