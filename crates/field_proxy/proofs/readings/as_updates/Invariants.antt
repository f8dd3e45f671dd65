use Rattle.std.proofs.Common.{◌≡◌, take}
use Rattle.field_proxy.specs.Readings.{numbered}
use Rattle.field_proxy.proofs.readings.as_updates.Given as goal

abbrev pub invariant-loop-place : goal.invariant-loop-place
invariant-loop-place l = l.updates.items ≡ numbered l.client l.first (take l.place l.ops)
