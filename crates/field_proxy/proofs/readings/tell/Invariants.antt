use Rattle.std.proofs.Common.{◌≡◌, take}
use Rattle.field_proxy.specs.Readings.{told}
use Rattle.field_proxy.proofs.readings.tell.Given as goal

abbrev pub invariant-loop-op : goal.invariant-loop-op
invariant-loop-op l = l.lasts ≡ told l.initial.lasts (take l.op-index l.ops)
