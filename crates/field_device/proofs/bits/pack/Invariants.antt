use Rattle.std.proofs.Common.{◌≡◌}
use Rattle.field_device.proofs.PackingLaws.{bytes_so_far}
use Rattle.field_device.proofs.bits.pack.Given as goal

abbrev pub invariant-loop-k : goal.invariant-loop-k
invariant-loop-k l = l.bytes.items ≡ bytes_so_far l.bits l.k
