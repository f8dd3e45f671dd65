use Rattle.std.proofs.Common.{◌≡◌}
use Rattle.field_device.specs.Packing.{overwritten, bits_in}
use Rattle.field_device.proofs.bits.write_bits.Given as goal

abbrev pub invariant-loop-i : goal.invariant-loop-i
invariant-loop-i l = l.bits ≡ overwritten l.initial.bits l.place (bits_in l.i l.bytes)
