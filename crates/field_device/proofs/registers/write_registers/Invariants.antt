use Rattle.std.proofs.Common.{◌≡◌}
use Rattle.field_device.specs.Packing.{overwritten, registers_in}
use Rattle.field_device.proofs.registers.write_registers.Given as goal

abbrev pub invariant-loop-i : goal.invariant-loop-i
invariant-loop-i l = l.registers ≡ overwritten l.initial.registers l.place (registers_in l.i l.bytes)
