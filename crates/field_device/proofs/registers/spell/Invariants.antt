use Rattle.std.proofs.Common.{◌≡◌, take}
use Rattle.field_device.specs.Packing.{register_bytes}
use Rattle.field_device.proofs.registers.spell.Given as goal

abbrev pub invariant-loop-register : goal.invariant-loop-register
invariant-loop-register l = l.bytes.items ≡ register_bytes (take l.register-index l.registers)
