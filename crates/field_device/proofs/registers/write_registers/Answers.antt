use Rattle.std.proofs.Common.{arith, ap, ◌∙◌, ◌+◌}
use Rattle.std.specs.Prelude.{slice_set}
use Rattle.field_device.proofs.PackingLaws.{registers_none, registers_more}
use Rattle.field_device.proofs.registers.write_registers.Goals as goal

pub loop-i-init : goal.loop-i-init
loop-i-init c = registers_none _ _ _

pub loop-i-preserved : goal.loop-i-preserved
loop-i-preserved c =
    ap (λ value. slice_set c.loop-i.registers (c.args.place + c.loop-i.i) value) c.register_in.ensures
    ∙ registers_more _ _ _ _ _ (omega arith) c.loop-i.invariant
