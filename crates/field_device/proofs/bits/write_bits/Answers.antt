use Rattle.std.proofs.Common.{arith, ap, ◌∙◌, ◌+◌}
use Rattle.std.specs.Prelude.{slice_set}
use Rattle.field_device.proofs.PackingLaws.{bits_none, bits_more}
use Rattle.field_device.proofs.bits.write_bits.Goals as goal

pub loop-i-init : goal.loop-i-init
loop-i-init c = bits_none _ _ _

pub loop-i-preserved : goal.loop-i-preserved
loop-i-preserved c =
    ap (λ value. slice_set c.loop-i.bits (c.args.place + c.loop-i.i) value) c.bit_in.ensures
    ∙ bits_more _ _ _ _ _ (omega arith) c.loop-i.invariant
