-- A round takes the lowest bit's copy into the sum.
use Rattle.std.proofs.Common.{arith}
use Rattle.parity_parts.proofs.FieldLaws.{last_round, next_round, first_round}
use Rattle.parity_parts.proofs.field.multiply.Goals as goal

pub loop-bit-init : goal.loop-bit-init
loop-bit-init c = first_round c.args.a c.args.b

pub loop-bit-preserved : goal.loop-bit-preserved
loop-bit-preserved c =
    next_round c.loop-bit._bit c.loop-bit.sum c.loop-bit.left c.loop-bit.copy _ c.shifted-copy.result (omega arith)
    c.loop-bit.invariant c.shifted-copy.ensures

pub returns : goal.returns
returns c = last_round c.loop-bit._bit c.loop-bit.sum c.loop-bit.left c.loop-bit.copy _ (omega arith)
    c.loop-bit.invariant
