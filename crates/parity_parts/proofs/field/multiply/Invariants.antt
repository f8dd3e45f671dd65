-- The sum so far and what the bits that are left add.
use Rattle.std.proofs.Common.{◌≡◌, ◌-◌, bit_xor}
use Rattle.parity_parts.specs.Field.{product, product_by}
use Rattle.parity_parts.proofs.field.multiply.Given as goal

abbrev pub invariant-loop-bit : goal.invariant-loop-bit
invariant-loop-bit l = bit_xor l.sum (product_by (8 - l._bit) l.left l.copy) ≡ product l.a l.b
