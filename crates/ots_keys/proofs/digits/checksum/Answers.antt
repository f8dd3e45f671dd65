-- The sum so far is the definition's for the coefficients so far. As they are few, the sum when shifted still
-- fits 16 bits, so that nothing of it is cut off.
use Rattle.std.proofs.Common.{◌≡◌, ◌/◌, ℕ, ap, refl, arith}
use Rattle.std.proofs.Math.Nat.{mod-eq_of_lt}
use Rattle.ots_keys.specs.Parameters.{width}
use Rattle.ots_keys.specs.Digits.{checksum}
use Rattle.ots_keys.proofs.Widths.{shifted_fits, digits_are_few}
use Rattle.ots_keys.proofs.digits.checksum.Goals as goal

pub returns : goal.returns
unfolding checksum
returns c =
    let ots = c.args.ots in
    let few = digits_are_few ots in
    let count = ap (λ (w : ℕ). 256 / w) c.width-i-end.ensures in
    let done : c.loop-i.i ≡ 256 / width ots = omega (arith, count) in
    let fits = shifted_fits ots c.loop-i.sum (omega arith) in
    rw (c.checksum_shift.ensures, mod-eq_of_lt fits, c.loop-i.invariant.0, done) refl
