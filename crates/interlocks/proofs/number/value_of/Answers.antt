use Rattle.std.proofs.Common.{◌*◌, ◌+◌, ◌-◌, ℕ, get_or, refl, arith}
use Rattle.std.proofs.lemmas.Grind.{common_steps}
use Rattle.interlocks.proofs.NumberLaws.{digits_too_big}
use Rattle.interlocks.proofs.number.value_of.Goals as goal

pub returns-then-value-gt-MOST-clause-value : goal.returns-then-value-gt-MOST-clause-value
returns-then-value-gt-MOST-clause-value c =
    let d : ℕ = get_or c.args.digits.now c.loop-digit.digit-index 0 in
    digits_too_big c.loop-digit.value (c.loop-digit.value * 10 + (d - 48)) c.loop-digit.digit-index c.args.digits.now
    c.args.digits.now d c.loop-digit-test.true refl (grind (arith, common_steps)) refl
    (grind (arith, common_steps)) c.loop-digit.invariant.0
