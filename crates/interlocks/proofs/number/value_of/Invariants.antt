use Rattle.std.proofs.Common.{◌≡◌, ◌≤◌, drop}
use Rattle.interlocks.specs.Numbers.{digits_on}
use Rattle.interlocks.proofs.number.value_of.Given as goal

abbrev pub invariant-loop-digit : goal.invariant-loop-digit
invariant-loop-digit l = (digits_on l.value (drop l.digit-index l.digits) ≡ digits_on 0 l.digits)
    × (l.value ≤ 9223372036854775808)
