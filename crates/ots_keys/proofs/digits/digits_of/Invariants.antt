use Rattle.std.proofs.Common.{◌≡◌, ℕ, ◌<◌, length}
use Rattle.ots_keys.proofs.Growing.{IsDigitAt}
use Rattle.ots_keys.proofs.digits.digits_of.Given as goal

abbrev pub invariant-digits : goal.invariant-digits
invariant-digits l = (length l.digits ≡ 265) × ((k : ℕ) → k < l.i → IsDigitAt l.ots l.hash l.digits k)
