-- The four widths of digits.
use Rattle.std.proofs.Common.{◌<◌, ◌≤◌, ◌+◌, ◌*◌, ◌/◌, ◌%◌, ◌^◌, ℕ, arith}
use Rattle.ots_keys.specs.declared.parameters.Ots.{Ots}
use Rattle.ots_keys.specs.declared.parameters.Ots.TheVariants.{W1, W2, W4, W8}
use Rattle.ots_keys.specs.Parameters.{width, top_digit, checksum_shift}

-- a digit ends inside its byte
pub digit_fits : (ots : Ots) (i : ℕ) → width ots * (i % (8 / width ots)) + width ots ≤ 8
digit_fits W1 i = omega arith
digit_fits W2 i = omega arith
digit_fits W4 i = omega arith
digit_fits W8 i = omega arith

-- a byte has some digits
pub some_digits : (ots : Ots) → 0 < 8 / width ots
some_digits W1 = omega arith
some_digits W2 = omega arith
some_digits W4 = omega arith
some_digits W8 = omega arith

pub top_is : (ots : Ots) → top_digit ots < 256
top_is W1 = omega arith
top_is W2 = omega arith
top_is W4 = omega arith
top_is W8 = omega arith

-- a hash has at most 256 digits
pub digits_are_few : (ots : Ots) → 256 / width ots ≤ 256
digits_are_few W1 = omega arith
digits_are_few W2 = omega arith
digits_are_few W4 = omega arith
digits_are_few W8 = omega arith

-- no checksum is cut off when it is shifted
pub shifted_fits : (ots : Ots) (sum : ℕ) → sum ≤ 65280 → sum * 2 ^ checksum_shift ots < 2 ^ 32
shifted_fits W1 sum h = omega arith
shifted_fits W2 sum h = omega arith
shifted_fits W4 sum h = omega arith
shifted_fits W8 sum h = omega arith
