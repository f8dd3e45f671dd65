-- A rotation by two shifts.
use Rattle.std.proofs.Common.{◌≡◌, ℕ, ◌<◌, ◌-◌, ◌*◌, ◌/◌, ◌%◌, ◌^◌, arith, refl}
use Rattle.std.specs.Prelude.{bit_or}
use Rattle.std.specs.Int.{w32, rotate_right}

pub rotation_is : (x k : ℕ) → 0 < k → k < 32 → bit_or (x / 2 ^ k) (x * 2 ^ (32 - k) % 2 ^ 32) ≡ rotate_right w32 x k
rotation_is x k low high =
    let right : k % 32 ≡ k = omega arith in
    let left : (32 - k) % 32 ≡ 32 - k = omega arith in
    rw (right, left) refl
