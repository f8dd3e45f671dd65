-- When the length of a list, once read, is above the most that the list may have.
use Rattle.std.proofs.Common.{◌≡◌, ◌<◌, ◌≤◌, ◌^◌, ℕ, ap, ◌∙◌, arith, length, length-append}
use Rattle.wire_parts.specs.Fields.{u16_bytes, u16_at}
use Rattle.wire_parts.specs.FieldLaws.{length-u16_bytes, u16_at-u16_bytes}
use Rattle.wire_parts.specs.View.{View, Takes, IsAbove}

-- the length that was read is the one that stands there
length_read : (old new : View) (count : ℕ) → count < 2 ^ 16 → Takes old new (u16_bytes count)
    → (2 ≤ length old.rest) × (u16_at old.rest ≡ count)
length_read old new count fits taken =
    let whole = ap length taken.bytes ∙ length-append (u16_bytes count) new.rest in
    (omega (arith, length-u16_bytes count), ap u16_at taken.bytes ∙ u16_at-u16_bytes count new.rest fits)

pub is_above : (old new : View) (count most : ℕ) → count < 2 ^ 16 → Takes old new (u16_bytes count)
    → most < count → IsAbove old.rest most
is_above old new count most fits taken more =
    let read = length_read old new count fits taken in
    (read.0, omega arith)

pub is_not_above : (old new : View) (count most : ℕ) → count < 2 ^ 16 → Takes old new (u16_bytes count)
    → count ≤ most → IsAbove old.rest most → ⊥
is_not_above old new count most fits taken within above =
    let read = length_read old new count fits taken in
    let more = above.1 in
    omega arith
