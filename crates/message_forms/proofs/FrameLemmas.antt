-- A frame is written with a gap for the body's length, which is filled when the body stands.
use Rattle.std.proofs.Common.{◌≡◌, ◌≤◌, ◌+◌, ◌-◌, ℕ, List, ◌++◌, length, take, drop, sym, ap, ◌∙◌, arith}
use Rattle.std.proofs.Common.{length-append, append_assoc, refl}
use Rattle.std.proofs.lemmas.List.{take_at, drop_at}
use Rattle.wire_parts.specs.Fields.{u32_bytes}

pub filled : (before gap body : List ℕ) (at : ℕ) → length gap ≡ 4 → at ≡ length before
    → take at (before ++ gap ++ body) ++ u32_bytes (length (before ++ gap ++ body) - (at + 4))
    ++ drop (at + 4) (before ++ gap ++ body)
    ≡ before ++ u32_bytes (length body) ++ body
filled before gap body at four here =
    let front : take at (before ++ gap ++ body) ≡ before = ap (take at) (append_assoc before gap body)
    ∙ take_at before (gap ++ body) at (sym here) in
    let sum : length (before ++ gap) ≡ at + 4 = omega (arith, length-append before gap) in
    let back : drop (at + 4) (before ++ gap ++ body) ≡ body = drop_at (before ++ gap) body (at + 4) sum in
    let size : length (before ++ gap ++ body) - (at + 4) ≡ length body =
    omega (arith, length-append (before ++ gap) body) in
    rw (front, back, size) refl

pub filled_is : (old gap body between whole new : List ℕ) (at : ℕ) → length gap ≡ 4 → at ≡ length old
    → between ≡ old ++ gap → whole ≡ between ++ body
    → new ≡ take at whole ++ u32_bytes (length whole - (at + 4)) ++ drop (at + 4) whole
    → new ≡ old ++ (u32_bytes (length body) ++ body)
filled_is old gap body between whole new at four here first second third =
    let is : whole ≡ old ++ gap ++ body = second ∙ ap (λ x. x ++ body) first in
    third ∙ ap (λ x. take at x ++ u32_bytes (length x - (at + 4)) ++ drop (at + 4) x) is
    ∙ filled old gap body at four here
    ∙ append_assoc old (u32_bytes (length body)) body

pub room_for_length : (old gap body between whole : List ℕ) (at : ℕ) → length gap ≡ 4 → at ≡ length old
    → between ≡ old ++ gap → whole ≡ between ++ body → at + 4 ≤ length whole
room_for_length old gap body between whole at four here first second =
    omega (arith, ap length first, ap length second, length-append old gap, length-append between body)
