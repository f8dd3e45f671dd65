-- A field that the reader of fields takes, or finds too short, is what the grammar says.
use Rattle.std.proofs.Common.{◌≡◌, ◌<◌, ◌+◌, ◌^◌, ℕ, true, false, List, ◌++◌, length, take, drop, refl, sym, ap, ◌∙◌}
use Rattle.std.proofs.Common.{arith, length-append}
use Rattle.std.specs.Prelude.{nat_lt, Ok, Err}
use Rattle.std.proofs.lemmas.Bool.{le-ltb}
use Rattle.std.proofs.lemmas.List.{take_at, drop_at}
use Rattle.byteorder.specs.Endian.{big_number}
use Rattle.byteorder.specs.Numbers.{big_number-reads_back}
use Rattle.wire_parts.specs.View.{View, Takes}
use Rattle.wire_parts.specs.Fields.{u8_bytes, u16_bytes, u32_bytes, u64_bytes}
use Rattle.wire_parts.specs.FieldLaws.{length-u16_bytes, length-u32_bytes, length-u64_bytes}
use Rattle.message_forms.specs.declared.refusal.FormRefusal.TheVariants as fault
use Rattle.message_forms.specs.Grammar.{field_at, at, end_at, number_at, bytes_at}

-- what a field of this value gives at a part that stands at `base`
pub field_ok : {X : Type 0} (value : List ℕ → X) (size base : ℕ) (v w : View) (x : X) (piece : List ℕ)
    → Takes v w piece → length piece ≡ size → value (piece ++ w.rest) ≡ x
    → field_at value size (at (base + v.place) v.rest) ≡ Ok (x, at (base + w.place) w.rest)
unfolding field_at
field_ok value size base v w x piece takes len is =
    let enough : nat_lt (length v.rest) size ≡ false =
    le-ltb (length v.rest) size (omega (arith, ap length takes.bytes, length-append piece w.rest)) in
    let rest : drop size v.rest ≡ w.rest = ap (drop size) takes.bytes ∙ drop_at piece w.rest size len in
    let value_is : value v.rest ≡ x = ap value takes.bytes ∙ is in
    let place : base + v.place + size ≡ base + w.place = omega (arith, takes.place) in
    rw (enough, rest, value_is, place) refl

pub field_short : {X : Type 0} (value : List ℕ → X) (size place : ℕ) (rest : List ℕ) → length rest < size
    → field_at value size (at place rest) ≡ Err (fault.Short place)
unfolding field_at
field_short value size place rest less = let short : nat_lt (length rest) size ≡ true = grind arith in rw short refl

-- a reader whose part stands at `base` finds the field short
pub short_read : {X : Type 0} (value : List ℕ → X) (size place base : ℕ) (v part : View) →
    at (base + part.place) part.rest ≡ v
    → place ≡ v.place → length part.rest < size → field_at value size v ≡ Err (fault.Short place)
short_read value size place base v part is here less =
    let there : place ≡ base + part.place = here ∙ ap (λ w. w.place) (sym is) in
    rw (← is, there) (field_short value size (base + part.place) part.rest less)

pub u8_read : (base : ℕ) (v w : View) (x : ℕ) → Takes v w (u8_bytes x)
    → number_at 1 (at (base + v.place) v.rest) ≡ Ok (x, at (base + w.place) w.rest)
u8_read base v w x takes = field_ok (big_number 1) 1 base v w x (u8_bytes x) takes refl (omega arith)

pub u16_read : (base : ℕ) (v w : View) (x : ℕ) → x < 2 ^ 16 → Takes v w (u16_bytes x)
    → number_at 2 (at (base + v.place) v.rest) ≡ Ok (x, at (base + w.place) w.rest)
unfolding u16_bytes
u16_read base v w x fits takes =
    field_ok (big_number 2) 2 base v w x (u16_bytes x) takes (length-u16_bytes x)
    (big_number-reads_back 2 x w.rest fits)

pub u32_read : (base : ℕ) (v w : View) (x : ℕ) → x < 2 ^ 32 → Takes v w (u32_bytes x)
    → number_at 4 (at (base + v.place) v.rest) ≡ Ok (x, at (base + w.place) w.rest)
unfolding u32_bytes
u32_read base v w x fits takes =
    field_ok (big_number 4) 4 base v w x (u32_bytes x) takes (length-u32_bytes x)
    (big_number-reads_back 4 x w.rest fits)

pub u64_read : (base : ℕ) (v w : View) (x : ℕ) → x < 2 ^ 64 → Takes v w (u64_bytes x)
    → number_at 8 (at (base + v.place) v.rest) ≡ Ok (x, at (base + w.place) w.rest)
unfolding u64_bytes
u64_read base v w x fits takes =
    field_ok (big_number 8) 8 base v w x (u64_bytes x) takes (length-u64_bytes x)
    (big_number-reads_back 8 x w.rest fits)

pub bytes_read : (base : ℕ) (v w : View) (piece : List ℕ) (count : ℕ) → length piece ≡ count → Takes v w piece
    → bytes_at count (at (base + v.place) v.rest) ≡ Ok (piece, at (base + w.place) w.rest)
bytes_read base v w piece count len takes =
    field_ok (take count) count base v w piece piece takes len (take_at piece w.rest count len)

pub end_ok : (place : ℕ) (rest : List ℕ) → (0 < length rest → ⊥) → end_at (at place rest) ≡ Ok (tt, at place rest)
unfolding end_at
end_ok place rest none = let empty : nat_lt 0 (length rest) ≡ false = le-ltb 0 (length rest) (grind (arith, none)) in
    rw empty refl

pub end_left : (place : ℕ) (rest : List ℕ) → 0 < length rest → end_at (at place rest) ≡ Err (fault.Trailing place)
unfolding end_at
end_left place rest left = let more : nat_lt 0 (length rest) ≡ true = grind arith in rw more refl

pub end_is_ok : (base : ℕ) (v part : View) → at (base + part.place) part.rest ≡ v → (0 < length part.rest → ⊥)
    → end_at v ≡ Ok (tt, v)
end_is_ok base v part is none = rw (← is) (end_ok (base + part.place) part.rest none)

pub end_is_left : (place base : ℕ) (v part : View) → at (base + part.place) part.rest ≡ v → place ≡ v.place
    → 0 < length part.rest → end_at v ≡ Err (fault.Trailing place)
end_is_left place base v part is here left =
    let there : place ≡ base + part.place = here ∙ ap (λ w. w.place) (sym is) in
    rw (← is, there) (end_left (base + part.place) part.rest left)
