-- What the layers above need to know of the fields' bytes: how many there are, that a number is read
-- back from its bytes, and that bytes which begin with two fields begin with one field twice.
use Rattle.std.specs.Prelude.{◌≡◌, ◌<◌, ◌^◌, ℕ, ℤ, List, ◌++◌, length, drop, FitsSigned}
use Rattle.std.specs.Int.{w16, w32, w64, cast_unsigned, cast_signed, from_be_bytes}
use Rattle.std.proofs.Common.{sym, ap, ◌∙◌, arith, w8, Fits, get_or}
use Rattle.std.proofs.lemmas.Nat.{be_bytes_2, be_bytes_4, be_bytes_8}
use Rattle.std.proofs.lemmas.List.{drop_at}
use Rattle.std.proofs.lemmas.Int.{to_z-of_z}
use Rattle.std.proofs.Math.Facts.{Fits-of_z}
use Rattle.byteorder.specs.Endian.{big_number}
use Rattle.byteorder.specs.Numbers.{length-bytes_high_first, big_number-reads_back}
use Rattle.wire_parts.specs.Fields.{u16_bytes, u32_bytes, u64_bytes, i64_bytes, u16_at}

pub length-u16_bytes : (x : ℕ) → length (u16_bytes x) ≡ 2
unfolding u16_bytes
length-u16_bytes x = length-bytes_high_first 2 x

pub length-u32_bytes : (x : ℕ) → length (u32_bytes x) ≡ 4
unfolding u32_bytes
length-u32_bytes x = length-bytes_high_first 4 x

pub length-u64_bytes : (x : ℕ) → length (u64_bytes x) ≡ 8
unfolding u64_bytes
length-u64_bytes x = length-bytes_high_first 8 x

-- a number is read back from its bytes, whatever follows them
pub u16_at-u16_bytes : (x : ℕ) (rest : List ℕ) → x < 2 ^ 16 → u16_at (u16_bytes x ++ rest) ≡ x
unfolding u16_bytes u16_at
u16_at-u16_bytes x rest h = big_number-reads_back 2 x rest h

-- what stands behind a field whose length is known
same_rest : (n : ℕ) (a b xs ys : List ℕ) → length a ≡ n → length b ≡ n → a ++ xs ≡ b ++ ys → xs ≡ ys
same_rest n a b xs ys la lb e = sym (drop_at a xs n la) ∙ ap (drop n) e ∙ drop_at b ys n lb

-- bytes that begin with two fields begin with one field twice
pub u16_bytes-inj : (x y : ℕ) (xs ys : List ℕ) → x < 2 ^ 16 → y < 2 ^ 16
    → u16_bytes x ++ xs ≡ u16_bytes y ++ ys → (x ≡ y) × (xs ≡ ys)
unfolding u16_bytes
u16_bytes-inj x y xs ys hx hy e = (
  sym (big_number-reads_back 2 x xs hx) ∙ ap (big_number 2) e ∙ big_number-reads_back 2 y ys hy,
  same_rest 2 (u16_bytes x) (u16_bytes y) xs ys (length-u16_bytes x) (length-u16_bytes y) e,
)

pub u32_bytes-inj : (x y : ℕ) (xs ys : List ℕ) → x < 2 ^ 32 → y < 2 ^ 32
    → u32_bytes x ++ xs ≡ u32_bytes y ++ ys → (x ≡ y) × (xs ≡ ys)
unfolding u32_bytes
u32_bytes-inj x y xs ys hx hy e = (
  sym (big_number-reads_back 4 x xs hx) ∙ ap (big_number 4) e ∙ big_number-reads_back 4 y ys hy,
  same_rest 4 (u32_bytes x) (u32_bytes y) xs ys (length-u32_bytes x) (length-u32_bytes y) e,
)

pub u64_bytes-inj : (x y : ℕ) (xs ys : List ℕ) → x < 2 ^ 64 → y < 2 ^ 64
    → u64_bytes x ++ xs ≡ u64_bytes y ++ ys → (x ≡ y) × (xs ≡ ys)
unfolding u64_bytes
u64_bytes-inj x y xs ys hx hy e = (
  sym (big_number-reads_back 8 x xs hx) ∙ ap (big_number 8) e ∙ big_number-reads_back 8 y ys hy,
  same_rest 8 (u64_bytes x) (u64_bytes y) xs ys (length-u64_bytes x) (length-u64_bytes y) e,
)

-- the bits of a signed number fit its field
bits_fit : (z : ℤ) → FitsSigned w64 z → cast_unsigned w64 z < 2 ^ 64
bits_fit z h = let fit = Fits-of_z h in omega (arith, fit)

pub i64_bytes-inj : (x y : ℤ) (xs ys : List ℕ) → FitsSigned w64 x → FitsSigned w64 y
    → i64_bytes x ++ xs ≡ i64_bytes y ++ ys → (x ≡ y) × (xs ≡ ys)
i64_bytes-inj x y xs ys hx hy e =
    let same = u64_bytes-inj (cast_unsigned w64 x) (cast_unsigned w64 y) xs ys (bits_fit x hx) (bits_fit y hy) e in
    (sym (to_z-of_z w64 x hx) ∙ ap (cast_signed w64) same.0 ∙ to_z-of_z w64 y hy, same.1)

-- the bytes of the number that stands in bytes are those bytes
pub u16_bytes-big_number : (bytes : List ℕ) → length bytes ≡ 2 → ((i : ℕ) → Fits w8 (get_or bytes i 0))
    → u16_bytes (big_number 2 bytes) ≡ bytes
unfolding u16_bytes
u16_bytes-big_number bytes len fit =
    let e : big_number 2 bytes ≡ from_be_bytes w16 bytes = omega arith in
    be_bytes_2 bytes (big_number 2 bytes) len (λ i. let b : get_or bytes i 0 < 256 = omega (arith, fit i) in b) e

pub u32_bytes-big_number : (bytes : List ℕ) → length bytes ≡ 4 → ((i : ℕ) → Fits w8 (get_or bytes i 0))
    → u32_bytes (big_number 4 bytes) ≡ bytes
unfolding u32_bytes
u32_bytes-big_number bytes len fit =
    let e : big_number 4 bytes ≡ from_be_bytes w32 bytes = omega arith in
    be_bytes_4 bytes (big_number 4 bytes) len (λ i. let b : get_or bytes i 0 < 256 = omega (arith, fit i) in b) e

pub u64_bytes-big_number : (bytes : List ℕ) → length bytes ≡ 8 → ((i : ℕ) → Fits w8 (get_or bytes i 0))
    → u64_bytes (big_number 8 bytes) ≡ bytes
unfolding u64_bytes
u64_bytes-big_number bytes len fit =
    let e : big_number 8 bytes ≡ from_be_bytes w64 bytes = omega arith in
    be_bytes_8 bytes (big_number 8 bytes) len (λ i. let b : get_or bytes i 0 < 256 = omega (arith, fit i) in b) e
