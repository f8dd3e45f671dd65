-- A request is read back from its text, and the text has no fault.
use Rattle.std.proofs.Common.{◌≡◌, ◌≢◌, ◌<◌, ◌≤◌, ◌+◌, ◌^◌, ℕ, Bool, true, false, List, [], ◌∷◌, ◌++◌, length, take}
use Rattle.std.proofs.Common.{drop, sym, ap, ◌∙◌, arith, length-append, append_assoc, refl, ◌⊎◌, inl, inr, eq-eqb}
use Rattle.std.specs.Prelude.{◌&&◌, ◌||◌, not, nat_eq, nat_le, if◌then◌else◌, slice_index}
use Rattle.std.proofs.lemmas.List.{drop_at, append-nil}
use Rattle.std.proofs.lemmas.Bool.{and_parts, or_cases, eqb-true, ne_eqb, true≢false, not-true, leb-true}
use Rattle.std.proofs.Math.Seq.{get_or-append_seam}
use Rattle.std.proofs.lemmas.Bool.Decides.{nat_tests}
use Rattle.wire_parts.specs.Fields.{u16_bytes, u16_at}
use Rattle.wire_parts.specs.FieldLaws.{length-u16_bytes, u16_at-u16_bytes}
use Rattle.modbus_forms.specs.declared.request.RequestPdu.{RequestPdu}
use Rattle.modbus_forms.specs.declared.request.RequestPdu.TheVariants as request
use Rattle.modbus_forms.specs.Requests.{pair_text, many_text, request_pdu_text, request_pdu_fits, reads_or_writes_one}
use Rattle.modbus_forms.specs.Requests.{writes_many, is_request_sized}
use Rattle.modbus_forms.specs.Widths.{FitsRequestPdu}

-- the fields of a pair, and those in front of bytes

pub first_of_pair : (x y : ℕ) → x < 2 ^ 16 → u16_at (pair_text x y) ≡ x
first_of_pair x y fits = u16_at-u16_bytes x (u16_bytes y) fits

pub second_of_pair : (x y : ℕ) → y < 2 ^ 16 → u16_at (drop 2 (pair_text x y)) ≡ y
second_of_pair x y fits =
    ap u16_at (drop_at (u16_bytes x) (u16_bytes y) 2 (length-u16_bytes x) ∙ sym (append-nil (u16_bytes y)))
    ∙ u16_at-u16_bytes y [] fits

pub length-pair : (x y : ℕ) → length (pair_text x y) ≡ 4
length-pair x y = omega (arith, length-append (u16_bytes x) (u16_bytes y), length-u16_bytes x, length-u16_bytes y)

first_of_many : (p q : ℕ) (bytes : List ℕ) → p < 2 ^ 16 → u16_at (many_text p q bytes) ≡ p
first_of_many p q bytes fits = u16_at-u16_bytes p (u16_bytes q ++ (length bytes ∷ bytes)) fits

behind_first : (p q : ℕ) (bytes : List ℕ) → drop 2 (many_text p q bytes) ≡ u16_bytes q ++ (length bytes ∷ bytes)
behind_first p q bytes = drop_at (u16_bytes p) (u16_bytes q ++ (length bytes ∷ bytes)) 2 (length-u16_bytes p)

second_of_many : (p q : ℕ) (bytes : List ℕ) → q < 2 ^ 16 → u16_at (drop 2 (many_text p q bytes)) ≡ q
second_of_many p q bytes fits = ap u16_at (behind_first p q bytes) ∙ u16_at-u16_bytes q (length bytes ∷ bytes) fits

-- the request in a PDU: what its text is read back by
request_in : ℕ → List ℕ → RequestPdu
request_in f rest =
    if nat_eq f 1 || nat_eq f 2 then request.ReadBits f (u16_at rest) (u16_at (drop 2 rest))
    else if nat_eq f 3 || nat_eq f 4 then request.ReadRegisters f (u16_at rest) (u16_at (drop 2 rest))
    else if nat_eq f 5 then request.WriteCoil (u16_at rest) (u16_at (drop 2 rest))
    else if nat_eq f 6 then request.WriteRegister (u16_at rest) (u16_at (drop 2 rest))
    else if nat_eq f 15 then request.WriteCoils (u16_at rest) (u16_at (drop 2 rest)) (drop 3 (drop 2 rest))
    else if nat_eq f 16 then request.WriteRegisters (u16_at rest) (u16_at (drop 2 rest)) (drop 3 (drop 2 rest))
    else request.Other f rest

request_of : List ℕ → RequestPdu
request_of [] = request.Other 0 []
request_of (f ∷ rest) = request_in f rest

bytes_of_many : (p q : ℕ) (bytes : List ℕ) → drop 3 (drop 2 (many_text p q bytes)) ≡ bytes
bytes_of_many p q bytes =
    ap (drop 3) (behind_first p q bytes ∙ append-cons (u16_bytes q) (length bytes) bytes)
    ∙ drop_at (u16_bytes q ++ length bytes ∷ []) bytes 3
    (omega (arith, length-append (u16_bytes q) (length bytes ∷ []), length-u16_bytes q)) where
      append-cons : (xs : List ℕ) (y : ℕ) (ys : List ℕ) → xs ++ (y ∷ ys) ≡ (xs ++ y ∷ []) ++ ys
      append-cons xs y ys = sym (append_assoc xs (y ∷ []) ys)

-- which function it is
pub either : (a b f : ℕ) → (nat_eq f a || nat_eq f b) ≡ true → (f ≡ a) ⊎ (f ≡ b)
either a b f h = elim (or_cases (nat_eq f a) (nat_eq f b) h)
    [ inl e ↦ inl (eqb-true f a e) | inr e ↦ inr (eqb-true f b e) ]

low_other : (f k : ℕ) → (nat_le 1 f && nat_le f 6) ≡ false → (nat_le 1 k && nat_le k 6) ≡ true → nat_eq f k ≡ false
low_other f k isnt is_one =
    ne_eqb f k (λ e. true≢false (sym is_one ∙ ap (λ n. nat_le 1 n && nat_le n 6) (sym e) ∙ isnt))

high_other : (f k : ℕ) → writes_many f ≡ false → writes_many k ≡ true → nat_eq f k ≡ false
high_other f k isnt is_one = ne_eqb f k (λ e. true≢false (sym is_one ∙ ap writes_many (sym e) ∙ isnt))

pub record IsOther (f : ℕ) : Type 0 where
  pub low : reads_or_writes_one f ≡ false
  pub high : writes_many f ≡ false

pub is_other : (f : ℕ) → not (reads_or_writes_one f || writes_many f) ≡ true → IsOther f
is_other f h =
    let none = not-true (reads_or_writes_one f || writes_many f) h in
    let parts = or_false (reads_or_writes_one f) (writes_many f) none in
    record { low = parts.0; high = parts.1 } where
      or_false : (a b : Bool) → (a || b) ≡ false → (a ≡ false) × (b ≡ false)
      or_false true b e = absurd (true≢false e)
      or_false false b e = (refl, e)

read_bits_back : (f p q : ℕ) → p < 2 ^ 16 → q < 2 ^ 16 → (nat_eq f 1 || nat_eq f 2) ≡ true
    → request_in f (pair_text p q) ≡ request.ReadBits f p q
unfolding request_in
read_bits_back f p q fp fq is = rw (is, first_of_pair p q fp, second_of_pair p q fq) refl

read_registers_back : (f p q : ℕ) → p < 2 ^ 16 → q < 2 ^ 16 → (nat_eq f 3 || nat_eq f 4) ≡ true
    → request_in f (pair_text p q) ≡ request.ReadRegisters f p q
unfolding request_in
read_registers_back f p q fp fq is =
    let not_bits : (nat_eq f 1 || nat_eq f 2) ≡ false =
    elim (either 3 4 f is) [
      | inl e ↦ ap (λ n. nat_eq n 1 || nat_eq n 2) e
      | inr e ↦ ap (λ n. nat_eq n 1 || nat_eq n 2) e
    ] in
    rw (not_bits, is, first_of_pair p q fp, second_of_pair p q fq) refl

other_back : (f : ℕ) (bytes : List ℕ) → IsOther f → request_in f bytes ≡ request.Other f bytes
unfolding request_in
other_back f bytes it =
    rw (
      low_other f 1 it.low refl,
      low_other f 2 it.low refl,
      low_other f 3 it.low refl,
      low_other f 4 it.low refl,
      low_other f 5 it.low refl,
      low_other f 6 it.low refl,
      high_other f 15 it.high refl,
      high_other f 16 it.high refl,
    ) refl

request_back : (r : RequestPdu) → request_pdu_fits r ≡ true → FitsRequestPdu r → request_of (request_pdu_text r) ≡ r
unfolding request_of request_in
request_back (request.ReadBits f p q) fits wide = read_bits_back f p q wide.0 wide.1 fits
request_back (request.ReadRegisters f p q) fits wide = read_registers_back f p q wide.0 wide.1 fits
request_back (request.WriteCoil p v) fits wide = rw (first_of_pair p v wide.0, second_of_pair p v wide.1) refl
request_back (request.WriteRegister p v) fits wide = rw (first_of_pair p v wide.0, second_of_pair p v wide.1) refl
request_back (request.WriteCoils p q bytes) fits wide =
    rw (first_of_many p q bytes wide.0, second_of_many p q bytes wide.1, bytes_of_many p q bytes) refl
request_back (request.WriteRegisters p q bytes) fits wide =
    rw (first_of_many p q bytes wide.0, second_of_many p q bytes wide.1, bytes_of_many p q bytes) refl
request_back (request.Other f bytes) fits wide =
    other_back f bytes (is_other f
    (and_parts (not (reads_or_writes_one f || writes_many f)) (nat_le (length bytes) 252) fits).0)

-- a request that fits has the size of its function's

pub length-many : (p q : ℕ) (bytes : List ℕ) → length (many_text p q bytes) ≡ 5 + length bytes
length-many p q bytes =
    omega (
      arith,
      length-append (u16_bytes p) (u16_bytes q ++ (length bytes ∷ bytes)),
      length-append (u16_bytes q) (length bytes ∷ bytes),
      length-u16_bytes p,
      length-u16_bytes q,
    )

count_of_many : (p q : ℕ) (bytes : List ℕ) → slice_index (many_text p q bytes) 4 ≡ length bytes
count_of_many p q bytes =
    ap (λ r. slice_index r 4) (sym (append_assoc (u16_bytes p) (u16_bytes q) (length bytes ∷ bytes)))
    ∙ ap (λ n. slice_index ((u16_bytes p ++ u16_bytes q) ++ (length bytes ∷ bytes)) n) (sym (length-pair p q))
    ∙ get_or-append_seam (u16_bytes p ++ u16_bytes q) (length bytes) bytes 0

many_sized : (p q : ℕ) (bytes : List ℕ) →
    nat_eq (length (many_text p q bytes)) (5 + slice_index (many_text p q bytes) 4) ≡ true
many_sized p q bytes = rw (length-many p q bytes, count_of_many p q bytes)
    (eq-eqb (5 + length bytes) (5 + length bytes) refl)

pub pair_sized : (p q : ℕ) → nat_eq (length (pair_text p q)) 4 ≡ true
pair_sized p q = rw (length-pair p q) refl

pub request_sized : (r : RequestPdu) → request_pdu_fits r ≡ true → is_request_sized (request_pdu_text r) ≡ true
request_sized (request.ReadBits f p q) fits =
    let one : reads_or_writes_one f ≡ true =
    elim (either 1 2 f fits) [ inl e ↦ ap reads_or_writes_one e | inr e ↦ ap reads_or_writes_one e ] in
    rw (one, pair_sized p q) refl
request_sized (request.ReadRegisters f p q) fits =
    let one : reads_or_writes_one f ≡ true =
    elim (either 3 4 f fits) [ inl e ↦ ap reads_or_writes_one e | inr e ↦ ap reads_or_writes_one e ] in
    rw (one, pair_sized p q) refl
request_sized (request.WriteCoil p v) fits = pair_sized p v
request_sized (request.WriteRegister p v) fits = pair_sized p v
request_sized (request.WriteCoils p q bytes) fits = many_sized p q bytes
request_sized (request.WriteRegisters p q bytes) fits = many_sized p q bytes
request_sized (request.Other f bytes) fits =
    let it = is_other f (and_parts (not (reads_or_writes_one f || writes_many f)) (nat_le (length bytes) 252) fits).0 in
    rw (it.low, it.high) refl

pub request_some : (r : RequestPdu) → 1 ≤ length (request_pdu_text r)
request_some (request.ReadBits f p q) = omega arith
request_some (request.ReadRegisters f p q) = omega arith
request_some (request.WriteCoil p v) = omega arith
request_some (request.WriteRegister p v) = omega arith
request_some (request.WriteCoils p q bytes) = omega arith
request_some (request.WriteRegisters p q bytes) = omega arith
request_some (request.Other f bytes) = omega arith

pub request_few : (r : RequestPdu) → request_pdu_fits r ≡ true → length (request_pdu_text r) ≤ 253
request_few (request.ReadBits f p q) fits = omega (arith, length-pair p q)
request_few (request.ReadRegisters f p q) fits = omega (arith, length-pair p q)
request_few (request.WriteCoil p v) fits = omega (arith, length-pair p v)
request_few (request.WriteRegister p v) fits = omega (arith, length-pair p v)
request_few (request.WriteCoils p q bytes) fits = omega (arith, length-many p q bytes, leb-true (length bytes) 247 fits)
request_few (request.WriteRegisters p q bytes) fits =
    omega (arith, length-many p q bytes, leb-true (length bytes) 247 fits)
request_few (request.Other f bytes) fits =
    omega (
      arith,
      leb-true (length bytes) 252
          (and_parts (not (reads_or_writes_one f || writes_many f)) (nat_le (length bytes) 252) fits).1,
    )

-- two requests of one text are one
pub request_inj : (r s : RequestPdu) → request_pdu_fits r ≡ true → request_pdu_fits s ≡ true →
    FitsRequestPdu r → FitsRequestPdu s
    → request_pdu_text r ≡ request_pdu_text s → r ≡ s
request_inj r s fr fs wr ws same = sym (request_back r fr wr) ∙ ap request_of same ∙ request_back s fs ws
