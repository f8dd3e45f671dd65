-- Which fault bytes with a given header have.
use Rattle.std.proofs.Common.{◌≡◌, ◌≢◌, ◌<◌, ◌≤◌, ◌+◌, ◌^◌, ℕ, Bool, true, false, List, [], ◌∷◌, ◌++◌, length, take}
use Rattle.std.proofs.Common.{drop, sym, ap, ◌∙◌, arith, length-append, append_assoc, refl}
use Rattle.std.specs.Prelude.{◌&&◌, not, nat_eq, nat_lt, nat_le, if◌then◌else◌, Option, Some, None}
use Rattle.std.proofs.lemmas.List.{drop_at}
use Rattle.std.proofs.lemmas.Bool.Decides.{nat_tests}
use Rattle.wire_parts.specs.Fields.{u8_bytes, u16_bytes, u16_at}
use Rattle.wire_parts.specs.FieldLaws.{length-u16_bytes, u16_at-u16_bytes}
use Rattle.modbus_forms.specs.declared.refusal.ModbusRefusal.{ModbusRefusal}
use Rattle.modbus_forms.specs.declared.refusal.ModbusRefusal.TheVariants as fault
use Rattle.modbus_forms.specs.Frame.{header_text, frame_text, frame_fault, protocol_of, size_of, pdu_of, is_size}

-- the fields of a header that stands in front
pub record Headed (bytes : List ℕ) (protocol size : ℕ) (rest : List ℕ) : Type 0 where
  pub long : length bytes ≡ 7 + length rest
  pub protocol_is : protocol_of bytes ≡ protocol
  pub size_is : size_of bytes ≡ size
  pub pdu_is : pdu_of bytes ≡ rest

pub length-header : (t p s u : ℕ) → length (header_text t p s u) ≡ 7
length-header t p s u =
    omega (
      arith,
      length-append (u16_bytes t) (u16_bytes p ++ (u16_bytes s ++ u8_bytes u)),
      length-append (u16_bytes p) (u16_bytes s ++ u8_bytes u),
      length-append (u16_bytes s) (u8_bytes u),
      length-u16_bytes t,
      length-u16_bytes p,
      length-u16_bytes s,
    )

headed_text : (t p s u : ℕ) (rest : List ℕ) → p < 2 ^ 16 → s < 2 ^ 16 → Headed (header_text t p s u ++ rest) p s rest
headed_text t p s u rest fp fs =
    let flat : header_text t p s u ++ rest ≡ u16_bytes t ++ (u16_bytes p ++ (u16_bytes s ++ (u8_bytes u ++ rest))) =
    simp append_assoc in
    let two : drop 2 (header_text t p s u ++ rest) ≡ u16_bytes p ++ (u16_bytes s ++ (u8_bytes u ++ rest)) =
    ap (drop 2) flat ∙ drop_at (u16_bytes t) (u16_bytes p ++ (u16_bytes s ++ (u8_bytes u ++ rest)))
    2 (length-u16_bytes t) in
    let front : header_text t p s u ++ rest ≡ (u16_bytes t ++ u16_bytes p) ++ (u16_bytes s ++ (u8_bytes u ++ rest)) =
    simp append_assoc in
    let four : drop 4 (header_text t p s u ++ rest) ≡ u16_bytes s ++ (u8_bytes u ++ rest) =
    ap (drop 4) front ∙ drop_at (u16_bytes t ++ u16_bytes p) (u16_bytes s ++ (u8_bytes u ++ rest)) 4
    (omega (arith, length-append (u16_bytes t) (u16_bytes p), length-u16_bytes t, length-u16_bytes p)) in
    record {
      long = omega (arith, length-append (header_text t p s u) rest, length-header t p s u);
      protocol_is = ap u16_at two ∙ u16_at-u16_bytes p (u16_bytes s ++ (u8_bytes u ++ rest)) fp;
      size_is = ap u16_at four ∙ u16_at-u16_bytes s (u8_bytes u ++ rest) fs;
      pdu_is = drop_at (header_text t p s u) rest 7 (length-header t p s u);
    }

pub headed : (bytes : List ℕ) (t p s u : ℕ) (rest : List ℕ) → p < 2 ^ 16 → s < 2 ^ 16 →
    bytes ≡ header_text t p s u ++ rest
    → Headed bytes p s rest
headed bytes t p s u rest fp fs is =
    let h = headed_text t p s u rest fp fs in
    record {
      long = ap length is ∙ h.long;
      protocol_is = ap protocol_of is ∙ h.protocol_is;
      size_is = ap size_of is ∙ h.size_is;
      pdu_is = ap pdu_of is ∙ h.pdu_is;
    }

pub too_short : (bytes : List ℕ) → length bytes < 7 → frame_fault bytes ≡ Some fault.Short
unfolding frame_fault
too_short bytes less = let a : nat_lt (length bytes) 7 ≡ true = grind (arith, nat_tests) in rw a refl

pub other_protocol : (bytes rest : List ℕ) (p s : ℕ) → Headed bytes p s rest → p ≢ 0 →
    frame_fault bytes ≡ Some fault.BadProtocol
unfolding frame_fault
other_protocol bytes rest p s h other =
    let a : nat_lt (length bytes) 7 ≡ false = let l = h.long in grind (arith, nat_tests) in
    let b : nat_eq p 0 ≡ false = grind (arith, nat_tests) in
    rw (a, h.protocol_is, b) refl

pub no_size : (bytes rest : List ℕ) (p s : ℕ) → Headed bytes p s rest → p ≡ 0 → is_size s ≡ false →
    frame_fault bytes ≡ Some fault.BadLength
unfolding frame_fault
no_size bytes rest p s h zero_is wrong =
    let a : nat_lt (length bytes) 7 ≡ false = let l = h.long in grind (arith, nat_tests) in
    rw (a, h.protocol_is, zero_is, h.size_is, wrong) refl

pub cut : (bytes rest : List ℕ) (p s : ℕ) → Headed bytes p s rest → p ≡ 0 → is_size s ≡ true → length bytes < 6 + s →
    frame_fault bytes ≡ Some fault.Short
unfolding frame_fault
cut bytes rest p s h zero_is right less =
    let a : nat_lt (length bytes) 7 ≡ false = let l = h.long in grind (arith, nat_tests) in
    let b : nat_lt (length bytes) (6 + s) ≡ true = grind (arith, nat_tests) in
    rw (a, h.protocol_is, zero_is, h.size_is, right, b) refl

pub left_over : (bytes rest : List ℕ) (p s : ℕ) → Headed bytes p s rest → p ≡ 0 → is_size s ≡ true →
    6 + s < length bytes → frame_fault bytes ≡ Some fault.Trailing
unfolding frame_fault
left_over bytes rest p s h zero_is right more =
    let a : nat_lt (length bytes) 7 ≡ false = let l = h.long in grind (arith, nat_tests) in
    let b : nat_lt (length bytes) (6 + s) ≡ false = grind (arith, nat_tests) in
    let c : nat_lt (6 + s) (length bytes) ≡ true = grind (arith, nat_tests) in
    rw (a, h.protocol_is, zero_is, h.size_is, right, b, c) refl

pub whole : (bytes rest : List ℕ) (p s : ℕ) → Headed bytes p s rest → p ≡ 0 → is_size s ≡ true →
    6 + s ≡ length bytes → frame_fault bytes ≡ None
unfolding frame_fault
whole bytes rest p s h zero_is right same =
    let a : nat_lt (length bytes) 7 ≡ false = let l = h.long in grind (arith, nat_tests) in
    let b : nat_lt (length bytes) (6 + s) ≡ false = grind (arith, nat_tests) in
    let c : nat_lt (6 + s) (length bytes) ≡ false = grind (arith, nat_tests) in
    rw (a, h.protocol_is, zero_is, h.size_is, right, b, c) refl

-- the frame of a PDU that fills its length
pub framed_is : (bytes : List ℕ) (t p s u : ℕ) (rest : List ℕ) → bytes ≡ header_text t p s u ++ rest →
    p ≡ 0 → 6 + s ≡ length bytes
    → length bytes ≡ 7 + length rest → bytes ≡ frame_text t u rest
unfolding frame_text
framed_is bytes t p s u rest is zero_is same long =
    let size : s ≡ 1 + length rest = omega arith in
    is ∙ ap (λ m. header_text t m s u ++ rest) zero_is ∙ ap (λ n. header_text t 0 n u ++ rest) size

-- sizes that a message may have
pub has_size : (s : ℕ) → 2 ≤ s → s ≤ 254 → is_size s ≡ true
has_size s low high = let a : nat_le 2 s ≡ true = grind (arith, nat_tests) in let b : nat_le s 254 ≡ true =
    grind (arith, nat_tests) in rw (a, b) refl

pub low_size : (s : ℕ) → s < 2 → is_size s ≡ false
low_size s low = let a : nat_le 2 s ≡ false = grind (arith, nat_tests) in rw a refl

pub high_size : (s : ℕ) → 254 < s → is_size s ≡ false
high_size s high = let a : nat_le 2 s ≡ true = grind (arith, nat_tests) in let b : nat_le s 254 ≡ false =
    grind (arith, nat_tests) in rw (a, b) refl

-- the frame of a message has no fault
pub framed_faultless : (t u : ℕ) (pdu : List ℕ) → 1 ≤ length pdu → length pdu ≤ 253
    → (frame_fault (frame_text t u pdu) ≡ None) × (pdu_of (frame_text t u pdu) ≡ pdu)
unfolding frame_text
framed_faultless t u pdu some few =
    let h = headed_text t 0 (1 + length pdu) u pdu (omega arith) (omega arith) in
    let l = h.long in (
      whole (header_text t 0 (1 + length pdu) u ++ pdu) pdu 0 (1 + length pdu) h refl
          (has_size (1 + length pdu) (omega arith) (omega arith)) (omega arith),
      h.pdu_is,
    )
