-- A reply is read back from its text, and the text has no fault.
use Rattle.std.proofs.Common.{◌≡◌, ◌≢◌, ◌<◌, ◌≤◌, ◌+◌, ◌^◌, ℕ, Bool, true, false, List, [], ◌∷◌, ◌++◌, length, take}
use Rattle.std.proofs.Common.{drop, sym, ap, ◌∙◌, arith, refl, ◌⊎◌, inl, inr, eq-eqb}
use Rattle.std.specs.Prelude.{◌&&◌, ◌||◌, not, nat_eq, nat_le, if◌then◌else◌, slice_index}
use Rattle.std.proofs.lemmas.Bool.{and_parts, ne_eqb, leb-true, lt-leb, le-leb}
use Rattle.wire_parts.specs.Fields.{u16_at}
use Rattle.modbus_forms.specs.declared.reply.ReplyPdu.{ReplyPdu}
use Rattle.modbus_forms.specs.declared.reply.ReplyPdu.TheVariants as reply
use Rattle.modbus_forms.specs.Requests.{pair_text, writes_many}
use Rattle.modbus_forms.specs.Replies.{reply_pdu_text, reply_pdu_fits, is_reply_sized}
use Rattle.modbus_forms.specs.Widths.{FitsReplyPdu}
use Rattle.modbus_forms.proofs.RequestLaws.{either, first_of_pair, second_of_pair, length-pair, pair_sized}

-- the reply in a PDU: what its text is read back by
reply_in : ℕ → List ℕ → ReplyPdu
reply_in f rest =
    if nat_eq f 1 || nat_eq f 2 then reply.Bits f (drop 1 rest)
    else if nat_eq f 3 || nat_eq f 4 then reply.Registers f (drop 1 rest)
    else if nat_eq f 5 || nat_eq f 6 then reply.Wrote f (u16_at rest) (u16_at (drop 2 rest))
    else if writes_many f then reply.WroteMany f (u16_at rest) (u16_at (drop 2 rest))
    else reply.Exception f (slice_index rest 0)

reply_of : List ℕ → ReplyPdu
reply_of [] = reply.Exception 0 0
reply_of (f ∷ rest) = reply_in f rest

-- a test of two numbers that another two don't pass
pub neither : (a b c d f : ℕ) → (nat_eq f a || nat_eq f b) ≡ true → (nat_eq a c || nat_eq a d) ≡ false →
    (nat_eq b c || nat_eq b d) ≡ false
    → (nat_eq f c || nat_eq f d) ≡ false
neither a b c d f is na nb =
    elim (either a b f is) [
      | inl e ↦ ap (λ n. nat_eq n c || nat_eq n d) e ∙ na
      | inr e ↦ ap (λ n. nat_eq n c || nat_eq n d) e ∙ nb
    ]

-- an exception's function is none below
above : (f k : ℕ) → nat_le 128 f ≡ true → k < 128 → nat_eq f k ≡ false
above f k high low = let h = leb-true 128 f high in ne_eqb f k (λ e. omega (arith, h))

record IsHigh (f : ℕ) : Type 0 where
  pub bits : (nat_eq f 1 || nat_eq f 2) ≡ false
  pub registers : (nat_eq f 3 || nat_eq f 4) ≡ false
  pub one : (nat_eq f 5 || nat_eq f 6) ≡ false
  pub many : writes_many f ≡ false

is_high : (f : ℕ) → nat_le 128 f ≡ true → IsHigh f
is_high f high = record {
  bits = rw (above f 1 high (omega arith), above f 2 high (omega arith)) refl;
  registers = rw (above f 3 high (omega arith), above f 4 high (omega arith)) refl;
  one = rw (above f 5 high (omega arith), above f 6 high (omega arith)) refl;
  many = rw (above f 15 high (omega arith), above f 16 high (omega arith)) refl;
}

bits_back : (f : ℕ) (bytes : List ℕ) → (nat_eq f 1 || nat_eq f 2) ≡ true →
    reply_in f (length bytes ∷ bytes) ≡ reply.Bits f bytes
unfolding reply_in
bits_back f bytes is = rw is refl

registers_back : (f : ℕ) (bytes : List ℕ) → (nat_eq f 3 || nat_eq f 4) ≡ true →
    reply_in f (length bytes ∷ bytes) ≡ reply.Registers f bytes
unfolding reply_in
registers_back f bytes is = rw (neither 3 4 1 2 f is refl refl, is) refl

wrote_back : (f p v : ℕ) → p < 2 ^ 16 → v < 2 ^ 16 → (nat_eq f 5 || nat_eq f 6) ≡ true →
    reply_in f (pair_text p v) ≡ reply.Wrote f p v
unfolding reply_in
wrote_back f p v fp fv is =
    rw (
      neither 5 6 1 2 f is refl refl,
      neither 5 6 3 4 f is refl refl,
      is,
      first_of_pair p v fp,
      second_of_pair p v fv,
    ) refl

wrote_many_back : (f p q : ℕ) → p < 2 ^ 16 → q < 2 ^ 16 → writes_many f ≡ true →
    reply_in f (pair_text p q) ≡ reply.WroteMany f p q
unfolding reply_in
wrote_many_back f p q fp fq is =
    rw (
      neither 15 16 1 2 f is refl refl,
      neither 15 16 3 4 f is refl refl,
      neither 15 16 5 6 f is refl refl,
      is,
      first_of_pair p q fp,
      second_of_pair p q fq,
    ) refl

exception_back : (f code : ℕ) → nat_le 128 f ≡ true → reply_in f (code ∷ []) ≡ reply.Exception f code
unfolding reply_in
exception_back f code high = let h = is_high f high in rw (h.bits, h.registers, h.one, h.many) refl

reply_back : (r : ReplyPdu) → reply_pdu_fits r ≡ true → FitsReplyPdu r → reply_of (reply_pdu_text r) ≡ r
unfolding reply_of
reply_back (reply.Bits f bytes) fits wide =
    bits_back f bytes (and_parts (nat_eq f 1 || nat_eq f 2) (nat_le (length bytes) 251) fits).0
reply_back (reply.Registers f bytes) fits wide =
    registers_back f bytes (and_parts (nat_eq f 3 || nat_eq f 4) (nat_le (length bytes) 251) fits).0
reply_back (reply.Wrote f p v) fits wide = wrote_back f p v wide.0 wide.1 fits
reply_back (reply.WroteMany f p q) fits wide = wrote_many_back f p q wide.0 wide.1 fits
reply_back (reply.Exception f code) fits wide = exception_back f code fits

-- a reply that fits has the size of its function's

abbrev reads : ℕ → Bool
reads f = nat_le 1 f && nat_le f 4

not_read : (a b f : ℕ) → (nat_eq f a || nat_eq f b) ≡ true → reads a ≡ false → reads b ≡ false → reads f ≡ false
not_read a b f is na nb = elim (either a b f is) [ inl e ↦ ap reads e ∙ na | inr e ↦ ap reads e ∙ nb ]

is_read : (a b f : ℕ) → (nat_eq f a || nat_eq f b) ≡ true → reads a ≡ true → reads b ≡ true → reads f ≡ true
is_read a b f is na nb = elim (either a b f is) [ inl e ↦ ap reads e ∙ na | inr e ↦ ap reads e ∙ nb ]

counted_sized : (bytes : List ℕ) →
    nat_eq (length (length bytes ∷ bytes)) (1 + slice_index (length bytes ∷ bytes) 0) ≡ true
counted_sized bytes = eq-eqb (length (length bytes ∷ bytes)) (1 + length bytes) (omega arith)

pub reply_sized : (r : ReplyPdu) → reply_pdu_fits r ≡ true → is_reply_sized (reply_pdu_text r) ≡ true
reply_sized (reply.Bits f bytes) fits =
    rw (is_read 1 2 f (and_parts (nat_eq f 1 || nat_eq f 2) (nat_le (length bytes) 251) fits).0 refl refl)
    (counted_sized bytes)
reply_sized (reply.Registers f bytes) fits =
    rw (is_read 3 4 f (and_parts (nat_eq f 3 || nat_eq f 4) (nat_le (length bytes) 251) fits).0 refl refl)
    (counted_sized bytes)
reply_sized (reply.Wrote f p v) fits = rw (not_read 5 6 f fits refl refl, fits) (pair_sized p v)
reply_sized (reply.WroteMany f p q) fits =
    rw (not_read 15 16 f fits refl refl, neither 15 16 5 6 f fits refl refl, fits) (pair_sized p q)
reply_sized (reply.Exception f code) fits =
    let h = is_high f fits in
    let high = leb-true 128 f fits in
    let far : nat_le f 4 ≡ false = lt-leb f 4 (omega (arith, high)) in
    let near : nat_le 1 f ≡ true = le-leb 1 f (omega (arith, high)) in
    rw (near, far, h.one, h.many, fits) refl

pub reply_some : (r : ReplyPdu) → 1 ≤ length (reply_pdu_text r)
reply_some (reply.Bits f bytes) = omega arith
reply_some (reply.Registers f bytes) = omega arith
reply_some (reply.Wrote f p v) = omega arith
reply_some (reply.WroteMany f p q) = omega arith
reply_some (reply.Exception f code) = omega arith

pub reply_few : (r : ReplyPdu) → reply_pdu_fits r ≡ true → length (reply_pdu_text r) ≤ 253
reply_few (reply.Bits f bytes) fits =
    omega (arith, leb-true (length bytes) 251 (and_parts (nat_eq f 1 || nat_eq f 2) (nat_le (length bytes) 251) fits).1)
reply_few (reply.Registers f bytes) fits =
    omega (arith, leb-true (length bytes) 251 (and_parts (nat_eq f 3 || nat_eq f 4) (nat_le (length bytes) 251) fits).1)
reply_few (reply.Wrote f p v) fits = omega (arith, length-pair p v)
reply_few (reply.WroteMany f p q) fits = omega (arith, length-pair p q)
reply_few (reply.Exception f code) fits = omega arith

-- two replies of one text are one
pub reply_inj : (r s : ReplyPdu) → reply_pdu_fits r ≡ true → reply_pdu_fits s ≡ true → FitsReplyPdu r → FitsReplyPdu s
    → reply_pdu_text r ≡ reply_pdu_text s → r ≡ s
reply_inj r s fr fs wr ws same = sym (reply_back r fr wr) ∙ ap reply_of same ∙ reply_back s fs ws
