-- What the table says once it is known whether a request meets an exception.
use Rattle.std.proofs.Common.{◌≡◌, ◌<◌, ◌≤◌, ◌+◌, ◌*◌, ℕ, Bool, true, false, List, length, take, drop, refl, sym, ap}
use Rattle.std.proofs.Common.{◌∙◌, arith}
use Rattle.std.specs.Prelude.{Option, Some, None, slice_set, nat_eq, nat_le, nat_lt}
use Rattle.std.proofs.lemmas.Bool.{and_parts, leb-true, ltb-true, eqb-true}
use Rattle.modbus_forms.specs.declared.request.RequestPdu.{RequestPdu}
use Rattle.modbus_forms.specs.declared.request.RequestPdu.TheVariants as request
use Rattle.modbus_forms.specs.declared.reply.ReplyPdu.{ReplyPdu}
use Rattle.modbus_forms.specs.declared.reply.ReplyPdu.TheVariants as reply
use Rattle.field_device.specs.Places.{Places}
use Rattle.field_device.specs.Packing.{packed, bits_in, register_bytes, registers_in, byte_count, overwritten}
use Rattle.field_device.specs.Table.{exception_for, refused, is_between, is_coil_value, coil_on, bits_of}
use Rattle.field_device.specs.Table.{registers_of, exception, function_of, plain_reply, written, reply_pdu, after}

pub exception_reply : (d : Places) (r : RequestPdu) (code : ℕ) → exception_for d r ≡ Some code →
    reply_pdu d r ≡ exception (function_of r) code
unfolding reply_pdu
exception_reply d r code is =
    ap (λ (e : Option ℕ). elim e [ Some code ↦ exception (function_of r) code | None ↦ plain_reply d r ]) is

pub exception_after : (d : Places) (r : RequestPdu) (code : ℕ) → exception_for d r ≡ Some code → after d r ≡ d
unfolding after
exception_after d r code is = ap (λ (e : Option ℕ). elim e [ Some code ↦ d | None ↦ written d r ]) is

pub plain_is : (d : Places) (r : RequestPdu) → exception_for d r ≡ None → reply_pdu d r ≡ plain_reply d r
unfolding reply_pdu
plain_is d r is = ap (λ (e : Option ℕ). elim e [
  | Some code ↦ exception (function_of r) code
  | None ↦ plain_reply d r
]) is

pub written_is : (d : Places) (r : RequestPdu) → exception_for d r ≡ None → after d r ≡ written d r
unfolding after
written_is d r is = ap (λ (e : Option ℕ). elim e [ Some code ↦ d | None ↦ written d r ]) is

-- no exception: the value can be, and the place is there
pub none_refused : (v p : Bool) → refused v p ≡ None → (v ≡ true) × (p ≡ true)
none_refused true true is = (refl, refl)
none_refused true false is = absurd (cc)
none_refused false p is = absurd (cc)

between : (low high n : ℕ) → is_between low high n ≡ true → n ≤ high
between low high n h = leb-true n high (and_parts (nat_le low n) (nat_le n high) h).1

pub can_read_bits : (d : Places) (f p n : ℕ) → exception_for d (request.ReadBits f p n) ≡ None →
    (p + n ≤ length (bits_of d f)) × (n ≤ 2000)
unfolding exception_for
can_read_bits d f p n none =
    let parts = none_refused _ _ none in
    (leb-true (p + n) (length (bits_of d f)) parts.1, between 1 2000 n parts.0)

pub can_read_registers : (d : Places) (f p n : ℕ) → exception_for d (request.ReadRegisters f p n) ≡ None
    → (p + n ≤ length (registers_of d f)) × (n ≤ 125)
unfolding exception_for
can_read_registers d f p n none =
    let parts = none_refused _ _ none in
    (leb-true (p + n) (length (registers_of d f)) parts.1, between 1 125 n parts.0)

pub can_write_coil : (d : Places) (p v : ℕ) → exception_for d (request.WriteCoil p v) ≡ None → p < length d.coils
unfolding exception_for
can_write_coil d p v none =
    ltb-true p (length d.coils) (none_refused (is_coil_value v) (nat_lt p (length d.coils)) none).1

pub can_write_register : (d : Places) (p v : ℕ) → exception_for d (request.WriteRegister p v) ≡ None →
    p < length d.holding
unfolding exception_for
can_write_register d p v none = ltb-true p (length d.holding) (none_refused true (nat_lt p (length d.holding)) none).1

pub can_write_coils : (d : Places) (p n : ℕ) (bytes : List ℕ) → exception_for d (request.WriteCoils p n bytes) ≡ None
    → (p + n ≤ length d.coils) × (n ≤ 8 * length bytes)
unfolding exception_for
can_write_coils d p n bytes none =
    let parts = none_refused _ _ none in
    let count : length bytes ≡ byte_count n =
    eqb-true (length bytes) (byte_count n)
    (and_parts (is_between 1 1968 n) (nat_eq (length bytes) (byte_count n)) parts.0).1 in
    (leb-true (p + n) (length d.coils) parts.1, omega (arith, count))

pub can_write_registers : (d : Places) (p n : ℕ) (bytes : List ℕ) →
    exception_for d (request.WriteRegisters p n bytes) ≡ None
    → (p + n ≤ length d.holding) × (2 * n ≤ length bytes)
unfolding exception_for
can_write_registers d p n bytes none =
    let parts = none_refused _ _ none in
    let count : length bytes ≡ 2 * n =
    eqb-true (length bytes) (2 * n) (and_parts (is_between 1 123 n) (nat_eq (length bytes) (2 * n)) parts.0).1 in
    (leb-true (p + n) (length d.holding) parts.1, omega (arith, count))
