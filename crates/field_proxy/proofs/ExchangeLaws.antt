-- What a device answers to the requests of a proxy.
use Rattle.std.proofs.Common.{◌≡◌, ◌<◌, ◌≤◌, ◌+◌, ◌*◌, ◌%◌, ◌^◌, ℕ, suc, zero, Bool, true, false, List, [], ◌∷◌, ◌++◌}
use Rattle.std.proofs.Common.{length, take, drop, refl, sym, ap, ◌∙◌, arith, inl, inr}
use Rattle.std.specs.Prelude.{Option, Some, None, slice_get, nat_eq, nat_le, nat_lt, if◌then◌else◌}
use Rattle.std.specs.Option.{option_map, option_and_then}
use Rattle.std.specs.Prelude.{Result, Ok, Err, OnOk, OnErr, ◌⊎◌}
use Rattle.plain_lists.specs.declared.want.Want.{Want}
use Rattle.point_table.specs.declared.point.Point.{Point}
use Rattle.point_table.specs.Point.{scaled}
use Rattle.field_proxy.specs.Readings.{in_64_bits, given}
use Rattle.std.proofs.lemmas.List.{drop_more}
use Rattle.std.proofs.lemmas.Bool.{le-leb, lt-leb}
use Rattle.std.proofs.lemmas.Option.{slice_get_cases, get_or_from_slice_get}
use Rattle.wire_parts.specs.Fields.{u16_bytes, u16_at}
use Rattle.wire_parts.specs.FieldLaws.{length-u16_bytes, u16_at-u16_bytes}
use Rattle.point_table.specs.declared.point.Area.{Area}
use Rattle.point_table.specs.declared.point.Area.TheVariants as area
use Rattle.modbus_forms.specs.declared.request.RequestPdu.{RequestPdu}
use Rattle.modbus_forms.specs.declared.request.RequestPdu.TheVariants as request
use Rattle.modbus_forms.specs.declared.reply.ReplyPdu.TheVariants as reply
use Rattle.modbus_forms.specs.Requests.{request_pdu_fits}
use Rattle.modbus_forms.specs.Widths.{FitsRequestPdu}
use Rattle.field_device.specs.Places.{Places, value_at, bit_number}
use Rattle.field_device.specs.Packing.{packed, register_bytes}
use Rattle.field_device.specs.Table.{exception_for, refused, exception, function_of, plain_reply, written, reply_pdu}
use Rattle.field_device.specs.Table.{after, bits_of, registers_of, coil_on}
use Rattle.field_device.proofs.TableLaws.{exception_reply, exception_after, plain_is, written_is}
use Rattle.field_proxy.specs.Exchanges.{read_pdu, raw_in, exception_in}
use Rattle.field_proxy.specs.Writes.{write_pdu}

-- a reading changes nothing

read_after : (d : Places) (r : RequestPdu) (e : Option ℕ) → exception_for d r ≡ e → written d r ≡ d → after d r ≡ d
read_after d r (Some code) is same = exception_after d r code is
read_after d r None is same = written_is d r is ∙ same

bits_stay : (d : Places) (f p n : ℕ) → written d (request.ReadBits f p n) ≡ d
unfolding written
bits_stay d f p n = refl

registers_stay : (d : Places) (f p n : ℕ) → written d (request.ReadRegisters f p n) ≡ d
unfolding written
registers_stay d f p n = refl

pub after_read : (d : Places) (a : Area) (p : ℕ) → after d (read_pdu a p) ≡ d
after_read d area.Coil p = read_after d _ (exception_for d (request.ReadBits 1 p 1)) refl (bits_stay d 1 p 1)
after_read d area.Discrete p = read_after d _ (exception_for d (request.ReadBits 2 p 1)) refl (bits_stay d 2 p 1)
after_read d area.Holding p = read_after d _ (exception_for d (request.ReadRegisters 3 p 1))
    refl (registers_stay d 3 p 1)
after_read d area.Input p = read_after d _ (exception_for d (request.ReadRegisters 4 p 1)) refl (registers_stay d 4 p 1)

-- the exception of a write stands in the reply

told_by : (d : Places) (r : RequestPdu) (e : Option ℕ) → exception_for d r ≡ e → exception_in (plain_reply d r) ≡ None
    → exception_in (reply_pdu d r) ≡ exception_for d r
told_by d r (Some code) is none = ap exception_in (exception_reply d r code is) ∙ sym is
told_by d r None is none = ap exception_in (plain_is d r is) ∙ none ∙ sym is

coil_plain : (d : Places) (p v : ℕ) → exception_in (plain_reply d (request.WriteCoil p v)) ≡ None
unfolding plain_reply
coil_plain d p v = refl

register_plain : (d : Places) (p v : ℕ) → exception_in (plain_reply d (request.WriteRegister p v)) ≡ None
unfolding plain_reply
register_plain d p v = refl

pub exception_write : (d : Places) (a : Area) (p raw : ℕ) →
    exception_in (reply_pdu d (write_pdu a p raw)) ≡ exception_for d (write_pdu a p raw)
exception_write d area.Coil p raw = told_by d _ (exception_for d (write_pdu area.Coil p raw)) refl (coil_plain d p _)
exception_write d area.Discrete p raw = told_by d _ (exception_for d (request.WriteRegister p raw))
    refl (register_plain d p raw)
exception_write d area.Holding p raw = told_by d _ (exception_for d (request.WriteRegister p raw))
    refl (register_plain d p raw)
exception_write d area.Input p raw = told_by d _ (exception_for d (request.WriteRegister p raw))
    refl (register_plain d p raw)

-- the requests of a proxy have a spelling

pub read_fits : (a : Area) (p : ℕ) → request_pdu_fits (read_pdu a p) ≡ true
read_fits area.Coil p = refl
read_fits area.Discrete p = refl
read_fits area.Holding p = refl
read_fits area.Input p = refl

pub read_wide : (a : Area) (p : ℕ) → p < 2 ^ 16 → FitsRequestPdu (read_pdu a p)
read_wide area.Coil p fits = (fits, omega arith)
read_wide area.Discrete p fits = (fits, omega arith)
read_wide area.Holding p fits = (fits, omega arith)
read_wide area.Input p fits = (fits, omega arith)

pub write_fits : (a : Area) (p raw : ℕ) → request_pdu_fits (write_pdu a p raw) ≡ true
write_fits area.Coil p raw = refl
write_fits area.Discrete p raw = refl
write_fits area.Holding p raw = refl
write_fits area.Input p raw = refl

coil_value : (b : Bool) → (if b then 0 else coil_on) < 2 ^ 16
coil_value true = omega arith
coil_value false = omega arith

pub write_wide : (a : Area) (p raw : ℕ) → p < 2 ^ 16 → raw < 2 ^ 16 → FitsRequestPdu (write_pdu a p raw)
write_wide area.Coil p raw fits fits' = (fits, coil_value (nat_eq raw 0))
write_wide area.Discrete p raw fits fits' = (fits, fits')
write_wide area.Holding p raw fits fits' = (fits, fits')
write_wide area.Input p raw fits fits' = (fits, fits')

-- the device after a request that only reads, whether the reply came or not
pub stays : {X : Type 0} (r : Result X Want) (old new aft : Places) → aft ≡ old → OnOk r (new ≡ aft) →
    OnErr r ((new ≡ old) ⊎ (new ≡ aft)) → new ≡ old
stays (Ok x) old new aft same ok err = ok ∙ same
stays (Err e) old new aft same ok err = elim err [ inl is ↦ is | inr is ↦ is ∙ same ]

-- what a device gives for a point, from the raw value in its reply
pub given_some : (d : Places) (p : Point) (raw : ℕ) → raw_in (reply_pdu d (read_pdu p.area p.place)) ≡ Some raw →
    given d p ≡ in_64_bits (scaled p raw)
unfolding given
given_some d p raw is = ap (option_and_then (λ raw. in_64_bits (scaled p raw))) is

pub given_none : (d : Places) (p : Point) → raw_in (reply_pdu d (read_pdu p.area p.place)) ≡ None → given d p ≡ None
unfolding given
given_none d p is = ap (option_and_then (λ raw. in_64_bits (scaled p raw))) is
