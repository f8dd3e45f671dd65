-- What a device answers, and what it holds then (Modbus V1.1b3, sections 6.1 to 6.6, 6.11, 6.12 and 7). The order in
-- which exceptions are tried is this project's own: a value that can't be, then a place that isn't there.
use Rattle.std.specs.Prelude.{ℕ, ◌+◌, ◌*◌, Bool, true, false, ◌&&◌, ◌||◌, not, nat_eq, nat_lt, nat_le, if◌then◌else◌}
use Rattle.std.specs.Prelude.{List, length, take, drop, Option, Some, None, slice_set}
use Rattle.modbus_forms.specs.declared.request.Request.{Request}
use Rattle.modbus_forms.specs.declared.request.RequestPdu.{RequestPdu}
use Rattle.modbus_forms.specs.declared.request.RequestPdu.TheVariants as request
use Rattle.modbus_forms.specs.declared.reply.Reply.{Reply}
use Rattle.modbus_forms.specs.declared.reply.ReplyPdu.{ReplyPdu}
use Rattle.modbus_forms.specs.declared.reply.ReplyPdu.TheVariants as reply
use Rattle.field_device.specs.Places.{Places}
use Rattle.field_device.specs.declared.limits.TheConstants.{MOST_BITS_READ, MOST_REGISTERS_READ, MOST_COILS_WRITTEN}
use Rattle.field_device.specs.declared.limits.TheConstants.{MOST_REGISTERS_WRITTEN}
use Rattle.field_device.specs.Packing.{packed, bits_in, register_bytes, registers_in, byte_count, overwritten}

-- the values that stand for a coil's two states in a request (section 6.5)
abbrev pub coil_on : ℕ
coil_on = 0xff00

abbrev pub is_coil_value : ℕ → Bool
is_coil_value value = nat_eq value coil_on || nat_eq value 0

-- the lists that a function reads: 1 coils, 2 discrete inputs; 3 holding registers, 4 input registers
abbrev pub bits_of : Places → ℕ → List Bool
bits_of d f = if nat_eq f 1 then d.coils else d.discrete

abbrev pub registers_of : Places → ℕ → List ℕ
registers_of d f = if nat_eq f 3 then d.holding else d.input

abbrev pub is_between : ℕ → ℕ → ℕ → Bool
is_between low high n = nat_le low n && nat_le n high

-- exception 3, an illegal value, else 2, an illegal place
abbrev pub refused : Bool → Bool → Option ℕ
refused is_value is_place = if not is_value then Some 3 else if not is_place then Some 2 else None

-- the exception that a request meets, if any: 1 is for a function that the device hasn't
unfoldable pub exception_for : Places → RequestPdu → Option ℕ
exception_for d (request.ReadBits f p n) =
    refused (is_between 1 MOST_BITS_READ n) (nat_le (p + n) (length (bits_of d f)))
exception_for d (request.ReadRegisters f p n) =
    refused (is_between 1 MOST_REGISTERS_READ n) (nat_le (p + n) (length (registers_of d f)))
exception_for d (request.WriteCoil p value) = refused (is_coil_value value) (nat_lt p (length d.coils))
exception_for d (request.WriteRegister p value) = refused true (nat_lt p (length d.holding))
exception_for d (request.WriteCoils p n bytes) =
    refused (is_between 1 MOST_COILS_WRITTEN n && nat_eq (length bytes) (byte_count n))
    (nat_le (p + n) (length d.coils))
exception_for d (request.WriteRegisters p n bytes) =
    refused (is_between 1 MOST_REGISTERS_WRITTEN n && nat_eq (length bytes) (2 * n)) (nat_le (p + n) (length d.holding))
exception_for d (request.Other f bytes) = Some 1

abbrev pub function_of : RequestPdu → ℕ
function_of (request.ReadBits f p n) = f
function_of (request.ReadRegisters f p n) = f
function_of (request.WriteCoil p value) = 5
function_of (request.WriteRegister p value) = 6
function_of (request.WriteCoils p n bytes) = 15
function_of (request.WriteRegisters p n bytes) = 16
function_of (request.Other f bytes) = f

-- an exception's function is the request's with the highest bit set (section 7); where it is set already, the function
-- itself (this project's own)
abbrev pub exception_function : ℕ → ℕ
exception_function f = if nat_lt f 128 then f + 128 else f

abbrev pub exception : ℕ → ℕ → ReplyPdu
exception f code = reply.Exception (exception_function f) code

-- the reply to a request that meets no exception
unfoldable pub plain_reply : Places → RequestPdu → ReplyPdu
plain_reply d (request.ReadBits f p n) = reply.Bits f (packed (take n (drop p (bits_of d f))))
plain_reply d (request.ReadRegisters f p n) = reply.Registers f (register_bytes (take n (drop p (registers_of d f))))
plain_reply d (request.WriteCoil p value) = reply.Wrote 5 p value
plain_reply d (request.WriteRegister p value) = reply.Wrote 6 p value
plain_reply d (request.WriteCoils p n bytes) = reply.WroteMany 15 p n
plain_reply d (request.WriteRegisters p n bytes) = reply.WroteMany 16 p n
plain_reply d (request.Other f bytes) = exception f 1

-- what the device holds after a request that meets no exception
unfoldable pub written : Places → RequestPdu → Places
written d (request.WriteCoil p value) = record d { coils = slice_set d.coils p (nat_eq value coil_on) }
written d (request.WriteRegister p value) = record d { holding = slice_set d.holding p value }
written d (request.WriteCoils p n bytes) = record d { coils = overwritten d.coils p (bits_in n bytes) }
written d (request.WriteRegisters p n bytes) = record d { holding = overwritten d.holding p (registers_in n bytes) }
written d _ = d

-- a device's answer to a request
unfoldable pub reply_pdu : Places → RequestPdu → ReplyPdu
reply_pdu d r = elim (exception_for d r) [ Some code ↦ exception (function_of r) code | None ↦ plain_reply d r ]

abbrev pub reply_to : Places → Request → Reply
reply_to d r = record { transaction = r.transaction; unit = r.unit; pdu = reply_pdu d r.pdu }

-- and what it holds then: an exception changes nothing
unfoldable pub after : Places → RequestPdu → Places
after d r = elim (exception_for d r) [ Some code ↦ d | None ↦ written d r ]

-- the requests that read
abbrev pub is_read : RequestPdu → Bool
is_read (request.ReadBits f p n) = true
is_read (request.ReadRegisters f p n) = true
is_read _ = false
