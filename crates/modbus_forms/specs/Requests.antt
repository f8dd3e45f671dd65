-- How requests are spelled (V1.1b3, sections 6.1 to 6.6, 6.11 and 6.12).
use Rattle.std.specs.Prelude.{ℕ, ◌+◌, Bool, true, false, ◌&&◌, ◌||◌, not, nat_eq, nat_le, if◌then◌else◌, List, []}
use Rattle.std.specs.Prelude.{◌∷◌, ◌++◌, length, drop, Option, slice_index}
use Rattle.wire_parts.specs.Fields.{u16_bytes, u16_at}
use Rattle.modbus_forms.specs.declared.refusal.ModbusRefusal.{ModbusRefusal}
use Rattle.modbus_forms.specs.declared.request.Request.{Request}
use Rattle.modbus_forms.specs.declared.request.RequestPdu.{RequestPdu}
use Rattle.modbus_forms.specs.declared.request.RequestPdu.TheVariants as request
use Rattle.modbus_forms.specs.Frame.{frame_text, pdu_of, first_fault}

-- two numbers, as a place and a quantity
abbrev pub pair_text : ℕ → ℕ → List ℕ
pair_text first second = u16_bytes first ++ u16_bytes second

-- a place, a quantity, the number of bytes, and these
abbrev pub many_text : ℕ → ℕ → List ℕ → List ℕ
many_text place quantity bytes = u16_bytes place ++ (u16_bytes quantity ++ (length bytes ∷ bytes))

abbrev pub request_pdu_text : RequestPdu → List ℕ
request_pdu_text (request.ReadBits f place quantity) = f ∷ pair_text place quantity
request_pdu_text (request.ReadRegisters f place quantity) = f ∷ pair_text place quantity
request_pdu_text (request.WriteCoil place value) = 5 ∷ pair_text place value
request_pdu_text (request.WriteRegister place value) = 6 ∷ pair_text place value
request_pdu_text (request.WriteCoils place quantity bytes) = 15 ∷ many_text place quantity bytes
request_pdu_text (request.WriteRegisters place quantity bytes) = 16 ∷ many_text place quantity bytes
request_pdu_text (request.Other f bytes) = f ∷ bytes

abbrev pub request_text : Request → List ℕ
request_text r = frame_text r.transaction r.unit (request_pdu_text r.pdu)

-- functions with a form of their own
abbrev pub reads_or_writes_one : ℕ → Bool
reads_or_writes_one f = nat_le 1 f && nat_le f 6

abbrev pub writes_many : ℕ → Bool
writes_many f = nat_eq f 15 || nat_eq f 16

-- the function is one of the variant's, and the PDU has at most 253 bytes
abbrev pub request_pdu_fits : RequestPdu → Bool
request_pdu_fits (request.ReadBits f place quantity) = nat_eq f 1 || nat_eq f 2
request_pdu_fits (request.ReadRegisters f place quantity) = nat_eq f 3 || nat_eq f 4
request_pdu_fits (request.WriteCoil place value) = true
request_pdu_fits (request.WriteRegister place value) = true
request_pdu_fits (request.WriteCoils place quantity bytes) = nat_le (length bytes) 247
request_pdu_fits (request.WriteRegisters place quantity bytes) = nat_le (length bytes) 247
request_pdu_fits (request.Other f bytes) = not (reads_or_writes_one f || writes_many f) && nat_le (length bytes) 252

-- which requests have a spelling
abbrev pub request_fits : Request → Bool
request_fits r = request_pdu_fits r.pdu

-- a PDU of the size of its function's request; the count of bytes stands behind place and quantity
abbrev pub is_request_sized : List ℕ → Bool
is_request_sized [] = false
is_request_sized (f ∷ rest) =
    if reads_or_writes_one f then nat_eq (length rest) 4
    else if writes_many f then nat_eq (length rest) (5 + slice_index rest 4)
    else true

-- the first fault of bytes that spell no request
abbrev pub request_fault : List ℕ → Option ModbusRefusal
request_fault bytes = first_fault is_request_sized bytes
