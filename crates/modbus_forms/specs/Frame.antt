-- The frame of every message (MODBUS Messaging on TCP/IP Implementation Guide V1.0b, section 3.1.3): a header of 7
-- bytes and the protocol data unit (PDU), which begins with the function. Each field is big-endian (V1.1b3, section
-- 4.2).
use Rattle.std.specs.Prelude.{ℕ, ◌+◌, Bool, ◌&&◌, not, nat_eq, nat_lt, nat_le, if◌then◌else◌, List, [], ◌∷◌, ◌++◌}
use Rattle.std.specs.Prelude.{length, drop, Option, Some, None}
use Rattle.wire_parts.specs.Fields.{u8_bytes, u16_bytes, u16_at}
use Rattle.modbus_forms.specs.declared.refusal.ModbusRefusal.{ModbusRefusal}
use Rattle.modbus_forms.specs.declared.refusal.ModbusRefusal.TheVariants as fault

-- the transaction, the protocol (Modbus is 0), how many bytes follow, and the unit
abbrev pub header_text : ℕ → ℕ → ℕ → ℕ → List ℕ
header_text transaction protocol size unit = u16_bytes transaction
    ++ (u16_bytes protocol ++ (u16_bytes size ++ u8_bytes unit))

-- a PDU behind its header
unfoldable pub frame_text : ℕ → ℕ → List ℕ → List ℕ
frame_text transaction unit pdu = header_text transaction 0 (1 + length pdu) unit ++ pdu

-- the two fields of the header that can be wrong
abbrev pub protocol_of : List ℕ → ℕ
protocol_of bytes = u16_at (drop 2 bytes)

abbrev pub size_of : List ℕ → ℕ
size_of bytes = u16_at (drop 4 bytes)

abbrev pub pdu_of : List ℕ → List ℕ
pdu_of bytes = drop 7 bytes

-- the unit and a PDU of 1 to 253 bytes (V1.1b3, section 4.1)
abbrev pub is_size : ℕ → Bool
is_size size = nat_le 2 size && nat_le size 254

-- the first fault of a frame, whatever its PDU; the order is this project's own
unfoldable pub frame_fault : List ℕ → Option ModbusRefusal
frame_fault bytes =
    if nat_lt (length bytes) 7 then Some fault.Short
    else if not (nat_eq (protocol_of bytes) 0) then Some fault.BadProtocol
    else if not (is_size (size_of bytes)) then Some fault.BadLength
    else if nat_lt (length bytes) (6 + size_of bytes) then Some fault.Short
    else if nat_lt (6 + size_of bytes) (length bytes) then Some fault.Trailing
    else None

-- then the PDU has to have the size of its function's message
abbrev pub first_fault : (List ℕ → Bool) → List ℕ → Option ModbusRefusal
first_fault is_sized bytes =
    elim (frame_fault bytes) [ Some e ↦ Some e | None ↦ if is_sized (pdu_of bytes) then None else Some fault.BadLength ]
