-- The requests of a proxy, one for a point, what it takes from the replies, and the bytes that pass on the line to its
-- device (MODBUS Messaging on TCP/IP Implementation Guide V1.0b; which transactions and which unit is this project's
-- own).
use Rattle.std.specs.Prelude.{ℕ, ◌+◌, ◌%◌, nat_lt, if◌then◌else◌, List, [], ◌∷◌, ◌++◌, length, Option, Some, None}
use Rattle.std.specs.Prelude.{slice_get}
use Rattle.std.specs.Option.{option_map}
use Rattle.wire_parts.specs.Fields.{u16_at}
use Rattle.point_table.specs.declared.point.Area.{Area}
use Rattle.point_table.specs.declared.point.Area.TheVariants as area
use Rattle.modbus_forms.specs.declared.request.RequestPdu.{RequestPdu}
use Rattle.modbus_forms.specs.declared.request.RequestPdu.TheVariants as request
use Rattle.modbus_forms.specs.declared.reply.ReplyPdu.{ReplyPdu}
use Rattle.modbus_forms.specs.declared.reply.ReplyPdu.TheVariants as reply
use Rattle.modbus_forms.specs.declared.request.Request.{Request}
use Rattle.modbus_forms.specs.Requests.{request_text}
use Rattle.modbus_forms.specs.Replies.{reply_text}
use Rattle.field_device.specs.Places.{Places}
use Rattle.field_device.specs.Table.{reply_to, after}
use Rattle.field_proxy.specs.declared.line.Exchange.{Exchange}
use Rattle.field_proxy.specs.declared.line.Line.{Line}

-- the request that reads the place of a point (Modbus V1.1b3, sections 6.1 to 6.4)
abbrev pub read_pdu : Area → ℕ → RequestPdu
read_pdu area.Coil place = request.ReadBits 1 place 1
read_pdu area.Discrete place = request.ReadBits 2 place 1
read_pdu area.Holding place = request.ReadRegisters 3 place 1
read_pdu area.Input place = request.ReadRegisters 4 place 1

-- the first bit or register of a reply; an exception has none
abbrev pub raw_in : ReplyPdu → Option ℕ
raw_in (reply.Bits f bytes) = option_map (λ byte. byte % 2) (slice_get bytes 0)
raw_in (reply.Registers f bytes) = if nat_lt (length bytes) 2 then None else Some (u16_at bytes)
raw_in _ = None

-- the exception of a reply
abbrev pub exception_in : ReplyPdu → Option ℕ
exception_in (reply.Exception f code) = Some code
exception_in _ = None

-- a request to the device: its unit is 1
abbrev pub request_with : ℕ → RequestPdu → Request
request_with transaction pdu = record { transaction = transaction; unit = 1; pdu = pdu }

-- the bytes of a request under a transaction, and those of the device's reply to it
abbrev pub exchange_of : ℕ → Places → RequestPdu → Exchange
exchange_of transaction d pdu = record {
  request = request_text (request_with transaction pdu);
  reply =
      reply_text (reply_to d (request_with transaction pdu));
}

-- transactions go from 1 upwards, and on from 0 after 65,535
abbrev pub next_transaction : ℕ → ℕ
next_transaction last = (last + 1) % 65536

-- the line after one request more
unfoldable pub line_with : Line → Places → RequestPdu → Line
line_with line d pdu = record {
  last = next_transaction line.last;
  passed =
      line.passed ++ exchange_of (next_transaction line.last) d pdu ∷ [];
}

-- the line after requests in turn, each of which meets the device as the ones before left it
abbrev pub line_after : Line → Places → List RequestPdu → Line
line_after line d [] = line
line_after line d (pdu ∷ rest) = line_after (line_with line d pdu) (after d pdu) rest

-- what passes for requests that are asked next on a line
abbrev pub passed_for : Line → Places → List RequestPdu → List Exchange
passed_for line d requests = (line_after (record { last = line.last; passed = [] }) d requests).passed

-- the line once a proxy has asked all of these: what passed for them is kept in place of what passed before. Where it
-- asks nothing, the line stays
abbrev pub asked : Line → Places → List RequestPdu → Line
asked line d [] = line
asked line d (pdu ∷ rest) = line_after (record { last = line.last; passed = [] }) d (pdu ∷ rest)
