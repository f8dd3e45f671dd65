-- How replies are spelled (V1.1b3, sections 6.1 to 6.6, 6.11, 6.12 and 7).
use Rattle.std.specs.Prelude.{ℕ, ◌+◌, Bool, true, false, ◌&&◌, ◌||◌, nat_eq, nat_le, if◌then◌else◌, List, [], ◌∷◌}
use Rattle.std.specs.Prelude.{◌++◌, length, drop, Option, slice_index}
use Rattle.wire_parts.specs.Fields.{u16_bytes, u16_at}
use Rattle.modbus_forms.specs.declared.refusal.ModbusRefusal.{ModbusRefusal}
use Rattle.modbus_forms.specs.declared.reply.Reply.{Reply}
use Rattle.modbus_forms.specs.declared.reply.ReplyPdu.{ReplyPdu}
use Rattle.modbus_forms.specs.declared.reply.ReplyPdu.TheVariants as reply
use Rattle.modbus_forms.specs.Frame.{frame_text, pdu_of, first_fault}
use Rattle.modbus_forms.specs.Requests.{pair_text, writes_many}

abbrev pub reply_pdu_text : ReplyPdu → List ℕ
reply_pdu_text (reply.Bits f bytes) = f ∷ length bytes ∷ bytes
reply_pdu_text (reply.Registers f bytes) = f ∷ length bytes ∷ bytes
reply_pdu_text (reply.Wrote f place value) = f ∷ pair_text place value
reply_pdu_text (reply.WroteMany f place quantity) = f ∷ pair_text place quantity
reply_pdu_text (reply.Exception f code) = f ∷ code ∷ []

abbrev pub reply_text : Reply → List ℕ
reply_text r = frame_text r.transaction r.unit (reply_pdu_text r.pdu)

-- the function is one of the variant's, and the PDU has at most 253 bytes; an exception's has the highest bit set
abbrev pub reply_pdu_fits : ReplyPdu → Bool
reply_pdu_fits (reply.Bits f bytes) = (nat_eq f 1 || nat_eq f 2) && nat_le (length bytes) 251
reply_pdu_fits (reply.Registers f bytes) = (nat_eq f 3 || nat_eq f 4) && nat_le (length bytes) 251
reply_pdu_fits (reply.Wrote f place value) = nat_eq f 5 || nat_eq f 6
reply_pdu_fits (reply.WroteMany f place quantity) = writes_many f
reply_pdu_fits (reply.Exception f code) = nat_le 128 f

-- which replies have a spelling
abbrev pub reply_fits : Reply → Bool
reply_fits r = reply_pdu_fits r.pdu

-- a PDU of the size of its function's reply; no reply has a function that isn't known
abbrev pub is_reply_sized : List ℕ → Bool
is_reply_sized [] = false
is_reply_sized (f ∷ rest) =
    if nat_le 1 f && nat_le f 4 then nat_eq (length rest) (1 + slice_index rest 0)
    else if (nat_eq f 5 || nat_eq f 6) || writes_many f then nat_eq (length rest) 4
    else nat_le 128 f && nat_eq (length rest) 1

-- the first fault of bytes that spell no reply
abbrev pub reply_fault : List ℕ → Option ModbusRefusal
reply_fault bytes = first_fault is_reply_sized bytes
