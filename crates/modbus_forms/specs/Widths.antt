-- Each number within the field that it is written in. A value of the program's types always is so; definitions, whose
-- numbers have no bound, say it.
use Rattle.std.specs.Prelude.{◌<◌, ◌^◌, ℕ}
use Rattle.modbus_forms.specs.declared.request.Request.{Request}
use Rattle.modbus_forms.specs.declared.request.RequestPdu.{RequestPdu}
use Rattle.modbus_forms.specs.declared.request.RequestPdu.TheVariants as request
use Rattle.modbus_forms.specs.declared.reply.Reply.{Reply}
use Rattle.modbus_forms.specs.declared.reply.ReplyPdu.{ReplyPdu}
use Rattle.modbus_forms.specs.declared.reply.ReplyPdu.TheVariants as reply

abbrev pub FitsPair : ℕ → ℕ → Type 0
FitsPair first second = (first < 2 ^ 16) × (second < 2 ^ 16)

abbrev pub FitsRequestPdu : RequestPdu → Type 0
FitsRequestPdu (request.ReadBits f place quantity) = FitsPair place quantity
FitsRequestPdu (request.ReadRegisters f place quantity) = FitsPair place quantity
FitsRequestPdu (request.WriteCoil place value) = FitsPair place value
FitsRequestPdu (request.WriteRegister place value) = FitsPair place value
FitsRequestPdu (request.WriteCoils place quantity bytes) = FitsPair place quantity
FitsRequestPdu (request.WriteRegisters place quantity bytes) = FitsPair place quantity
FitsRequestPdu (request.Other f bytes) = Unit {0}

abbrev pub FitsReplyPdu : ReplyPdu → Type 0
FitsReplyPdu (reply.Bits f bytes) = Unit {0}
FitsReplyPdu (reply.Registers f bytes) = Unit {0}
FitsReplyPdu (reply.Wrote f place value) = FitsPair place value
FitsReplyPdu (reply.WroteMany f place quantity) = FitsPair place quantity
FitsReplyPdu (reply.Exception f code) = Unit {0}

abbrev pub FitsRequest : Request → Type 0
FitsRequest r = (r.transaction < 2 ^ 16) × FitsRequestPdu r.pdu

abbrev pub FitsReply : Reply → Type 0
FitsReply r = (r.transaction < 2 ^ 16) × FitsReplyPdu r.pdu
