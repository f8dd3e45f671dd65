-- Which bytes spell a word and a frame. All formats are this project's own; numbers are big-endian.
-- A frame is `signer, body length, body, signature length, signature`; a body is its kind's number and its
-- fields; a list is its length in 16 bits and its items; a frame inside a body is spelled as any other.
use Rattle.std.specs.Prelude.{ℕ, List, ◌++◌, length}
use Rattle.std.specs.List.{flat_map}
use Rattle.wire_parts.specs.Fields.{u8_bytes, u16_bytes, u32_bytes, u64_bytes, i64_bytes}
use Rattle.message_types.specs.declared.signed.Signed.{Signed}
use Rattle.message_types.specs.declared.updates.Op.{Op}
use Rattle.message_types.specs.declared.updates.Op.TheVariants as op
use Rattle.message_types.specs.declared.updates.Update.{Update}
use Rattle.message_types.specs.declared.preordering.PoRequest.{PoRequest}
use Rattle.message_types.specs.declared.preordering.PoAck.{PoAck}
use Rattle.message_types.specs.declared.preordering.PoSummary.{PoSummary}
use Rattle.message_types.specs.declared.ordering.Prepare.{Prepare}
use Rattle.message_types.specs.declared.ordering.Commit.{Commit}
use Rattle.message_types.specs.declared.ordering.Mark.{Mark}
use Rattle.message_types.specs.declared.ordering.Certificate.{Certificate}
use Rattle.message_types.specs.declared.views.Report.{Report}
use Rattle.message_types.specs.declared.vouchers.NoticeKind.{NoticeKind}
use Rattle.message_types.specs.declared.vouchers.NoticeKind.TheVariants as notice
use Rattle.message_types.specs.declared.vouchers.Order.{Order}
use Rattle.message_types.specs.declared.vouchers.Order.TheVariants as order
use Rattle.message_types.specs.declared.body.Body.{Body}
use Rattle.message_types.specs.declared.body.Body.TheVariants as body

-- the length, then the items
abbrev pub list_text : {X : Type 0} → (X → List ℕ) → List X → List ℕ
list_text item xs = u16_bytes (length xs) ++ flat_map item xs

-- a frame, by how its body is spelled
abbrev pub signed_text : {B : Type 0} → (B → List ℕ) → Signed B → List ℕ
signed_text body_text frame =
    u32_bytes frame.signer ++ u32_bytes (length (body_text frame.body)) ++ body_text frame.body
    ++ u32_bytes (length frame.sig) ++ frame.sig

abbrev pub op_text : Op → List ℕ
op_text (op.Reading point value) = u8_bytes 1 ++ u32_bytes point ++ i64_bytes value
op_text (op.Set point value) = u8_bytes 2 ++ u32_bytes point ++ i64_bytes value
op_text (op.Ack alarm) = u8_bytes 3 ++ u32_bytes alarm

-- rows are marked by 0x00f0; each row is a list of numbers
abbrev pub rows_text : List (List ℕ) → List ℕ
rows_text rows = u16_bytes 0x00f0 ++ list_text (list_text u64_bytes) rows

abbrev pub notice_number : NoticeKind → ℕ
notice_number notice.Done = 1
notice_number notice.Denied = 2
notice_number notice.NoPoint = 3
notice_number notice.OutOfRange = 4
notice_number notice.NotWritable = 5
notice_number notice.NoAlarm = 6
notice_number notice.Raised = 7
notice_number notice.Cleared = 8
notice_number notice.WrongPart = 9

abbrev pub order_text : Order → List ℕ
order_text (order.Write point raw) = u8_bytes 1 ++ u32_bytes point ++ u16_bytes raw
order_text (order.Notice n) = u8_bytes 2 ++ u8_bytes (notice_number n.what) ++ u64_bytes n.t ++ u32_bytes n.number

-- the bodies that other bodies hold
abbrev pub update_text : Update → List ℕ
update_text b = u16_bytes 1 ++ u32_bytes b.client ++ u64_bytes b.t ++ op_text b.op

abbrev pub request_text : PoRequest → List ℕ
request_text b = u16_bytes 2 ++ u64_bytes b.k ++ signed_text update_text b.update

abbrev pub ack_text : PoAck → List ℕ
ack_text b = u16_bytes 3 ++ u32_bytes b.j ++ u64_bytes b.k ++ b.digest

abbrev pub summary_text : PoSummary → List ℕ
summary_text b = u16_bytes 4 ++ list_text u64_bytes b.numbers

abbrev pub prepare_text : Prepare → List ℕ
prepare_text b = u16_bytes 6 ++ u64_bytes b.v ++ u64_bytes b.s ++ b.digest

abbrev pub commit_text : Commit → List ℕ
commit_text b = u16_bytes 7 ++ u64_bytes b.v ++ u64_bytes b.s ++ b.digest

abbrev pub mark_text : Mark → List ℕ
mark_text b = u16_bytes 21 ++ u64_bytes b.s

abbrev pub certificate_text : Certificate → List ℕ
certificate_text c = u64_bytes c.s ++ u64_bytes c.v ++ rows_text c.rows
    ++ list_text (signed_text prepare_text) c.prepares

abbrev pub report_text : Report → List ℕ
report_text b =
    u16_bytes 14 ++ u64_bytes b.v ++ u64_bytes b.base
    ++ list_text (signed_text mark_text) b.marks ++ list_text certificate_text b.certificates

-- the text of a body, by its kind
abbrev pub body_text : Body → List ℕ
body_text (body.Update b) = update_text b
body_text (body.PoRequest b) = request_text b
body_text (body.PoAck b) = ack_text b
body_text (body.PoSummary b) = summary_text b
body_text (body.PrePrepare b) = u16_bytes 5 ++ u64_bytes b.v ++ u64_bytes b.s
    ++ list_text (signed_text summary_text) b.frames
body_text (body.Prepare b) = prepare_text b
body_text (body.Commit b) = commit_text b
body_text (body.Ping b) = u16_bytes 8 ++ u64_bytes b.number
body_text (body.Pong b) = u16_bytes 9 ++ u32_bytes b.to ++ u64_bytes b.number
body_text (body.Rtt b) = u16_bytes 10 ++ u32_bytes b.to ++ u64_bytes b.number ++ u64_bytes b.ticks
body_text (body.TatReport b) = u16_bytes 11 ++ u64_bytes b.v ++ u64_bytes b.ticks
body_text (body.TatBound b) = u16_bytes 12 ++ u64_bytes b.v ++ u64_bytes b.ticks
body_text (body.Suspect b) = u16_bytes 13 ++ u64_bytes b.v
body_text (body.Report b) = report_text b
body_text (body.NewView b) = u16_bytes 15 ++ u64_bytes b.v ++ list_text (signed_text report_text) b.reports
body_text (body.AskUpdate b) = u16_bytes 16 ++ u32_bytes b.j ++ u64_bytes b.k
body_text (body.Give b) = u16_bytes 17 ++ signed_text request_text b.request ++ list_text (signed_text ack_text) b.acks
body_text (body.AskOrder b) = u16_bytes 18 ++ u64_bytes b.s
body_text (body.GiveOrdered b) = u16_bytes 19 ++ u64_bytes b.s ++ u64_bytes b.v ++ rows_text b.rows
    ++ list_text (signed_text commit_text) b.commits
body_text (body.Voucher b) = u16_bytes 20 ++ u32_bytes b.client ++ u64_bytes b.number ++ order_text b.order
body_text (body.Mark b) = mark_text b

-- the one spelling of a frame
abbrev pub frame_text : Signed Body → List ℕ
frame_text frame = signed_text body_text frame
