-- The forms of all words, by the tables of kinds. All are this project's own.
use Rattle.std.specs.Prelude.{ℕ, ℤ, nat_lt, if◌then◌else◌, List, length, Option, Some, None, Result, Ok, Err}
use Rattle.wire_parts.specs.View.{View}
use Rattle.message_types.specs.declared.signed.Signed.{Signed}
use Rattle.message_types.specs.declared.limits.TheConstants.{MOST_LISTED, MOST_CERTIFICATES, MOST_BODY_BYTES}
use Rattle.message_types.specs.declared.updates.Op.{Op}
use Rattle.message_types.specs.declared.updates.Op.TheVariants as op
use Rattle.message_types.specs.declared.updates.Update.{Update}
use Rattle.message_types.specs.declared.preordering.PoRequest.{PoRequest}
use Rattle.message_types.specs.declared.preordering.PoAck.{PoAck}
use Rattle.message_types.specs.declared.preordering.PoSummary.{PoSummary}
use Rattle.message_types.specs.declared.ordering.PrePrepare.{PrePrepare}
use Rattle.message_types.specs.declared.ordering.Prepare.{Prepare}
use Rattle.message_types.specs.declared.ordering.Commit.{Commit}
use Rattle.message_types.specs.declared.ordering.Mark.{Mark}
use Rattle.message_types.specs.declared.ordering.Certificate.{Certificate}
use Rattle.message_types.specs.declared.measures.Ping.{Ping}
use Rattle.message_types.specs.declared.measures.Pong.{Pong}
use Rattle.message_types.specs.declared.measures.Rtt.{Rtt}
use Rattle.message_types.specs.declared.measures.TatReport.{TatReport}
use Rattle.message_types.specs.declared.measures.TatBound.{TatBound}
use Rattle.message_types.specs.declared.measures.Suspect.{Suspect}
use Rattle.message_types.specs.declared.views.Report.{Report}
use Rattle.message_types.specs.declared.views.NewView.{NewView}
use Rattle.message_types.specs.declared.reconciling.AskUpdate.{AskUpdate}
use Rattle.message_types.specs.declared.reconciling.Give.{Give}
use Rattle.message_types.specs.declared.reconciling.AskOrder.{AskOrder}
use Rattle.message_types.specs.declared.reconciling.GiveOrdered.{GiveOrdered}
use Rattle.message_types.specs.declared.vouchers.Notice.{Notice}
use Rattle.message_types.specs.declared.vouchers.NoticeKind.{NoticeKind}
use Rattle.message_types.specs.declared.vouchers.NoticeKind.TheVariants as notice
use Rattle.message_types.specs.declared.vouchers.Order.{Order}
use Rattle.message_types.specs.declared.vouchers.Order.TheVariants as order
use Rattle.message_types.specs.declared.vouchers.Voucher.{Voucher}
use Rattle.message_types.specs.declared.body.Body.{Body}
use Rattle.message_types.specs.declared.body.Body.TheVariants as body
use Rattle.message_forms.specs.declared.refusal.FormRefusal.{FormRefusal}
use Rattle.message_forms.specs.declared.refusal.FormRefusal.TheVariants as fault
use Rattle.message_forms.specs.Grammar.{Reading, ◌>>=◌, at, number_at, signed_number_at, bytes_at, nothing, both}
use Rattle.message_forms.specs.Grammar.{made, marked, Cases, unknown, case, chosen, key_at, list_at, end_at}
use Rattle.message_forms.specs.Grammar.{signed_at, frames_at, no_key}

-- the fields behind a kind's number, and the whole body of a kind that stands inside others

unfoldable pub point_at : View → Reading (ℕ × ℤ)
point_at = both (number_at 4) signed_number_at

unfoldable pub op_at : View → Reading Op
op_at = chosen 1 (case 1 (λ p. op.Reading p.0 p.1) point_at
    (case 2 (λ p. op.Set p.0 p.1) point_at
    (case 3 op.Ack (number_at 4) unknown)))

unfoldable pub update_at : View → Reading Update
update_at = made (λ p. record { client = p.0; t = p.1.0; op = p.1.1 }) (both (number_at 4) (both (number_at 8) op_at))

unfoldable pub request_at : View → Reading PoRequest
request_at = made (λ p. record { k = p.0; update = p.1 }) (both (number_at 8) (signed_at (marked 2 1 update_at) None))

unfoldable pub ack_at : View → Reading PoAck
ack_at = made (λ p. record { j = p.0; k = p.1.0; digest = p.1.1 })
    (both (number_at 4) (both (number_at 8) (bytes_at 32)))

unfoldable pub row_at : View → Reading (List ℕ)
row_at = list_at MOST_LISTED (λ before. number_at 8) no_key

unfoldable pub summary_at : View → Reading PoSummary
summary_at = made (λ row. record { numbers = row }) row_at

unfoldable pub pre_prepare_at : View → Reading PrePrepare
pre_prepare_at = made (λ p. record { v = p.0; s = p.1.0; frames = p.1.1 })
    (both (number_at 8) (both (number_at 8) (frames_at (marked 2 4 summary_at))))

unfoldable pub prepare_at : View → Reading Prepare
prepare_at = made (λ p. record { v = p.0; s = p.1.0; digest = p.1.1 })
    (both (number_at 8) (both (number_at 8) (bytes_at 32)))

unfoldable pub commit_at : View → Reading Commit
commit_at = made (λ p. record { v = p.0; s = p.1.0; digest = p.1.1 })
    (both (number_at 8) (both (number_at 8) (bytes_at 32)))

unfoldable pub ping_at : View → Reading Ping
ping_at = made (λ n. record { number = n }) (number_at 8)

unfoldable pub pong_at : View → Reading Pong
pong_at = made (λ p. record { to = p.0; number = p.1 }) (both (number_at 4) (number_at 8))

unfoldable pub rtt_at : View → Reading Rtt
rtt_at = made (λ p. record { to = p.0; number = p.1.0; ticks = p.1.1 })
    (both (number_at 4) (both (number_at 8) (number_at 8)))

unfoldable pub tat_report_at : View → Reading TatReport
tat_report_at = made (λ p. record { v = p.0; ticks = p.1 }) (both (number_at 8) (number_at 8))

unfoldable pub tat_bound_at : View → Reading TatBound
tat_bound_at = made (λ p. record { v = p.0; ticks = p.1 }) (both (number_at 8) (number_at 8))

unfoldable pub suspect_at : View → Reading Suspect
suspect_at = made (λ n. record { v = n }) (number_at 8)

unfoldable pub mark_at : View → Reading Mark
mark_at = made (λ n. record { s = n }) (number_at 8)

-- rows are marked by 0x00f0
unfoldable pub rows_at : View → Reading (List (List ℕ))
rows_at = marked 2 0x00f0 (list_at MOST_LISTED (λ before. row_at) no_key)

-- the certificates of a list rise by their numbers s
unfoldable pub certificate_at : Option ℕ → View → Reading Certificate
certificate_at before = made (λ p. record { s = p.0; v = p.1.0; rows = p.1.1.0; prepares = p.1.1.1 })
    (both (key_at 8 before) (both (number_at 8) (both rows_at (frames_at (marked 2 6 prepare_at)))))

abbrev pub certificate_key : Certificate → Option ℕ
certificate_key c = Some c.s

unfoldable pub report_at : View → Reading Report
report_at = made (λ p. record { v = p.0; base = p.1.0; marks = p.1.1.0; certificates = p.1.1.1 })
    (both (number_at 8) (both (number_at 8)
    (both (frames_at (marked 2 21 mark_at)) (list_at MOST_CERTIFICATES certificate_at certificate_key))))

unfoldable pub new_view_at : View → Reading NewView
new_view_at = made (λ p. record { v = p.0; reports = p.1 }) (both (number_at 8) (frames_at (marked 2 14 report_at)))

unfoldable pub ask_update_at : View → Reading AskUpdate
ask_update_at = made (λ p. record { j = p.0; k = p.1 }) (both (number_at 4) (number_at 8))

unfoldable pub give_at : View → Reading Give
give_at = made (λ p. record { request = p.0; acks = p.1 })
    (both (signed_at (marked 2 2 request_at) None) (frames_at (marked 2 3 ack_at)))

unfoldable pub ask_order_at : View → Reading AskOrder
ask_order_at = made (λ n. record { s = n }) (number_at 8)

unfoldable pub give_ordered_at : View → Reading GiveOrdered
give_ordered_at = made (λ p. record { s = p.0; v = p.1.0; rows = p.1.1.0; commits = p.1.1.1 })
    (both (number_at 8) (both (number_at 8) (both rows_at (frames_at (marked 2 7 commit_at)))))

abbrev pub what_cases : Cases NoticeKind
what_cases = case 1 (λ _. notice.Done) nothing (case 2 (λ _. notice.Denied) nothing
    (case 3 (λ _. notice.NoPoint) nothing (case 4 (λ _. notice.OutOfRange) nothing
    (case 5 (λ _. notice.NotWritable) nothing (case 6 (λ _. notice.NoAlarm) nothing
    (case 7 (λ _. notice.Raised) nothing (case 8 (λ _. notice.Cleared) nothing
    (case 9 (λ _. notice.WrongPart) nothing unknown))))))))

unfoldable pub what_at : View → Reading NoticeKind
what_at = chosen 1 what_cases

unfoldable pub notice_at : View → Reading Notice
notice_at = made (λ p. record { what = p.0; t = p.1.0; number = p.1.1 })
    (both what_at (both (number_at 8) (number_at 4)))

unfoldable pub order_at : View → Reading Order
order_at = chosen 1 (case 1 (λ p. order.Write p.0 p.1) (both (number_at 4) (number_at 2))
    (case 2 order.Notice notice_at unknown))

unfoldable pub voucher_at : View → Reading Voucher
voucher_at = made (λ p. record { client = p.0; number = p.1.0; order = p.1.1 })
    (both (number_at 4) (both (number_at 8) order_at))

-- a body of any kind, by its number
abbrev pub measure_kinds : Cases Body
measure_kinds = case 8 body.Ping ping_at (case 9 body.Pong pong_at (case 10 body.Rtt rtt_at
    (case 11 body.TatReport tat_report_at
    (case 12 body.TatBound tat_bound_at (case 13 body.Suspect suspect_at unknown)))))

abbrev pub view_kinds : Cases Body
view_kinds = case 14 body.Report report_at (case 15 body.NewView new_view_at (case 16 body.AskUpdate ask_update_at
    (case 17 body.Give give_at (case 18 body.AskOrder ask_order_at (case 19 body.GiveOrdered give_ordered_at
    (case 20 body.Voucher voucher_at measure_kinds))))))

abbrev pub kinds : Cases Body
kinds = case 1 body.Update update_at (case 2 body.PoRequest request_at (case 3 body.PoAck ack_at
    (case 4 body.PoSummary summary_at (case 5 body.PrePrepare pre_prepare_at (case 6 body.Prepare prepare_at
    (case 7 body.Commit commit_at (case 21 body.Mark mark_at view_kinds)))))))

unfoldable pub body_at : View → Reading Body
body_at = chosen 2 kinds

-- a frame that fills its bytes, of which there are at most 1 GiB
unfoldable pub frame_at : List ℕ → Result (Signed Body) FormRefusal
frame_at bytes = if nat_lt MOST_BODY_BYTES (length bytes) then Err (fault.TooLong 0)
    else (signed_at body_at None (at 0 bytes) >>= λ frame. end_at frame.1 >>= λ done. Ok frame.0)

abbrev pub fault_in : {X : Type 0} → Result X FormRefusal → Option FormRefusal
fault_in (Ok x) = None
fault_in (Err e) = Some e

-- the first fault of bytes that spell no frame
unfoldable pub first_fault : List ℕ → Option FormRefusal
first_fault bytes = fault_in (frame_at bytes)
