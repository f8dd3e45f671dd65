-- Whether two bodies are one and the same, part by part, frames with their signatures. (That this is equality is a law
-- of the crate history_laws.)
use Rattle.std.specs.Prelude.{ℕ, Bool, false, ◌&&◌, List, nat_eq}
use Rattle.std.specs.Cmp.Lexicographic.{pointwise}
use Rattle.std.specs.Ordering.{int_eq}
use Rattle.std.specs.Str.{bytes_eq}
use Rattle.message_types.specs.declared.signed.Signed.{Signed}
use Rattle.message_types.specs.declared.updates.Op.{Op}
use Rattle.message_types.specs.declared.updates.Op.TheVariants as op
use Rattle.message_types.specs.declared.updates.Update.{Update}
use Rattle.message_types.specs.declared.preordering.PoRequest.{PoRequest}
use Rattle.message_types.specs.declared.preordering.PoAck.{PoAck}
use Rattle.message_types.specs.declared.preordering.PoSummary.{PoSummary}
use Rattle.message_types.specs.declared.ordering.PrePrepare.{PrePrepare}
use Rattle.message_types.specs.declared.ordering.Prepare.{Prepare}
use Rattle.message_types.specs.declared.ordering.Commit.{Commit}
use Rattle.message_types.specs.declared.ordering.Mark.{Mark}
use Rattle.message_types.specs.declared.ordering.Certificate.{Certificate}
use Rattle.message_types.specs.declared.views.Report.{Report}
use Rattle.message_types.specs.declared.vouchers.Order.{Order}
use Rattle.message_types.specs.declared.vouchers.Order.TheVariants as order
use Rattle.message_types.specs.declared.body.Body.{Body}
use Rattle.message_types.specs.declared.body.Body.TheVariants as body
use Rattle.message_types.specs.Texts.{notice_number}

abbrev pub is_same_signed : {B : Type 0} → (B → B → Bool) → Signed B → Signed B → Bool
is_same_signed same a b = nat_eq a.signer b.signer && same a.body b.body && bytes_eq a.sig b.sig

abbrev pub are_same_signed : {B : Type 0} → (B → B → Bool) → List (Signed B) → List (Signed B) → Bool
are_same_signed same = pointwise (is_same_signed same)

abbrev pub are_same_rows : List (List ℕ) → List (List ℕ) → Bool
are_same_rows = pointwise bytes_eq

abbrev pub is_same_op : Op → Op → Bool
is_same_op (op.Reading p x) (op.Reading q y) = nat_eq p q && int_eq x y
is_same_op (op.Set p x) (op.Set q y) = nat_eq p q && int_eq x y
is_same_op (op.Ack p) (op.Ack q) = nat_eq p q
is_same_op _ _ = false

abbrev pub is_same_update : Update → Update → Bool
is_same_update a b = nat_eq a.client b.client && nat_eq a.t b.t && is_same_op a.op b.op

abbrev pub is_same_request : PoRequest → PoRequest → Bool
is_same_request a b = nat_eq a.k b.k && is_same_signed is_same_update a.update b.update

abbrev pub is_same_ack : PoAck → PoAck → Bool
is_same_ack a b = nat_eq a.j b.j && nat_eq a.k b.k && bytes_eq a.digest b.digest

abbrev pub is_same_summary : PoSummary → PoSummary → Bool
is_same_summary a b = bytes_eq a.numbers b.numbers

abbrev pub is_same_preprepare : PrePrepare → PrePrepare → Bool
is_same_preprepare a b = nat_eq a.v b.v && nat_eq a.s b.s && are_same_signed is_same_summary a.frames b.frames

abbrev pub is_same_prepare : Prepare → Prepare → Bool
is_same_prepare a b = nat_eq a.v b.v && nat_eq a.s b.s && bytes_eq a.digest b.digest

abbrev pub is_same_commit : Commit → Commit → Bool
is_same_commit a b = nat_eq a.v b.v && nat_eq a.s b.s && bytes_eq a.digest b.digest

abbrev pub is_same_mark : Mark → Mark → Bool
is_same_mark a b = nat_eq a.s b.s

abbrev pub is_same_certificate : Certificate → Certificate → Bool
is_same_certificate a b = nat_eq a.s b.s && nat_eq a.v b.v && are_same_rows a.rows b.rows
    && are_same_signed is_same_prepare a.prepares b.prepares

abbrev pub is_same_report : Report → Report → Bool
is_same_report a b =
    nat_eq a.v b.v && nat_eq a.base b.base && are_same_signed is_same_mark a.marks b.marks
    && pointwise is_same_certificate a.certificates b.certificates

abbrev pub is_same_order : Order → Order → Bool
is_same_order (order.Write p x) (order.Write q y) = nat_eq p q && nat_eq x y
is_same_order (order.Notice a) (order.Notice b) = nat_eq (notice_number a.what) (notice_number b.what)
    && nat_eq a.t b.t && nat_eq a.number b.number
is_same_order _ _ = false

-- the two bodies are one and the same
abbrev pub is_same_body : Body → Body → Bool
is_same_body (body.Update a) (body.Update b) = is_same_update a b
is_same_body (body.PoRequest a) (body.PoRequest b) = is_same_request a b
is_same_body (body.PoAck a) (body.PoAck b) = is_same_ack a b
is_same_body (body.PoSummary a) (body.PoSummary b) = is_same_summary a b
is_same_body (body.PrePrepare a) (body.PrePrepare b) = is_same_preprepare a b
is_same_body (body.Prepare a) (body.Prepare b) = is_same_prepare a b
is_same_body (body.Commit a) (body.Commit b) = is_same_commit a b
is_same_body (body.Ping a) (body.Ping b) = nat_eq a.number b.number
is_same_body (body.Pong a) (body.Pong b) = nat_eq a.to b.to && nat_eq a.number b.number
is_same_body (body.Rtt a) (body.Rtt b) = nat_eq a.to b.to && nat_eq a.number b.number && nat_eq a.ticks b.ticks
is_same_body (body.TatReport a) (body.TatReport b) = nat_eq a.v b.v && nat_eq a.ticks b.ticks
is_same_body (body.TatBound a) (body.TatBound b) = nat_eq a.v b.v && nat_eq a.ticks b.ticks
is_same_body (body.Suspect a) (body.Suspect b) = nat_eq a.v b.v
is_same_body (body.Report a) (body.Report b) = is_same_report a b
is_same_body (body.NewView a) (body.NewView b) = nat_eq a.v b.v && are_same_signed is_same_report a.reports b.reports
is_same_body (body.AskUpdate a) (body.AskUpdate b) = nat_eq a.j b.j && nat_eq a.k b.k
is_same_body (body.Give a) (body.Give b) = is_same_signed is_same_request a.request b.request
    && are_same_signed is_same_ack a.acks b.acks
is_same_body (body.AskOrder a) (body.AskOrder b) = nat_eq a.s b.s
is_same_body (body.GiveOrdered a) (body.GiveOrdered b) =
    nat_eq a.s b.s && nat_eq a.v b.v && are_same_rows a.rows b.rows
    && are_same_signed is_same_commit a.commits b.commits
is_same_body (body.Voucher a) (body.Voucher b) = nat_eq a.client b.client && nat_eq a.number b.number
    && is_same_order a.order b.order
is_same_body (body.Mark a) (body.Mark b) = is_same_mark a b
is_same_body _ _ = false
