-- Each number within the field that it is written in, and each digest of 32 bytes. A value of the program's types
-- always is so; definitions, whose numbers have no bound, say it.
use Rattle.std.specs.Prelude.{◌≡◌, ◌<◌, ◌^◌, ℕ, List, [], ◌∷◌, length, FitsSigned}
use Rattle.std.specs.Int.{w64}
use Rattle.std.specs.List.{AllByRecursion}
use Rattle.message_types.specs.declared.signed.Signed.{Signed}
use Rattle.message_types.specs.declared.updates.Op.{Op}
use Rattle.message_types.specs.declared.updates.Op.TheVariants as op
use Rattle.message_types.specs.declared.updates.Update.{Update}
use Rattle.message_types.specs.declared.preordering.PoRequest.{PoRequest}
use Rattle.message_types.specs.declared.preordering.PoAck.{PoAck}
use Rattle.message_types.specs.declared.preordering.PoSummary.{PoSummary}
use Rattle.message_types.specs.declared.ordering.PrePrepare.{PrePrepare}
use Rattle.message_types.specs.declared.ordering.Prepare.{Prepare}
use Rattle.message_types.specs.declared.ordering.Commit.{Commit}
use Rattle.message_types.specs.declared.ordering.Mark.{Mark}
use Rattle.message_types.specs.declared.ordering.Certificate.{Certificate}
use Rattle.message_types.specs.declared.views.Report.{Report}
use Rattle.message_types.specs.declared.views.NewView.{NewView}
use Rattle.message_types.specs.declared.reconciling.Give.{Give}
use Rattle.message_types.specs.declared.reconciling.GiveOrdered.{GiveOrdered}
use Rattle.message_types.specs.declared.vouchers.Notice.{Notice}
use Rattle.message_types.specs.declared.vouchers.Order.{Order}
use Rattle.message_types.specs.declared.vouchers.Order.TheVariants as order
use Rattle.message_types.specs.declared.vouchers.Voucher.{Voucher}
use Rattle.message_types.specs.declared.body.Body.{Body}
use Rattle.message_types.specs.declared.body.Body.TheVariants as body

-- a list of bytes, as every slice of bytes is
abbrev pub IsBytes : List ℕ → Type 0
IsBytes [] = Unit {0}
IsBytes (b ∷ bytes) = (b < 256) × IsBytes bytes

abbrev pub Is32 : ℕ → Type 0
Is32 x = x < 2 ^ 32

abbrev pub Is64 : ℕ → Type 0
Is64 x = x < 2 ^ 64

abbrev pub IsDigest : List ℕ → Type 0
IsDigest bytes = length bytes ≡ 32

abbrev pub FitsSigner : {B : Type 0} → (B → Type 0) → Signed B → Type 0
FitsSigner FitsBody f = Is32 f.signer × FitsBody f.body

abbrev pub FitsSigners : {B : Type 0} → (B → Type 0) → List (Signed B) → Type 0
FitsSigners FitsBody fs = AllByRecursion (FitsSigner FitsBody) fs

abbrev pub FitsOp : Op → Type 0
FitsOp (op.Reading point value) = Is32 point × FitsSigned w64 value
FitsOp (op.Set point value) = Is32 point × FitsSigned w64 value
FitsOp (op.Ack alarm) = Is32 alarm

abbrev pub FitsUpdate : Update → Type 0
FitsUpdate b = Is32 b.client × (Is64 b.t × FitsOp b.op)

abbrev pub FitsRequest : PoRequest → Type 0
FitsRequest b = Is64 b.k × FitsSigner FitsUpdate b.update

abbrev pub FitsAck : PoAck → Type 0
FitsAck b = Is32 b.j × (Is64 b.k × IsDigest b.digest)

abbrev pub FitsRow : List ℕ → Type 0
FitsRow row = AllByRecursion Is64 row

abbrev pub FitsRows : List (List ℕ) → Type 0
FitsRows rows = AllByRecursion FitsRow rows

abbrev pub FitsSummary : PoSummary → Type 0
FitsSummary b = FitsRow b.numbers

abbrev pub FitsPrePrepare : PrePrepare → Type 0
FitsPrePrepare b = Is64 b.v × (Is64 b.s × FitsSigners FitsSummary b.frames)

abbrev pub FitsPrepare : Prepare → Type 0
FitsPrepare b = Is64 b.v × (Is64 b.s × IsDigest b.digest)

abbrev pub FitsCommit : Commit → Type 0
FitsCommit b = Is64 b.v × (Is64 b.s × IsDigest b.digest)

abbrev pub FitsMark : Mark → Type 0
FitsMark b = Is64 b.s

abbrev pub FitsCertificate : Certificate → Type 0
FitsCertificate c = Is64 c.s × (Is64 c.v × (FitsRows c.rows × FitsSigners FitsPrepare c.prepares))

abbrev pub FitsReport : Report → Type 0
FitsReport b = Is64 b.v × (Is64 b.base × (FitsSigners FitsMark b.marks × AllByRecursion FitsCertificate b.certificates))

abbrev pub FitsNewView : NewView → Type 0
FitsNewView b = Is64 b.v × FitsSigners FitsReport b.reports

abbrev pub FitsGive : Give → Type 0
FitsGive b = FitsSigner FitsRequest b.request × FitsSigners FitsAck b.acks

abbrev pub FitsGiveOrdered : GiveOrdered → Type 0
FitsGiveOrdered b = Is64 b.s × (Is64 b.v × (FitsRows b.rows × FitsSigners FitsCommit b.commits))

abbrev pub FitsNotice : Notice → Type 0
FitsNotice n = Is64 n.t × Is32 n.number

abbrev pub FitsOrder : Order → Type 0
FitsOrder (order.Write point raw) = Is32 point × (raw < 2 ^ 16)
FitsOrder (order.Notice n) = FitsNotice n

abbrev pub FitsVoucher : Voucher → Type 0
FitsVoucher b = Is32 b.client × (Is64 b.number × FitsOrder b.order)

abbrev pub FitsBody : Body → Type 0
FitsBody (body.Update b) = FitsUpdate b
FitsBody (body.PoRequest b) = FitsRequest b
FitsBody (body.PoAck b) = FitsAck b
FitsBody (body.PoSummary b) = FitsSummary b
FitsBody (body.PrePrepare b) = FitsPrePrepare b
FitsBody (body.Prepare b) = FitsPrepare b
FitsBody (body.Commit b) = FitsCommit b
FitsBody (body.Ping b) = Is64 b.number
FitsBody (body.Pong b) = Is32 b.to × Is64 b.number
FitsBody (body.Rtt b) = Is32 b.to × (Is64 b.number × Is64 b.ticks)
FitsBody (body.TatReport b) = Is64 b.v × Is64 b.ticks
FitsBody (body.TatBound b) = Is64 b.v × Is64 b.ticks
FitsBody (body.Suspect b) = Is64 b.v
FitsBody (body.Report b) = FitsReport b
FitsBody (body.NewView b) = FitsNewView b
FitsBody (body.AskUpdate b) = Is32 b.j × Is64 b.k
FitsBody (body.Give b) = FitsGive b
FitsBody (body.AskOrder b) = Is64 b.s
FitsBody (body.GiveOrdered b) = FitsGiveOrdered b
FitsBody (body.Voucher b) = FitsVoucher b
FitsBody (body.Mark b) = FitsMark b

-- of a frame
abbrev pub FitsFields : Signed Body → Type 0
FitsFields f = FitsSigner FitsBody f
