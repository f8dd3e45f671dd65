-- The names of areas, kinds of bodies and notices in printed runs. (This project's own.)
use Rattle.std.specs.Prelude.{ℕ, codes, List, [], ◌∷◌, Option}
use Rattle.std.specs.List.{find}
use Rattle.std.specs.Str.{bytes_eq}
use Rattle.message_types.specs.declared.body.Body.{Body}
use Rattle.message_types.specs.declared.body.Body.TheVariants as body
use Rattle.message_types.specs.declared.vouchers.NoticeKind.{NoticeKind}
use Rattle.message_types.specs.declared.vouchers.NoticeKind.TheVariants as notice
use Rattle.point_table.specs.declared.point.Area.{Area}
use Rattle.point_table.specs.declared.point.Area.TheVariants as area
use Rattle.script_grammar.specs.declared.kinds.Kind.{Kind}
use Rattle.script_grammar.specs.declared.kinds.Kind.TheVariants as kind

abbrev pub area_name : Area → List ℕ
area_name area.Coil = codes "coil"
area_name area.Discrete = codes "discrete"
area_name area.Holding = codes "holding"
area_name area.Input = codes "input"

abbrev pub areas : List Area
areas = area.Coil ∷ area.Discrete ∷ area.Holding ∷ area.Input ∷ []

-- the area that has a name
unfoldable pub area_named : List ℕ → Option Area
area_named name = find (λ a. bytes_eq (area_name a) name) areas

abbrev pub notice_name : NoticeKind → List ℕ
notice_name notice.Done = codes "done"
notice_name notice.Denied = codes "denied"
notice_name notice.NoPoint = codes "nopoint"
notice_name notice.OutOfRange = codes "outofrange"
notice_name notice.NotWritable = codes "notwritable"
notice_name notice.NoAlarm = codes "noalarm"
notice_name notice.Raised = codes "raised"
notice_name notice.Cleared = codes "cleared"
notice_name notice.WrongPart = codes "wrongpart"

-- what kind of body it is
abbrev pub kind_of : Body → Kind
kind_of (body.Update b) = kind.Update
kind_of (body.PoRequest b) = kind.PoRequest
kind_of (body.PoAck b) = kind.PoAck
kind_of (body.PoSummary b) = kind.PoSummary
kind_of (body.PrePrepare b) = kind.PrePrepare
kind_of (body.Prepare b) = kind.Prepare
kind_of (body.Commit b) = kind.Commit
kind_of (body.Ping b) = kind.Ping
kind_of (body.Pong b) = kind.Pong
kind_of (body.Rtt b) = kind.Rtt
kind_of (body.TatReport b) = kind.TatReport
kind_of (body.TatBound b) = kind.TatBound
kind_of (body.Suspect b) = kind.Suspect
kind_of (body.Report b) = kind.Report
kind_of (body.NewView b) = kind.NewView
kind_of (body.AskUpdate b) = kind.AskUpdate
kind_of (body.Give b) = kind.Give
kind_of (body.AskOrder b) = kind.AskOrder
kind_of (body.GiveOrdered b) = kind.GiveOrdered
kind_of (body.Voucher b) = kind.Voucher
kind_of (body.Mark b) = kind.Mark
