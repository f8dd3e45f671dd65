-- What an executed update does to the plant as a master keeps it, and which orders it gives (this project's
-- own rules). Clients are numbered from the proxies on; the screens come behind them.
use Rattle.std.specs.Prelude.{◌≡◌, ℕ, zero, suc, ◌==◌, nat_lt, Bool, true, false, ◌&&◌, if◌then◌else◌, List, [], ◌∷◌}
use Rattle.std.specs.Prelude.{◌++◌, Option, Some, None, ℤ, slice_get, slice_set, position, IsSomeAnd}
use Rattle.std.specs.Ordering.{int_eq}
use Rattle.message_types.specs.declared.updates.Op.{Op}
use Rattle.message_types.specs.declared.updates.Op.TheVariants as op
use Rattle.message_types.specs.declared.updates.Update.{Update}
use Rattle.message_types.specs.declared.vouchers.NoticeKind.{NoticeKind}
use Rattle.message_types.specs.declared.vouchers.NoticeKind.TheVariants as kind
use Rattle.message_types.specs.declared.vouchers.Order.{Order}
use Rattle.message_types.specs.declared.vouchers.Order.TheVariants as order
use Rattle.point_table.specs.declared.point.Point.{Point}
use Rattle.point_table.specs.Point.{is_within, is_writable, raw_of}
use Rattle.point_table.specs.Table.{Table}
use Rattle.alarm_rules.specs.declared.alarms.Change.{Change}
use Rattle.alarm_rules.specs.declared.alarms.Change.TheVariants as change
use Rattle.alarm_rules.specs.declared.alarm.AlarmState.TheVariants.{Acknowledged}
use Rattle.alarm_rules.specs.Board.{Board, changes, seen, is_raised_at}
use Rattle.interlocks.specs.declared.interlock.Interlock.{Interlock}
use Rattle.interlocks.specs.Formula.{holds}
use Rattle.master_points.specs.declared.effect.Addressed.{Addressed}
use Rattle.master_points.specs.declared.effect.Step.{Step}
use Rattle.master_points.specs.declared.effect.Step.TheVariants.{Keep, Read, Acknowledge}
use Rattle.master_points.specs.declared.effect.Effect.{Effect}
use Rattle.master_points.specs.declared.effect.Verdict.{Verdict}
use Rattle.master_points.specs.declared.effect.Verdict.TheVariants as verdict

-- what stays: how many proxies and screens there are, and the interlocks
pub record Site : Type 0 where
  pub devices : ℕ
  pub screens : ℕ
  pub interlocks : List Interlock

-- what updates change: the points' values and the alarms' states
pub record State : Type 0 where
  pub table : Table
  pub board : Board

-- the state after a step
abbrev pub settled : Step → State → State
settled Keep s = s
settled (Read p v) s = record {
  table = record { points = s.table.points; values = slice_set s.table.values p v };
  board = record { rules = s.board.rules; states = seen p v s.board.rules s.board.states };
}
settled (Acknowledge a) s =
    record {
      table = s.table;
      board =
          record { rules = s.board.rules; states = slice_set s.board.states a Acknowledged };
    }

abbrev pub notice : NoticeKind → ℕ → ℕ → Order
notice what t number = order.Notice (record { what = what; t = t; number = number })

-- one order for each of n clients from a first one on
abbrev pub to_each : ℕ → ℕ → Order → List Addressed
to_each first zero o = []
to_each first (suc n) o = record { client = first; order = o } ∷ to_each (suc first) n o

abbrev pub change_notice : Change → Order
change_notice (change.Raised a) = notice kind.Raised 0 a
change_notice (change.Cleared a) = notice kind.Cleared 0 a

-- each change gives each screen a notice, screens in order
abbrev pub change_orders : Site → List Change → List Addressed
change_orders site [] = []
change_orders site (c ∷ cs) = to_each site.devices site.screens (change_notice c) ++ change_orders site cs

abbrev pub nothing : Effect
nothing = record { orders = []; step = Keep }

-- whether a reading is by the point's own proxy, of a value within the point's bounds
abbrev pub is_own_within : ℕ → ℤ → Option Point → Bool
is_own_within client v None = false
is_own_within client v (Some p) = (p.proxy == client) && is_within p v

-- a reading by the point's own proxy counts; nothing else that a proxy says does
abbrev pub from_proxy : Site → State → ℕ → Op → Effect
from_proxy site s client (op.Reading p v) = if is_own_within client v (slice_get s.table.points p)
    then record {
      orders = change_orders site (changes p v 0 s.board.rules s.board.states);
      step = Read p v;
    } else nothing
from_proxy site s client _ = nothing

abbrev pub is_for : Option ℤ → ℤ → Bool
is_for None v = true
is_for (Some w) v = int_eq w v

-- whether an interlock denies setting a point to a value
abbrev pub denies : State → ℕ → ℤ → Interlock → Bool
denies s p v lock = (lock.point == p) && is_for lock.value v && holds lock.deny s.table s.board

abbrev pub unless_denied : Point → ℕ → Option ℕ → Verdict
unless_denied p raw (Some i) = verdict.Denied i
unless_denied p raw None = verdict.Write p.proxy raw

abbrev pub if_in_range : Site → State → ℕ → ℤ → Point → Option ℕ → Verdict
if_in_range site s number v p None = verdict.OutOfRange
if_in_range site s number v p (Some raw) = unless_denied p raw (position (denies s number v) site.interlocks)

-- what becomes of a command to set a point, tried in this order: the point is there; it can be written; a raw
-- value stands for the value; no interlock denies it, the first one that does is named
abbrev pub verdict_on : Site → State → ℕ → ℤ → Option Point → Verdict
verdict_on site s number v None = verdict.NoPoint
verdict_on site s number v (Some p) = if is_writable p.area then if_in_range site s number v p
    (raw_of p v) else verdict.NotWritable

-- the one notice that a screen's command gives it
abbrev pub reply : ℕ → NoticeKind → ℕ → ℕ → List Addressed
reply client what t number = record { client = client; order = notice what t number } ∷ []

-- the orders of a set: a write comes before its notice
abbrev pub set_orders : ℕ → ℕ → ℕ → Verdict → List Addressed
set_orders client t number verdict.NoPoint = reply client kind.NoPoint t number
set_orders client t number verdict.NotWritable = reply client kind.NotWritable t number
set_orders client t number verdict.OutOfRange = reply client kind.OutOfRange t number
set_orders client t number (verdict.Denied i) = reply client kind.Denied t i
set_orders client t number (verdict.Write proxy raw) = record { client = proxy; order = order.Write number raw }
    ∷ reply client kind.Done t 0

-- each update of a screen gives it one notice. A set changes no value
abbrev pub from_screen : Site → State → ℕ → ℕ → Op → Effect
from_screen site s client t (op.Reading p v) = record { orders = reply client kind.WrongPart t 0; step = Keep }
from_screen site s client t (op.Ack a) = if is_raised_at s.board.states a
    then record { orders = reply client kind.Done t 0; step = Acknowledge a } else record {
      orders =
          reply client kind.NoAlarm t a;
      step = Keep;
    }
from_screen site s client t (op.Set p v) =
    record { orders = set_orders client t p (verdict_on site s p v (slice_get s.table.points p)); step = Keep }

-- what an executed update does
abbrev pub effect : Site → State → Update → Effect
effect site s u = if nat_lt u.client site.devices then from_proxy site s u.client u.op else
    from_screen site s u.client u.t u.op

-- whether a step can be made: the point is there and the value within its bounds; the alarm is raised
abbrev pub IsPossible : State → Step → Type 0
IsPossible s Keep = Unit {0}
IsPossible s (Read p v) = IsSomeAnd (slice_get s.table.points p) (λ q. is_within q v ≡ true)
IsPossible s (Acknowledge a) = is_raised_at s.board.states a ≡ true
