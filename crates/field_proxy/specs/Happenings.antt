-- What happens to a proxy. Its state and its words are functions of its own list of happenings.
use Rattle.std.specs.Prelude.{◌≡◌, ◌<◌, ℕ, nat_eq, if◌then◌else◌, List, [], ◌∷◌, ◌++◌, length, map, Option, Some}
use Rattle.std.specs.Prelude.{None, ℤ}
use Rattle.message_types.specs.declared.updates.Op.{Op}
use Rattle.message_types.specs.declared.updates.Op.TheVariants as op
use Rattle.message_types.specs.declared.updates.Update.{Update}
use Rattle.point_table.specs.declared.point.Area.{Area}
use Rattle.point_table.specs.declared.point.Point.{Point}
use Rattle.point_table.specs.declared.point.DeviceSizes.{DeviceSizes}
use Rattle.vouched_orders.specs.declared.vote.Vote.{Vote}
use Rattle.vouched_orders.specs.Vouching.{orders_done}
use Rattle.field_proxy.specs.Readings.{last_in}
use Rattle.field_proxy.specs.Writes.{can_write, order_of}
use Rattle.field_proxy.specs.Front.{Front, fresh, after_change, after_poll, poll_says, after_vote}

pub data Happening : Type 0 where
  -- a change in the field
  Changed : Area → (place value : ℕ) → Happening
  -- a poll, where so many updates can still be said
  Polled : (room : ℕ) → Happening
  -- a master's voucher
  Vouched : Vote → Happening

-- the state after one happening more
abbrev pub front_with : Front → Happening → Front
front_with s (Changed area place value) = after_change s area place value
front_with s (Polled room) = after_poll s room
front_with s (Vouched vote) = after_vote s vote

-- what a proxy says at a happening: polls alone have words
abbrev pub says : Front → Happening → List Update
says s (Changed area place value) = []
says s (Polled room) = poll_says s room
says s (Vouched vote) = []

-- the state after happenings, in turn
abbrev pub front_after : Front → List Happening → Front
front_after s [] = s
front_after s (h ∷ rest) = front_after (front_with s h) rest

-- what the proxy of a client says at a happening, after those before
abbrev pub proxy_says : (client n f : ℕ) → List Point → DeviceSizes → List Happening → Happening → List Update
proxy_says client n f points sizes before h = says (front_after (fresh client n f points sizes) before) h

-- the votes among happenings, whoever they are for
abbrev pub votes_of : List Happening → List Vote
votes_of [] = []
votes_of (Changed area place value ∷ rest) = votes_of rest
votes_of (Polled room ∷ rest) = votes_of rest
votes_of (Vouched vote ∷ rest) = vote ∷ votes_of rest

-- the writes of a proxy are the orders done on the votes that it took, whatever else happened
abbrev pub WritesAreDone : Type 0
WritesAreDone = (client n f : ℕ) (points : List Point) (sizes : DeviceSizes) (happenings : List Happening)
    → map order_of (front_after (fresh client n f points sizes) happenings).writes ≡ orders_done
    (can_write points client) client n f (votes_of happenings)

-- all that it said
abbrev pub all_said : Front → List Happening → List Update
all_said s [] = []
all_said s (h ∷ rest) = says s h ++ all_said (front_with s h) rest

-- the value last said for a point, where `before` was said before these updates
abbrev pub said_of : Op → ℕ → Option ℤ → Option ℤ
said_of (op.Reading point value) number before = if nat_eq point number then Some value else before
said_of _ number before = before

unfoldable pub last_said : Option ℤ → List Update → ℕ → Option ℤ
last_said before [] number = before
last_said before (u ∷ rest) number = last_said (said_of u.op number before) rest number

-- the values that a proxy compares its readings with are those that it last said
abbrev pub LastsAreSaid : Type 0
LastsAreSaid = (client n f : ℕ) (points : List Point) (sizes : DeviceSizes) (happenings : List Happening)
    (number : ℕ) → number < length points
    → last_in (front_after (fresh client n f points sizes) happenings).lasts number
    ≡ last_said None (all_said (fresh client n f points sizes) happenings) number
