-- A proxy as a state that follows from its own list of happenings.
use Rattle.std.specs.Prelude.{◌≡◌, ℕ, ◌+◌, true, List, [], ◌∷◌, ◌++◌, length, take, drop, replicate, map, Option, None}
use Rattle.std.specs.Prelude.{ℤ}
use Rattle.std.specs.List.{list_all}
use Rattle.message_types.specs.declared.updates.Op.{Op}
use Rattle.message_types.specs.declared.updates.Update.{Update}
use Rattle.message_types.specs.declared.vouchers.Order.{Order}
use Rattle.point_table.specs.declared.point.Area.{Area}
use Rattle.point_table.specs.declared.point.Point.{Point}
use Rattle.point_table.specs.declared.point.DeviceSizes.{DeviceSizes}
use Rattle.field_device.specs.Places.{Places, zeros, changed}
use Rattle.vouched_orders.specs.declared.vote.Vote.{Vote}
use Rattle.vouched_orders.specs.Vouching.{counted, done}
use Rattle.vouched_orders.specs.Tally.{Tally, IsTallyOf}
use Rattle.field_proxy.specs.declared.line.Exchange.{Exchange}
use Rattle.field_proxy.specs.declared.line.Line.{Line}
use Rattle.field_proxy.specs.declared.writes.Write.{Write}
use Rattle.field_proxy.specs.Exchanges.{asked, passed_for}
use Rattle.field_proxy.specs.Readings.{poll_requests, readings, last_in, told, numbered}
use Rattle.field_proxy.specs.Writes.{can_write, order_of, order_requests, after_orders, kept_orders}

-- its number among the clients, the masters' number, how many of them may be intruded, all points of the plant, what
-- the device holds, the line to it, the value last said of each point, how many updates were said, the votes taken that
-- count, the writes made
pub record Front : Type 0 where
  pub client : ℕ
  pub n : ℕ
  pub f : ℕ
  pub points : List Point
  pub places : Places
  pub line : Line
  pub lasts : List (Option ℤ)
  pub updates : ℕ
  pub votes : List Vote
  pub writes : List Write

-- before anything has happened
abbrev pub fresh : ℕ → ℕ → ℕ → List Point → DeviceSizes → Front
fresh client n f points sizes = record {
  client = client;
  n = n;
  f = f;
  points = points;
  places = zeros sizes;
  line = record { last = 0; passed = [] };
  lasts = replicate (length points) None;
  updates = 0;
  votes = [];
  writes = [];
}

-- a change in the field, at a place that is there
abbrev pub after_change : Front → Area → ℕ → ℕ → Front
after_change s area place value = record s { places = changed s.places area place value }

-- the readings that a poll says, where so many updates can still be said
unfoldable pub polled : Front → ℕ → List Op
polled s room = take room (readings s.places s.client s.points (last_in s.lasts))

-- a poll: what it says, and the state after it
abbrev pub poll_says : Front → ℕ → List Update
poll_says s room = numbered s.client (s.updates + 1) (polled s room)

abbrev pub after_poll : Front → ℕ → Front
after_poll s room = record s {
  line = asked s.line s.places (poll_requests s.client s.points);
  lasts = told s.lasts (polled s room);
  updates = s.updates + length (polled s room);
}

-- the votes taken once this one is: it counts for this client, and where the order is one that it can carry out
abbrev pub votes_with : Front → Vote → List Vote
votes_with s vote = s.votes ++ counted (can_write s.points s.client) s.client (vote ∷ [])

-- a voucher: the orders that it makes done are written
abbrev pub after_orders_done : Front → List Vote → List Order → Front
after_orders_done s votes orders = record s {
  votes = votes;
  places = after_orders s.points s.places orders;
  line = asked s.line s.places (order_requests s.points orders);
  writes = s.writes ++ kept_orders s.points s.places (length s.writes + 1) orders;
}

-- the orders that a vote makes done
abbrev pub orders_with : Front → Vote → List Order
orders_with s vote = drop (length s.writes) (done s.n s.f (votes_with s vote))

abbrev pub after_vote : Front → Vote → Front
after_vote s vote = after_orders_done s (votes_with s vote) (orders_with s vote)

-- what passes on the line for a poll, and for a voucher
abbrev pub poll_passes : Front → List Exchange
poll_passes s = passed_for s.line s.places (poll_requests s.client s.points)

abbrev pub vote_passes : Front → Vote → List Exchange
vote_passes s vote = passed_for s.line s.places (order_requests s.points (orders_with s vote))

-- what a proxy holds: as its front, but with a tally in place of the votes; and what passed for the last poll or voucher,
-- where memory was wanted before its end
pub record ProxyState : Type 0 where
  pub client : ℕ
  pub n : ℕ
  pub f : ℕ
  pub points : List Point
  pub places : Places
  pub line : Line
  pub lasts : List (Option ℤ)
  pub updates : ℕ
  pub tally : Tally
  pub writes : List Write
  pub broken_off : List Exchange

-- the front of a proxy that took these votes
abbrev pub front_with_votes : ProxyState → List Vote → Front
front_with_votes p votes = record {
  client = p.client;
  n = p.n;
  f = p.f;
  points = p.points;
  places = p.places;
  line = p.line;
  lasts = p.lasts;
  updates = p.updates;
  votes = votes;
  writes = p.writes;
}

-- This is the front of the proxy: the tally is that of its votes, each of which it can carry out, and the writes are
-- what they make done.
pub record IsFrontOf (p : ProxyState) (s : Front) : Type 0 where
  pub same : s ≡ front_with_votes p s.votes
  pub tally : IsTallyOf p.n p.f s.votes p.tally
  pub possible : list_all (λ vote. can_write p.points p.client vote.voucher.order) s.votes ≡ true
  pub written : map order_of p.writes ≡ done p.n p.f s.votes
