-- What a screen has done, and what it shows: the notices among the orders done. A vote with a write counts for nothing
-- there.
use Rattle.std.specs.Prelude.{◌≡◌, ℕ, Bool, true, false, List, [], ◌∷◌}
use Rattle.std.specs.List.{flat_map}
use Rattle.message_types.specs.declared.vouchers.Notice.{Notice}
use Rattle.message_types.specs.declared.vouchers.Order.{Order}
use Rattle.message_types.specs.declared.vouchers.Order.TheVariants as order
use Rattle.vouched_orders.specs.declared.vote.Vote.{Vote}
use Rattle.vouched_orders.specs.Vouching.{done, orders_done}
use Rattle.vouched_orders.specs.Tally.{Tally, IsTallyOf}

abbrev pub is_notice : Order → Bool
is_notice (order.Notice n) = true
is_notice (order.Write p r) = false

abbrev pub notice_in : Order → List Notice
notice_in (order.Notice n) = n ∷ []
notice_in (order.Write p r) = []

-- the notices among orders
abbrev pub notices : List Order → List Notice
notices orders = flat_map notice_in orders

-- the board of a screen of n masters at the end of a list of votes, whoever they are for
abbrev pub board_of : (client n f : ℕ) → List Vote → List Notice
board_of client n f votes = notices (orders_done is_notice client n f votes)

-- a screen: its number, the masters' number, how many of them may be intruded, how many commands were given, and the
-- votes taken that count
pub record Desk : Type 0 where
  pub client : ℕ
  pub n : ℕ
  pub f : ℕ
  pub commands : ℕ
  pub votes : List Vote

-- what a screen holds: as its desk, but with a tally in place of the votes, and with what it shows
pub record ScreenState : Type 0 where
  pub client : ℕ
  pub n : ℕ
  pub f : ℕ
  pub commands : ℕ
  pub tally : Tally
  pub board : List Notice

-- the desk of a screen that took these votes
abbrev pub desk_with : ScreenState → List Vote → Desk
desk_with p votes = record { client = p.client; n = p.n; f = p.f; commands = p.commands; votes = votes }

-- This is the desk of the screen: the tally is that of its votes, and the board shows what they make done.
pub record IsDeskOf (p : ScreenState) (s : Desk) : Type 0 where
  pub same : s ≡ desk_with p s.votes
  pub tally : IsTallyOf p.n p.f s.votes p.tally
  pub board : p.board ≡ notices (done p.n p.f s.votes)
