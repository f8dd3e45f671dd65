-- The plant after executed updates, and the orders that these give each client. (This project's own, after Spire.)
use Rattle.std.specs.Prelude.{◌≡◌, ℕ, ◌+◌, ◌==◌, ◌<◌, ◌≤◌, if◌then◌else◌, List, [], ◌∷◌, ◌++◌, length, replicate}
use Rattle.std.specs.Prelude.{slice_get, Some}
use Rattle.message_types.specs.declared.updates.Update.{Update}
use Rattle.message_types.specs.declared.vouchers.Order.{Order}
use Rattle.point_table.specs.declared.point.Point.{Point}
use Rattle.point_table.specs.Table.{start_values, AreUsable}
use Rattle.alarm_rules.specs.Board.{quiet}
use Rattle.master_points.specs.declared.effect.Addressed.{Addressed}
use Rattle.master_points.specs.declared.plant.Plant.{Plant}
use Rattle.master_points.specs.declared.limits.TheConstants.{MOST_INTERLOCKS, MOST_PROXIES, MOST_SCREENS}
use Rattle.master_points.specs.Effects.{Site, State, settled, effect}
use Rattle.master_points.specs.Lists.{given}

abbrev pub site_of : Plant → ℕ → Site
site_of plant screens = record { devices = length plant.devices; screens = screens; interlocks = plant.interlocks }

-- the points at their start values, and no alarm raised
abbrev pub start_of : Plant → State
start_of plant = record {
  table = record { points = plant.points; values = start_values plant.points };
  board = record { rules = plant.alarms; states = quiet plant.alarms };
}

-- the state after executed updates
abbrev pub state_after : Site → State → List Update → State
state_after site s [] = s
state_after site s (u ∷ us) = state_after site (settled (effect site s u).step s) us

-- all orders of executed updates, in order
abbrev pub said_by : Site → State → List Update → List Addressed
said_by site s [] = []
said_by site s (u ∷ us) = (effect site s u).orders ++ said_by site (settled (effect site s u).step s) us

-- the orders for one client
abbrev pub orders_for : ℕ → List Addressed → List Order
orders_for client [] = []
orders_for client (a ∷ as') = if a.client == client then a.order ∷ orders_for client as' else orders_for client as'

-- a client's orders after a list of executed updates
unfoldable pub orders : Plant → ℕ → List Update → ℕ → List Order
orders plant screens updates client = orders_for client (said_by (site_of plant screens) (start_of plant) updates)

-- what a master holds
pub record Held : Type 0 where
  pub site : Site
  pub state : State
  pub lists : List (List Order)

-- a master before any update
abbrev pub fresh : Plant → ℕ → Held
fresh plant screens = record {
  site = site_of plant screens;
  state = start_of plant;
  lists =
      replicate (length plant.devices + screens) [];
}

-- a master after one update more
abbrev pub applied : Held → Update → Held
applied h u = let e = effect h.site h.state u in
    record { site = h.site; state = settled e.step h.state; lists = given e.orders h.lists }

-- each point belongs to a proxy that is there
abbrev pub AreOwned : ℕ → List Point → Type 0
AreOwned devices [] = Unit {0}
AreOwned devices (p ∷ ps) = (p.proxy < devices) × AreOwned devices ps

-- a plant within the limits of a scenario
pub record IsPlant (plant : Plant) (screens : ℕ) : Type 0 where
  pub devices : length plant.devices ≤ MOST_PROXIES
  pub points : length plant.points ≤ 1024
  pub usable : AreUsable plant.points
  pub owned : AreOwned (length plant.devices) plant.points
  pub alarms : length plant.alarms ≤ 256
  pub interlocks : length plant.interlocks ≤ MOST_INTERLOCKS
  pub shown : screens ≤ MOST_SCREENS

-- a master after executed updates
abbrev pub held_after : Held → List Update → Held
held_after h [] = h
held_after h (u ∷ us) = held_after (applied h u) us

-- a longer list of updates only appends orders
abbrev pub OnlyAppends : Type 0
OnlyAppends = (plant : Plant) (screens : ℕ) (us more : List Update) (client : ℕ) → (added : List Order)
    × (orders plant screens (us ++ more) client ≡ orders plant screens us client ++ added)

-- what a master holds for a client after executed updates are the client's orders
abbrev pub HoldsOrders : Type 0
HoldsOrders = (plant : Plant) (screens : ℕ) (us : List Update) (client : ℕ) →
    client < length plant.devices + screens → slice_get (held_after (fresh plant screens) us).lists client ≡ Some
    (orders plant screens us client)
