-- What a master is made with, and what it says at an event: all that the rules make it say, cut to what its leaves can
-- sign.
use Rattle.std.specs.Prelude.{◌≡◌, ℕ, ◌+◌, ◌-◌, Bool, List, Option, length, map, nat_eq, take}
use Rattle.std.specs.List.{flat_map}
use Rattle.message_types.specs.declared.signed.Signed.{Signed}
use Rattle.message_types.specs.declared.updates.Update.{Update}
use Rattle.message_types.specs.declared.vouchers.Order.{Order}
use Rattle.message_types.specs.declared.body.Body.{Body}
use Rattle.protocol_rules.specs.Group.{Group, group_of}
use Rattle.master_points.specs.Orders.{orders}
use Rattle.scenario_file.specs.declared.scenario.Scenario.{Scenario}
use Rattle.protocol_rules.specs.Master.{Heard, taken_frames, answers}
use Rattle.history_rules.specs.Leaves.{leaves_of, room_of}

-- the group and the master's number in it, the orders that the plant's rules make of executed updates, how many leaves
-- the master has, and whether up to 32 bodies of one event share a leaf
pub record Charge : Type 0 where
  pub group : Group
  pub me : ℕ
  pub orders : List Update → ℕ → List Order
  pub leaves : ℕ
  pub shared_leaves : Bool

-- how many leaves these events used
abbrev pub leaves_used : Bool → List Heard → ℕ
leaves_used shared before = leaves_of shared (map (λ e. length e.said) before)

abbrev pub leaves_left : Charge → List Heard → ℕ
leaves_left c before = c.leaves - leaves_used c.shared_leaves before

-- what the master says at an event after these
unfoldable pub says_at : Charge → List Heard → Option (Signed Body) → Bool → List Body
says_at c before took at_tick = take (room_of c.shared_leaves (leaves_left c before))
    (answers c.group c.orders c.me before took at_tick)

-- the frames taken at these events
abbrev pub taken_by : List Heard → List (Signed Body)
taken_by before = flat_map (λ e. taken_frames e.took) before

-- The charge of a scenario's master with so many leaves: the orders are those that the scenario's plant makes.
pub record IsChargeOf (scenario : Scenario) (number given : ℕ) (c : Charge) : Type 0 where
  pub group : c.group ≡ group_of scenario.sizes (length scenario.plant.devices + scenario.screens)
  pub me : c.me ≡ number
  pub orders : (updates : List Update) (client : ℕ) →
      c.orders updates client ≡ orders scenario.plant scenario.screens updates client
  pub leaves : c.leaves ≡ given
  pub shared : c.shared_leaves ≡ nat_eq scenario.frames 2
