-- Agreement as the clients of a plant see it, as statements over every setup whose orders the plant's rules make, and
-- every sound history: what a proxy wrote and what a screen shows begin the orders that some correct master's
-- executions make. (In the manner of Spire, whose field and screens act on what its masters agreed on; the plant's
-- rules are this project's own.)
use Rattle.std.specs.Prelude.{◌≡◌, ℕ, ◌+◌, true, List, Some, map, slice_get}
use Rattle.std.specs.List.{enumerate_from}
use Rattle.plain_lists.specs.Lists.{Begins}
use Rattle.message_types.specs.declared.updates.Update.{Update}
use Rattle.message_types.specs.declared.vouchers.Order.{Order}
use Rattle.message_types.specs.declared.vouchers.Order.TheVariants as order
use Rattle.point_table.specs.declared.point.DeviceSizes.{DeviceSizes}
use Rattle.history_rules.specs.Events.{Entry}
use Rattle.history_rules.specs.Setup.{Setup, is_correct_master}
use Rattle.history_rules.specs.Legal.{executions}
use Rattle.master_points.specs.declared.plant.Plant.{Plant}
use Rattle.master_points.specs.Orders.{orders}
use Rattle.field_proxy.specs.declared.writes.Write.{Write}
use Rattle.field_proxy.specs.Front.{fresh}
use Rattle.field_proxy.specs.Writes.{order_of}
use Rattle.field_proxy.specs.Happenings.{Happening, front_after, votes_of}
use Rattle.operator_screen.specs.Board.{board_of}
use Rattle.agreement.specs.Laws.{IsSound, IsVouched, votes_taken}

-- the orders of the setup are those that the plant's rules make
abbrev pub GoesByPlant : Setup → Plant → ℕ → Type 0
GoesByPlant w plant screens = (updates : List Update) (client : ℕ) →
    w.orders updates client ≡ orders plant screens updates client

-- these begin the orders that some correct master's executions at the end of the history make for the client
abbrev pub BeginOrders : Setup → Plant → ℕ → List Entry → ℕ → List Order → Type 0
BeginOrders w plant screens history client done =
    (i : ℕ) × (is_correct_master w i ≡ true) × Begins done (orders plant screens (executions w history i) client)

-- Orders of a client that are vouched for one by one, from number 1 on.
abbrev pub VouchedFollow : Type 0
VouchedFollow =
    (w : Setup) (plant : Plant) (screens : ℕ) (history : List Entry) (client : ℕ) → IsSound w history →
    GoesByPlant w plant screens
    → (done : List Order) → ((x : ℕ) (o : Order) → slice_get done x ≡ Some o → IsVouched w history client (x + 1) o)
    → BeginOrders w plant screens history client done

-- a write under its number, as the order that it was: of this raw value to this point
abbrev pub numbered_order : Write → ℕ × Order
numbered_order w = (w.number, order_of w)

-- What a proxy wrote, whatever happened in its field, where the vouchers that it took are those of its entries: its
-- writes, each under its number, begin the orders that some correct master's executions at the end of the history make
-- for it, numbered from 1 on. So write number x is the order that is number x of the proxy's.
abbrev pub WritesFollow : Type 0
WritesFollow =
    (w : Setup) (plant : Plant) (screens : ℕ) (history : List Entry) (proxy : ℕ) (sizes : DeviceSizes)
    (happenings : List Happening)
    → IsSound w history → GoesByPlant w plant screens → votes_of happenings ≡ votes_taken history (w.group.n + proxy)
    → (i : ℕ) × (is_correct_master w i ≡ true)
    × Begins (map numbered_order (front_after (fresh proxy w.group.n w.group.f plant.points sizes) happenings).writes)
    (enumerate_from 1 (orders plant screens (executions w history i) proxy))

-- What a screen shows, where the vouchers that it took are those of its entries.
abbrev pub BoardFollows : Type 0
BoardFollows =
    (w : Setup) (plant : Plant) (screens : ℕ) (history : List Entry) (screen : ℕ) → IsSound w history →
    GoesByPlant w plant screens
    → BeginOrders w plant screens history screen
    (map (λ n. order.Notice n) (board_of screen w.group.n w.group.f (votes_taken history (w.group.n + screen))))
