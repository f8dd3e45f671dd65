-- The lanes of the rules that stay alive: how far the requests of each master had their turn. (This project's own.)
use Rattle.std.specs.Prelude.{◌≡◌, ℕ, ◌≤◌, ◌<◌, true, List, [], IsSome, length, slice_index, if◌then◌else◌}
use Rattle.std.specs.List.{list_any, filter_map, flat_map, slice_index_or}
use Rattle.message_types.specs.declared.signed.Signed.{Signed}
use Rattle.message_types.specs.declared.body.Body.{Body}
use Rattle.quorum_sets.specs.declared.limits.TheConstants.{MOST_CLIENTS, MOST_MASTERS}
use Rattle.protocol_rules.specs.Group.{Group, most_number}
use Rattle.protocol_rules.specs.Words.{greatest_of, numbers_from}
use Rattle.protocol_rules.specs.Preorder.{acks, ack_due}
use Rattle.protocol_rules.specs.Turns.{first_requested, number_for, has_turn}
use Rattle.preorder.specs.declared.lanes.Lane.{Lane}

-- the greatest number of the client's updates that requests (j, 1) to (j, k) introduce
abbrev pub greatest_to : List (Signed Body) → ℕ → ℕ → ℕ → ℕ
greatest_to known c j k = greatest_of (filter_map (number_for known c j) (numbers_from 1 k))

-- the requests of master j up to `seen` are known without a gap, and of these is the greatest number of each client
pub record IsLane (g : Group) (known : List (Signed Body)) (j : ℕ) (lane : Lane) : Type 0 where
  pub limit : lane.seen ≤ most_number
  pub without_gap : (k : ℕ) → 1 ≤ k → k ≤ lane.seen → IsSome (first_requested known j k)
  pub clients : length lane.greatest ≡ MOST_CLIENTS
  pub greatest : (c : ℕ) → c < g.clients → slice_index lane.greatest c ≡ greatest_to known c j lane.seen

-- of the requests of master j up to `seen` each that has its turn was acknowledged
abbrev pub IsAcknowledged : Group → List (Signed Body) → List Body → ℕ → ℕ → Type 0
IsAcknowledged g known said j seen =
    (k : ℕ) → 1 ≤ k → k ≤ seen → has_turn g known j k ≡ true → list_any (acks j k) said ≡ true

-- the lane of master j
abbrev pub lane_at : List Lane → ℕ → Lane
lane_at lanes j = slice_index_or lanes j record { seen = 0; greatest = [] }

-- a lane for each master
pub record AreLanes (g : Group) (known : List (Signed Body)) (lanes : List Lane) : Type 0 where
  pub masters : length lanes ≡ MOST_MASTERS
  pub lane : (j : ℕ) → j < MOST_MASTERS → IsLane g known j (lane_at lanes j)

-- and all that had its turn in them was acknowledged
pub record HasLanes (g : Group) (known : List (Signed Body)) (said : List Body) (lanes : List Lane) : Type 0 where
  pub each : AreLanes g known lanes
  pub acknowledged : (j : ℕ) → j < MOST_MASTERS → IsAcknowledged g known said j (lane_at lanes j).seen

-- the acknowledgement due for (j, k), where it has its turn
abbrev pub ack_in_turn_due : Group → List (Signed Body) → List Body → ℕ → ℕ → List Body
ack_in_turn_due g known said j k = if has_turn g known j k then ack_due known said j k else []

-- those of master j
abbrev pub lane_acks_due : Group → List (Signed Body) → List Body → ℕ → List Body
lane_acks_due g known said j = flat_map (λ k. ack_in_turn_due g known said j k) (numbers_from 1 most_number)
