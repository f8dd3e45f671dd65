-- What an actor's own list comes to, without stamps and without where its frames were said.
use Rattle.std.proofs.Common.{◌≡◌, ℕ, ◌+◌, Bool, cond, ◌&&◌, List, [], ◌∷◌, ◌++◌, Option, length, map}
use Rattle.std.proofs.Common.{nat_le, refl, ap}
use Rattle.std.specs.List.{list_any, flat_map}
use Rattle.message_types.specs.declared.signed.Signed.{Signed}
use Rattle.message_types.specs.declared.body.Body.{Body}
use Rattle.protocol_rules.specs.Master.{Heard}
use Rattle.master_points.specs.declared.plant.Plant.{Plant}
use Rattle.vouched_orders.specs.Vouching.{votes_in, counted}
use Rattle.field_proxy.specs.Front.{fresh}
use Rattle.field_proxy.specs.Happenings.{Happening, front_after}
use Rattle.operator_screen.specs.Board.{Desk, is_notice}
use Rattle.history_rules.specs.Events.{Entry}
use Rattle.history_rules.specs.Setup.{Setup, heard_from, signed_from, leaves_used}
use Rattle.history_rules.specs.Keeping.{KeeperCall, Reading, Append, keeper_calls, is_halted}
use Rattle.history_rules.specs.Leaves.{leaves_for, leaves_of}
use Rattle.history_rules.specs.Legal.{heard_in}
use Rattle.history_rules.specs.Audit.{parts_taken}
use Rattle.world_rules.specs.Clients.{happenings_of, device_of, front_of, desk_of}
use Rattle.joint_lists.specs.Plain.{plain}
use Rattle.joint_lists.proofs.PlainEvents.{taken_plain, tick_plain, silent_plain, restart_plain, parts_plain}
use Rattle.joint_lists.proofs.PlainEvents.{happenings_plain}

calls_plain : (list : List Entry) → keeper_calls (map plain list) ≡ keeper_calls list
calls_plain [] = refl
calls_plain (e ∷ list) = λ i. cond (restart_plain e.event i) (Reading ∷ Append ∷ []) (Append ∷ []) ++ calls_plain list i

pub halted_plain : (w : Setup) (actor : ℕ) (list : List Entry) →
    is_halted w actor (map plain list) ≡ is_halted w actor list
halted_plain w actor list =
    ap (λ (calls : List KeeperCall). list_any (λ x. nat_le 1 x && nat_le x (length calls)) (w.failing actor))
    (calls_plain list)

sizes_plain : (list : List Entry) → map (λ e. length e.said) (map plain list) ≡ map (λ e. length e.said) list
sizes_plain [] = refl
sizes_plain (e ∷ list) = ap (λ (ns : List ℕ). length e.said ∷ ns) (sizes_plain list)

pub leaves_plain : (w : Setup) (list : List Entry) → leaves_used w (map plain list) ≡ leaves_used w list
leaves_plain w list = ap (leaves_of w.shared_leaves) (sizes_plain list)

-- what a master heard at an event, unless it is silent
abbrev heard_before : Bool → Option (Signed Body) → Bool → List (Signed Body) → List Heard → List Heard
heard_before silent took tick said rest = cond silent rest (record { took = took; is_tick = tick; said = said } ∷ rest)

heard_from_plain : (w : Setup) (master used : ℕ) (list : List Entry) →
    heard_from w master used (map plain list) ≡ heard_from w master used list
heard_from_plain w master used [] = refl
heard_from_plain w master used (e ∷ list) =
    λ i. heard_before (silent_plain e.event i) (taken_plain e.event i) (tick_plain e.event i)
    (signed_from w master used e.said 0 e.said)
    (heard_from_plain w master (used + leaves_for w.shared_leaves (length e.said)) list i)

pub heard_plain : (w : Setup) (master : ℕ) (list : List Entry) →
    heard_in w master (map plain list) ≡ heard_in w master list
unfolding heard_in
heard_plain w master list = heard_from_plain w master 0 list

all_happenings : (list : List Entry) → flat_map happenings_of (map plain list) ≡ flat_map happenings_of list
all_happenings [] = refl
all_happenings (e ∷ list) = λ i. happenings_plain e i ++ all_happenings list i

pub front_plain : (n f : ℕ) (plant : Plant) (client : ℕ) (list : List Entry) →
    front_of n f plant client (map plain list) ≡ front_of n f plant client list
unfolding front_of
front_plain n f plant client list =
    ap (λ (hs : List Happening). front_after (fresh client n f plant.points (device_of plant client)) hs)
    (all_happenings list)

all_said : (list : List Entry) → flat_map (λ e. e.said) (map plain list) ≡ flat_map (λ e. e.said) list
all_said [] = refl
all_said (e ∷ list) = ap (λ (bs : List Body). e.said ++ bs) (all_said list)

all_parts : (list : List Entry) → flat_map parts_taken (map plain list) ≡ flat_map parts_taken list
all_parts [] = refl
all_parts (e ∷ list) = λ i. parts_plain e i ++ all_parts list i

abbrev desk_by : ℕ → ℕ → ℕ → List Body → List (Signed Body) → Desk
desk_by n f client said parts = record {
  client = client;
  n = n;
  f = f;
  commands = length said;
  votes =
      counted is_notice client (votes_in parts);
}

pub desk_plain : (n f client : ℕ) (list : List Entry) → desk_of n f client (map plain list) ≡ desk_of n f client list
unfolding desk_of
desk_plain n f client list = λ i. desk_by n f client (all_said list i) (all_parts list i)
