-- What an actor's own list comes to, without where its frames were said.
use Rattle.std.proofs.Common.{◌≡◌, ℕ, ◌+◌, Bool, true, false, cond, ◌&&◌, List, [], ◌∷◌, ◌++◌, Option, length, map}
use Rattle.std.proofs.Common.{nat_eq, nat_le, refl, ap}
use Rattle.std.specs.List.{list_any, flat_map}
use Rattle.message_types.specs.declared.signed.Signed.{Signed}
use Rattle.message_types.specs.declared.body.Body.{Body}
use Rattle.protocol_rules.specs.Views.{view}
use Rattle.protocol_rules.specs.Master.{Heard, executed}
use Rattle.master_points.specs.declared.plant.Plant.{Plant}
use Rattle.vouched_orders.specs.Vouching.{votes_in, counted}
use Rattle.field_proxy.specs.Front.{fresh}
use Rattle.field_proxy.specs.Happenings.{Happening, front_after}
use Rattle.operator_screen.specs.Board.{Desk, is_notice}
use Rattle.history_rules.specs.Events.{Entry}
use Rattle.history_rules.specs.Setup.{Setup, heard_from, signed_from, leaves_used, own}
use Rattle.history_rules.specs.Keeping.{KeeperCall, Reading, Append, keeper_calls, is_halted}
use Rattle.history_rules.specs.Leaves.{leaves_for, leaves_of}
use Rattle.history_rules.specs.Legal.{heard_in, known_of, view_in, executions_in}
use Rattle.history_rules.specs.Audit.{parts_taken}
use Rattle.world_rules.specs.Clients.{happenings_of, device_of, front_of, desk_of}
use Rattle.printed_laws.specs.AlikeLaws.{bare}
use Rattle.printed_laws.proofs.BareEvents.{taken_bare, tick_bare, silent_bare, restart_bare, parts_bare}
use Rattle.printed_laws.proofs.BareEvents.{happenings_bare}

-- an actor's own list of bare entries
kept_so : (b : Bool) (e : Entry) (xs ys : List Entry) → xs ≡ map bare ys →
    cond b (bare e ∷ xs) xs ≡ map bare (cond b (e ∷ ys) ys)
kept_so true e xs ys is = ap (λ (zs : List Entry). bare e ∷ zs) is
kept_so false e xs ys is = is

pub own_bare : (history : List Entry) (actor : ℕ) → own (map bare history) actor ≡ map bare (own history actor)
unfolding own
own_bare [] actor = refl
own_bare (e ∷ rest) actor = kept_so (nat_eq e.actor actor) e (own (map bare rest) actor)
    (own rest actor) (own_bare rest actor)

calls_bare : (list : List Entry) → keeper_calls (map bare list) ≡ keeper_calls list
calls_bare [] = refl
calls_bare (e ∷ list) = λ i. cond (restart_bare e.event i) (Reading ∷ Append ∷ []) (Append ∷ []) ++ calls_bare list i

pub halted_bare : (w : Setup) (actor : ℕ) (list : List Entry) →
    is_halted w actor (map bare list) ≡ is_halted w actor list
halted_bare w actor list =
    ap (λ (calls : List KeeperCall). list_any (λ x. nat_le 1 x && nat_le x (length calls)) (w.failing actor))
    (calls_bare list)

sizes_bare : (list : List Entry) → map (λ e. length e.said) (map bare list) ≡ map (λ e. length e.said) list
sizes_bare [] = refl
sizes_bare (e ∷ list) = ap (λ (ns : List ℕ). length e.said ∷ ns) (sizes_bare list)

pub leaves_bare : (w : Setup) (list : List Entry) → leaves_used w (map bare list) ≡ leaves_used w list
leaves_bare w list = ap (leaves_of w.shared_leaves) (sizes_bare list)

-- what a master heard at an event, unless it is silent
abbrev heard_before : Bool → Option (Signed Body) → Bool → List (Signed Body) → List Heard → List Heard
heard_before silent took tick said rest = cond silent rest (record { took = took; is_tick = tick; said = said } ∷ rest)

heard_from_bare : (w : Setup) (master used : ℕ) (list : List Entry) →
    heard_from w master used (map bare list) ≡ heard_from w master used list
heard_from_bare w master used [] = refl
heard_from_bare w master used (e ∷ list) =
    λ i. heard_before (silent_bare e.event i) (taken_bare e.event i) (tick_bare e.event i)
    (signed_from w master used e.said 0 e.said)
    (heard_from_bare w master (used + leaves_for w.shared_leaves (length e.said)) list i)

pub heard_bare : (w : Setup) (master : ℕ) (list : List Entry) →
    heard_in w master (map bare list) ≡ heard_in w master list
unfolding heard_in
heard_bare w master list = heard_from_bare w master 0 list

pub view_bare : (w : Setup) (master : ℕ) (list : List Entry) → view_in w master (map bare list) ≡ view_in w master list
view_bare w master list = ap (λ (hs : List Heard). view w.group (known_of hs)) (heard_bare w master list)

pub executed_bare : (w : Setup) (master : ℕ) (list : List Entry) →
    executions_in w master (map bare list) ≡ executions_in w master list
executed_bare w master list = ap (λ (hs : List Heard). executed w.group (known_of hs)) (heard_bare w master list)

all_happenings : (list : List Entry) → flat_map happenings_of (map bare list) ≡ flat_map happenings_of list
all_happenings [] = refl
all_happenings (e ∷ list) = λ i. happenings_bare e i ++ all_happenings list i

pub front_bare : (n f : ℕ) (plant : Plant) (client : ℕ) (list : List Entry) →
    front_of n f plant client (map bare list) ≡ front_of n f plant client list
unfolding front_of
front_bare n f plant client list =
    ap (λ (hs : List Happening). front_after (fresh client n f plant.points (device_of plant client)) hs)
    (all_happenings list)

all_said : (list : List Entry) → flat_map (λ e. e.said) (map bare list) ≡ flat_map (λ e. e.said) list
all_said [] = refl
all_said (e ∷ list) = ap (λ (bs : List Body). e.said ++ bs) (all_said list)

all_parts : (list : List Entry) → flat_map parts_taken (map bare list) ≡ flat_map parts_taken list
all_parts [] = refl
all_parts (e ∷ list) = λ i. parts_bare e i ++ all_parts list i

abbrev desk_by : ℕ → ℕ → ℕ → List Body → List (Signed Body) → Desk
desk_by n f client said parts = record {
  client = client;
  n = n;
  f = f;
  commands = length said;
  votes =
      counted is_notice client (votes_in parts);
}

pub desk_bare : (n f client : ℕ) (list : List Entry) → desk_of n f client (map bare list) ≡ desk_of n f client list
unfolding desk_of
desk_bare n f client list = λ i. desk_by n f client (all_said list i) (all_parts list i)
