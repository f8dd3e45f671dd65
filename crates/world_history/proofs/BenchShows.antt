-- What a bench shows is what the definitions make of its list: by its role, since its role's state is the replay of the
-- list.
use Rattle.std.proofs.Common.{◌≡◌, ℕ, ◌+◌, ◌-◌, ◌<◌, Bool, true, false, cond, ◌&&◌, ◌||◌, not, nat_lt, List, []}
use Rattle.std.proofs.Common.{Option, Some, None, refl, sym, ◌∙◌, ap, subst, arith}
use Rattle.std.proofs.lemmas.Bool.{lt-ltb, le-ltb}
use Rattle.std.proofs.Math.Bool.{and-false}
use Rattle.message_types.specs.declared.updates.Update.{Update}
use Rattle.message_types.specs.declared.vouchers.Notice.{Notice}
use Rattle.protocol_rules.specs.Group.{Group}
use Rattle.protocol_rules.specs.Master.{Heard, executed}
use Rattle.protocol_rules.specs.Preorder.{certified}
use Rattle.protocol_rules.specs.Views.{view}
use Rattle.field_proxy.specs.declared.writes.Write.{Write}
use Rattle.field_proxy.specs.Front.{Front, ProxyState}
use Rattle.operator_screen.specs.Board.{Desk, ScreenState, IsDeskOf}
use Rattle.hash_signatures.specs.Signatures.{all_leaves}
use Rattle.hash_signatures.specs.State.{KeyUse}
use Rattle.scenario_file.specs.Reading.{Contents}
use Rattle.history_rules.specs.Events.{Event}
use Rattle.history_rules.specs.Setup.{is_correct_master, leaves_used}
use Rattle.history_rules.specs.Legal.{heard_in, known_of, executions_in, view_in}
use Rattle.master_node.specs.Charge.{Charge}
use Rattle.master_node.specs.Laws.{charge_of}
use Rattle.master_node.specs.Node.{NodeState}
use Rattle.master_node.specs.Running.{IsRunning}
use Rattle.client_roles.proofs.Saying.{behind_masters}
use Rattle.world_rules.specs.Clients.{front_of, desk_of, board_of}
use Rattle.world_rules.specs.Scenarios.{setup_of, masters_in, proxies_in, fits_in}
use Rattle.world_rules.proofs.Fields.{setup_goes_by, group_is, leaves_of_all}
use Rattle.world_history.specs.declared.role.Role.{Role}
use Rattle.world_history.specs.declared.role.Role.TheVariants as role
use Rattle.world_history.specs.declared.seat.Seat.{Seat}
use Rattle.world_history.specs.Roles.{IsRole}
use Rattle.world_history.specs.Seats.{IsSeated, world_in, list_in}
use Rattle.world_history.specs.State.{BenchState, setup_in, executions_shown, executed_if, view_shown}
use Rattle.world_history.specs.State.{certified_shown, is_proxy, is_screen, writes_shown, board_shown, leaves_left}
use Rattle.world_history.proofs.MasterEntry.{master_is}

-- what contracts see of a bench with this seat
abbrev seen : Seat → Bool → BenchState
seen s is_spent = record {
  world = world_in s;
  actor = s.actor;
  list = list_in s;
  signed =
      s.signed;
  is_spent = is_spent;
}

-- the role is what the bench's list makes of its actor
abbrev pub HasRole : BenchState → Role → Type 0
HasRole b r = IsRole b.world b.actor b.list r

pub role_of : (s : Seat) (is_spent : Bool) (b : BenchState) (r : Role) → seen s is_spent ≡ b →
    (is_spent ≡ false → IsSeated s) → s.role ≡ r → b.is_spent ≡ false → HasRole b r
role_of s is_spent b r is seated kind works =
    let replay : IsSeated s = seated (ap (λ (x : BenchState). x.is_spent) is ∙ works) in
    subst (λ (x : Role). HasRole b x) kind (subst (λ (x : BenchState). HasRole x s.role) is replay.role)

pub spent_is : (s : Seat) (is_spent : Bool) (b : BenchState) → seen s is_spent ≡ b → b.is_spent ≡ is_spent
spent_is s is_spent b is = sym (ap (λ (x : BenchState). x.is_spent) is)

pub fits_told : (s : Seat) (is_spent : Bool) (b : BenchState) (event : Event) (fits : Bool) → seen s is_spent ≡ b →
    fits ≡ fits_in (world_in s) s.actor event
    → fits ≡ (setup_in b).fits b.actor event
fits_told s is_spent b event fits is tells =
    tells ∙ sym ((setup_goes_by (world_in s)).fits s.actor event)
    ∙ ap (λ (x : BenchState). (setup_in x).fits x.actor event) is

pub left_told : (s : Seat) (is_spent : Bool) (b : BenchState) (left : ℕ) → seen s is_spent ≡ b →
    (is_spent ≡ false → IsSeated s) → left ≡ all_leaves s.key.key - s.key.used
    → b.is_spent ≡ false → left ≡ leaves_left b
left_told s is_spent b left is seated tells works =
    let replay : IsSeated s = seated (ap (λ (x : BenchState). x.is_spent) is ∙ works) in
    tells
    ∙ ap (λ (k : KeyUse). all_leaves k.key - k.used) replay.key
    ∙ ap (λ (n : ℕ). n - (leaves_used (setup_of (world_in s)) (list_in s) + s.signed))
    (sym (leaves_of_all (world_in s) s.actor))
    ∙ ap leaves_left is

-- A correct master's role.
pub executions_told : (b : BenchState) (node : NodeState) (list : List Update) → HasRole b (role.Master node)
    → ((charge : Charge) (before : List Heard) → IsRunning charge node.running before →
    list ≡ executed charge.group (known_of before)) → list ≡ executions_shown b
executions_told b node list is tells =
    tells (charge_of (setup_in b) b.actor) (heard_in (setup_in b) b.actor b.list) is.running
    ∙ sym (ap (λ (x : Bool). cond x (executions_in (setup_in b) b.actor b.list) []) is.correct)

pub view_told : (b : BenchState) (node : NodeState) (number : ℕ) → HasRole b (role.Master node)
    → ((charge : Charge) (before : List Heard) → IsRunning charge node.running before →
    number ≡ view charge.group (known_of before)) → number ≡ view_shown b
view_told b node number is tells =
    tells (charge_of (setup_in b) b.actor) (heard_in (setup_in b) b.actor b.list) is.running
    ∙ sym (ap (λ (x : Bool). cond x (view_in (setup_in b) b.actor b.list) 0) is.correct)

pub certified_told : (b : BenchState) (node : NodeState) (j k : ℕ) (update : Option Update) →
    HasRole b (role.Master node)
    → ((charge : Charge) (before : List Heard) → IsRunning charge node.running before →
    update ≡ certified charge.group (known_of before) j k) → update ≡ certified_shown b j k
certified_told b node j k update is tells =
    tells (charge_of (setup_in b) b.actor) (heard_in (setup_in b) b.actor b.list) is.running
    ∙ sym (ap (λ (x : Bool). cond x
    (certified (setup_in b).group (known_of (heard_in (setup_in b) b.actor b.list)) j k) None) is.correct)

-- All other roles are no correct master's.
abbrev pub is_master : Role → Bool
is_master (role.Master node) = true
is_master _ = false

pub other_than_master : (r : Role) → ((node : NodeState) → r ≡ role.Master node → ⊥) → is_master r ≡ false
other_than_master (role.Master node) other = absurd (other node refl)
other_than_master (role.Intruded known) other = refl
other_than_master (role.Proxy front) other = refl
other_than_master (role.Screen desk) other = refl

client_is_no_master : (c : Contents) (actor client : ℕ) → actor ≡ masters_in c + client →
    is_correct_master (setup_of c) actor ≡ false
client_is_no_master c actor client is =
    ap (λ (a : ℕ). is_correct_master (setup_of c) a) is
    ∙ ap (λ (x : Bool). x && not ((setup_of c).intruded (masters_in c + client))) (behind_masters c client)

no_master : (b : BenchState) (r : Role) → HasRole b r → is_master r ≡ false →
    is_correct_master (setup_in b) b.actor ≡ false
no_master b (role.Master node) is other = absurd (cc)
no_master b (role.Intruded known) is other =
    ap (λ (x : Bool). nat_lt b.actor (setup_in b).group.n && not x) is.intruded
    ∙ and-false (nat_lt b.actor (setup_in b).group.n)
no_master b (role.Proxy front) (client, is, low, same) other = client_is_no_master b.world b.actor client is
no_master b (role.Screen desk) (client, is, high, same) other = client_is_no_master b.world b.actor client is

pub no_executions : (b : BenchState) (r : Role) → HasRole b r → is_master r ≡ false → [] ≡ executions_shown b
no_executions b r is other =
    sym (ap (λ (x : Bool). cond x (executions_in (setup_in b) b.actor b.list) []) (no_master b r is other))

pub no_view : (b : BenchState) (r : Role) → HasRole b r → is_master r ≡ false → 0 ≡ view_shown b
no_view b r is other = sym (ap (λ (x : Bool). cond x (view_in (setup_in b) b.actor b.list) 0) (no_master b r is other))

pub none_certified : (b : BenchState) (r : Role) (j k : ℕ) → HasRole b r → is_master r ≡ false →
    None ≡ certified_shown b j k
none_certified b r j k is other =
    sym (ap (λ (x : Bool). cond x (certified (setup_in b).group (known_of (heard_in (setup_in b) b.actor b.list)) j k)
    None) (no_master b r is other))

-- What an audit asks for: nothing of a bench that is spent.
abbrev answer_if : Bool → Bool → List Update → Option (List Update)
answer_if spent right list = cond (spent || not right) None (Some list)

answers_if : (b : BenchState) (spent right : Bool) → b.is_spent ≡ spent → is_correct_master (setup_in b) b.actor ≡ right
    → answer_if spent right (executions_in (setup_in b) b.actor b.list) ≡ executed_if b
answers_if b spent right is kind =
    sym (ap (λ (x : Bool). answer_if x (is_correct_master (setup_in b) b.actor)
    (executions_in (setup_in b) b.actor b.list)) is
    ∙ ap (λ (x : Bool). answer_if spent x (executions_in (setup_in b) b.actor b.list)) kind)

pub none_of_spent : (b : BenchState) → b.is_spent ≡ true → None ≡ executed_if b
none_of_spent b spent = answers_if b true (is_correct_master (setup_in b) b.actor) spent refl

pub executed_told : (b : BenchState) (node : NodeState) (list : List Update) → b.is_spent ≡ false →
    HasRole b (role.Master node)
    → ((charge : Charge) (before : List Heard) → IsRunning charge node.running before →
    list ≡ executed charge.group (known_of before)) → Some list ≡ executed_if b
executed_told b node list works is tells =
    ap Some (tells (charge_of (setup_in b) b.actor) (heard_in (setup_in b) b.actor b.list) is.running)
    ∙ answers_if b false true works is.correct

pub none_executed : (b : BenchState) (r : Role) → b.is_spent ≡ false → HasRole b r →
    is_master r ≡ false → None ≡ executed_if b
none_executed b r works is other = answers_if b false false works (no_master b r is other)

-- The clients' numbers tell proxies and screens apart.
behind : (c : Contents) (actor client : ℕ) → actor ≡ masters_in c + client → nat_lt actor (masters_in c) ≡ false
behind c actor client is = le-ltb actor (masters_in c) (omega arith)

client_number : (c : Contents) (actor client : ℕ) → actor ≡ masters_in c + client → actor - masters_in c ≡ client
client_number c actor client is = omega arith

client_is_proxy : (c : Contents) (actor client : ℕ) → actor ≡ masters_in c + client →
    is_proxy c actor ≡ nat_lt client (proxies_in c)
client_is_proxy c actor client is =
    ap (λ (x : Bool). cond x false (nat_lt (actor - masters_in c) (proxies_in c))) (behind c actor client is)
    ∙ ap (λ (n : ℕ). nat_lt n (proxies_in c)) (client_number c actor client is)

client_is_screen : (c : Contents) (actor client : ℕ) → actor ≡ masters_in c + client →
    is_screen c actor ≡ not (nat_lt client (proxies_in c))
client_is_screen c actor client is =
    ap (λ (x : Bool). cond x false (not (nat_lt (actor - masters_in c) (proxies_in c)))) (behind c actor client is)
    ∙ ap (λ (n : ℕ). not (nat_lt n (proxies_in c))) (client_number c actor client is)

pub writes_told : (b : BenchState) (front : ProxyState) (list : List Write) → HasRole b (role.Proxy front) →
    list ≡ front.writes → list ≡ writes_shown b
writes_told b front list (client, is, low, same) tells =
    tells
    ∙ ap (λ (s : Front). s.writes) (sym same.same)
    ∙ ap (λ (n : ℕ). (front_of (masters_in b.world) b.world.settings.f b.world.plant n b.list).writes)
    (sym (client_number b.world b.actor client is))
    ∙ sym (ap (λ (x : Bool). cond x
    (front_of (masters_in b.world) b.world.settings.f b.world.plant (b.actor - masters_in b.world) b.list).writes
    [])
    (client_is_proxy b.world b.actor client is ∙ lt-ltb client (proxies_in b.world) low))

pub board_told : (b : BenchState) (desk : ScreenState) (list : List Notice) → HasRole b (role.Screen desk) →
    ((s : Desk) → IsDeskOf desk s → list ≡ board_of s) → list ≡ board_shown b
board_told b desk list (client, is, high, same) tells =
    tells (desk_of (masters_in b.world) b.world.settings.f client b.list) same
    ∙ ap (λ (n : ℕ). board_of (desk_of (masters_in b.world) b.world.settings.f n b.list))
    (sym (client_number b.world b.actor client is))
    ∙ sym (ap (λ (x : Bool). cond x
    (board_of (desk_of (masters_in b.world) b.world.settings.f (b.actor - masters_in b.world) b.list)) [])
    (client_is_screen b.world b.actor client is ∙ ap not (le-ltb client (proxies_in b.world) high)))

-- A master, intruded or not, is no client.
low_number : (c : Contents) (actor : ℕ) → actor < (setup_of c).group.n → nat_lt actor (masters_in c) ≡ true
low_number c actor low = ap (λ (g : Group). nat_lt actor g.n) (sym (group_is c)) ∙ lt-ltb actor (setup_of c).group.n low

master_number : (b : BenchState) (node : NodeState) → HasRole b (role.Master node) →
    nat_lt b.actor (masters_in b.world) ≡ true
master_number b node is = (master_is b.world b.actor is.correct).0

abbrev pub is_proxy_role : Role → Bool
is_proxy_role (role.Proxy front) = true
is_proxy_role _ = false

abbrev pub is_screen_role : Role → Bool
is_screen_role (role.Screen desk) = true
is_screen_role _ = false

pub other_than_proxy : (r : Role) → ((front : ProxyState) → r ≡ role.Proxy front → ⊥) → is_proxy_role r ≡ false
other_than_proxy (role.Master node) other = refl
other_than_proxy (role.Intruded known) other = refl
other_than_proxy (role.Proxy front) other = absurd (other front refl)
other_than_proxy (role.Screen desk) other = refl

pub other_than_screen : (r : Role) → ((desk : ScreenState) → r ≡ role.Screen desk → ⊥) → is_screen_role r ≡ false
other_than_screen (role.Master node) other = refl
other_than_screen (role.Intruded known) other = refl
other_than_screen (role.Proxy front) other = refl
other_than_screen (role.Screen desk) other = absurd (other desk refl)

no_proxy : (b : BenchState) (r : Role) → HasRole b r → is_proxy_role r ≡ false → is_proxy b.world b.actor ≡ false
no_proxy b (role.Master node) is other =
    ap (λ (x : Bool). cond x false (nat_lt (b.actor - masters_in b.world) (proxies_in b.world)))
    (master_number b node is)
no_proxy b (role.Intruded known) is other =
    ap (λ (x : Bool). cond x false (nat_lt (b.actor - masters_in b.world) (proxies_in b.world)))
    (low_number b.world b.actor is.master)
no_proxy b (role.Proxy front) is other = absurd (cc)
no_proxy b (role.Screen desk) (client, is, high, same) other = client_is_proxy b.world b.actor client is
    ∙ le-ltb client (proxies_in b.world) high

no_screen : (b : BenchState) (r : Role) → HasRole b r → is_screen_role r ≡ false → is_screen b.world b.actor ≡ false
no_screen b (role.Master node) is other =
    ap (λ (x : Bool). cond x false (not (nat_lt (b.actor - masters_in b.world) (proxies_in b.world))))
    (master_number b node is)
no_screen b (role.Intruded known) is other =
    ap (λ (x : Bool). cond x false (not (nat_lt (b.actor - masters_in b.world) (proxies_in b.world))))
    (low_number b.world b.actor is.master)
no_screen b (role.Proxy front) (client, is, low, same) other = client_is_screen b.world b.actor client is
    ∙ ap not (lt-ltb client (proxies_in b.world) low)
no_screen b (role.Screen desk) is other = absurd (cc)

pub no_writes : (b : BenchState) (r : Role) → HasRole b r → is_proxy_role r ≡ false → [] ≡ writes_shown b
no_writes b r is other =
    sym (ap (λ (x : Bool). cond x
    (front_of (masters_in b.world) b.world.settings.f b.world.plant (b.actor - masters_in b.world) b.list).writes
    []) (no_proxy b r is other))

pub no_board : (b : BenchState) (r : Role) → HasRole b r → is_screen_role r ≡ false → [] ≡ board_shown b
no_board b r is other =
    sym (ap (λ (x : Bool). cond x
    (board_of (desk_of (masters_in b.world) b.world.settings.f (b.actor - masters_in b.world) b.list)) [])
    (no_screen b r is other))
