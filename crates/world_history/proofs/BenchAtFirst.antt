-- An actor before its first entry.
use Rattle.std.proofs.Common.{◌≡◌, ℕ, ◌+◌, ◌-◌, ◌<◌, ◌≤◌, Bool, true, false, not, List, [], map, nat_lt, refl, sym}
use Rattle.std.proofs.Common.{◌∙◌, ap, subst, arith}
use Rattle.std.specs.Prelude.{Option, Some, None, IsSomeAnd, slice_get, length}
use Rattle.std.proofs.lemmas.Bool.{and_from, lt-ltb}
use Rattle.message_types.specs.declared.signed.Signed.{Signed}
use Rattle.message_types.specs.declared.body.Body.{Body}
use Rattle.quorum_sets.specs.Masters.{has_master}
use Rattle.point_table.specs.declared.point.DeviceSizes.{DeviceSizes}
use Rattle.protocol_rules.specs.Group.{Group}
use Rattle.protocol_rules.specs.Master.{Heard}
use Rattle.field_proxy.specs.Front.{ProxyState, IsFrontOf, fresh}
use Rattle.operator_screen.specs.Board.{ScreenState, IsDeskOf}
use Rattle.hash_signatures.specs.Signatures.{Key, all_leaves}
use Rattle.hash_signatures.specs.State.{KeyUse, key_use, IsLevelCount, HasMadeHeights}
use Rattle.actor_keys.specs.Keys.{key_of}
use Rattle.scenario_file.specs.declared.held.HeldKeys.{HeldKeys}
use Rattle.scenario_file.specs.declared.scenario.Scenario.{Scenario}
use Rattle.scenario_file.specs.Reading.{Contents, contents, with_held}
use Rattle.scenario_file.specs.Valid.{IsScenario}
use Rattle.master_node.specs.Charge.{Charge, IsChargeOf}
use Rattle.master_node.specs.Laws.{charge_of}
use Rattle.master_node.specs.Node.{NodeState}
use Rattle.master_node.specs.Running.{IsRunning}
use Rattle.client_roles.proofs.Going.{proxies_begin_fresh, screens_begin_fresh}
use Rattle.world_rules.specs.Scenarios.{setup_of, group_in, key_in, key_with, HasKey, masters_in, proxies_in}
use Rattle.world_rules.proofs.Fields.{setup_goes_by, group_is}
use Rattle.world_history.proofs.ScenarioCharges.{charged_by_setup}
use Rattle.history_laws.proofs.BenchLists.{none_is_bench_list}
use Rattle.bench_rules.proofs.HeardEvents.{heard_none}
use Rattle.world_entries.specs.declared.entry.Entry.{Entry as KeptEntry}
use Rattle.world_entries.specs.Entries.{entry_of}
use Rattle.world_history.specs.declared.role.Role.{Role}
use Rattle.world_history.specs.Roles.{IsMaster, IsIntruded, IsRole}
use Rattle.world_history.specs.Seats.{IsReplay}
use Rattle.world_history.proofs.ClientEntry.{IsProxy, IsScreen}
use Rattle.world_history.proofs.HeldWorlds.{held_leaves, role_held}
use Rattle.world_history.proofs.IntrudedEntry.{overheard_none}

low_master : (c : Contents) (actor : ℕ) → actor < masters_in c → nat_lt actor (setup_of c).group.n ≡ true
low_master c actor low = ap (λ (g : Group). nat_lt actor g.n) (group_is c) ∙ lt-ltb actor (masters_in c) low

not_false : (b : Bool) → b ≡ false → not b ≡ true
not_false true h = sym h
not_false false h = refl

pub master_begins : (scenario : Scenario) (master leaves : ℕ) (node : NodeState) →
    master < masters_in (contents scenario) → has_master scenario.intruded master ≡ false
    → leaves ≡ all_leaves (key_in (contents scenario) 0)
    → ((c : Charge) → IsChargeOf scenario master leaves c → IsRunning c node.running []) → node.is_spent ≡ false →
    IsMaster (setup_of (contents scenario)) master [] node
master_begins scenario master leaves node low right all made works = record {
  correct = and_from (nat_lt master (setup_of (contents scenario)).group.n)
      (not ((setup_of (contents scenario)).intruded master)) (low_master (contents scenario) master low)
      (not_false ((setup_of (contents scenario)).intruded master)
      ((setup_goes_by (contents scenario)).intruded master ∙ right));
  works = works;
  running = subst (λ (hs : List Heard). IsRunning (charge_of (setup_of (contents scenario)) master) node.running hs)
      (sym (heard_none (setup_of (contents scenario)) master))
      (made (charge_of (setup_of (contents scenario)) master)
      (subst (λ (n : ℕ). IsChargeOf scenario master n (charge_of (setup_of (contents scenario)) master)) (sym all)
      (charged_by_setup scenario master)));
}

pub intruded_begins : (c : Contents) (master : ℕ) (known : List (Signed Body)) → master < masters_in c →
    has_master c.settings.intruded master ≡ true → known ≡ [] → IsIntruded (setup_of c) master [] known
intruded_begins c master known low intruded none = record {
  master = let same : (setup_of c).group.n ≡ masters_in c = ap (λ (g : Group). g.n) (group_is c) in omega arith;
  intruded = (setup_goes_by c).intruded master ∙ intruded;
  knows = none ∙ sym overheard_none;
}

pub proxy_begins : (c : Contents) (client : ℕ) (device : DeviceSizes) (front : ProxyState) → client < proxies_in c →
    slice_get c.plant.devices client ≡ Some device
    → IsFrontOf front (fresh client (masters_in c) c.settings.f c.plant.points device) →
    IsProxy c (masters_in c + client) [] front
proxy_begins c client device front low there made = (
  client,
  refl,
  low,
  subst (IsFrontOf front)
      (sym (proxies_begin_fresh (masters_in c) c.settings.f client c.plant device there)) made,
)

pub screen_begins : (c : Contents) (client : ℕ) (desk : ScreenState) → proxies_in c ≤ client →
    IsDeskOf desk (record { client = client; n = masters_in c; f = c.settings.f; commands = 0; votes = [] })
    → IsScreen c (masters_in c + client) [] desk
screen_begins c client desk high made =
    (client, refl, high, subst (IsDeskOf desk) (sym (screens_begin_fresh (masters_in c) c.settings.f client)) made)

-- before its first entry an actor's state is the replay of no entries
pub replays_nothing : (c : Contents) (actor : ℕ) (role : Role) (k : KeyUse) → IsScenario c →
    actor < (group_in c).n + (group_in c).clients → HasKey c actor → IsRole c actor [] role
    → k ≡ key_use (key_in c actor) 0 → IsReplay c actor [] 0 role k []
replays_nothing c actor role k is there own begun key = record {
  scenario = is;
  there = there;
  own = own;
  entries = none_is_bench_list (setup_of c) actor;
  role = begun;
  key = key;
  signs = λ right. refl;
  frames = refl;
}

some_and : {X : Type 0} (o : Option X) (P : X → Type 0) → IsSomeAnd o P → (x : X) × (o ≡ Some x) × P x
some_and None P h = absurd h
some_and (Some x) P h = (x, refl, h)

-- the masters that a scenario says are those of its sizes
pub masters_are : (s : Scenario) → s.sizes.n ≡ masters_in (contents s)
masters_are s = s.sizes.all

pub scenario_proxy_begins : (s : Scenario) (client : ℕ) (front : ProxyState) → client < length s.plant.devices
    → IsSomeAnd (slice_get s.plant.devices client)
    (λ device. IsFrontOf front (fresh client s.sizes.n s.sizes.f s.plant.points device)) →
    IsProxy (contents s) (s.sizes.n + client) [] front
scenario_proxy_begins s client front low made =
    let found = some_and (slice_get s.plant.devices client)
    (λ device. IsFrontOf front (fresh client s.sizes.n s.sizes.f s.plant.points device)) made in
    subst (λ (n : ℕ). IsProxy (contents s) (n + client) [] front) (sym (masters_are s))
    (proxy_begins (contents s) client found.0 front low found.1
    (subst (λ (n : ℕ). IsFrontOf front (fresh client n s.sizes.f s.plant.points found.0)) (masters_are s) found.2))

pub scenario_screen_begins : (s : Scenario) (client : ℕ) (desk : ScreenState) → length s.plant.devices ≤ client
    → IsDeskOf desk (record { client = client; n = s.sizes.n; f = s.sizes.f; commands = 0; votes = [] }) →
    IsScreen (contents s) (s.sizes.n + client) [] desk
scenario_screen_begins s client desk high made =
    subst (λ (n : ℕ). IsScreen (contents s) (n + client) [] desk) (sym (masters_are s))
    (screen_begins (contents s) client desk high
    (subst (λ (n : ℕ). IsDeskOf desk (record { client = client; n = n; f = s.sizes.f; commands = 0; votes = [] }))
    (masters_are s) made))

-- where the seed is known, an actor's key is that which the seed makes
key_is : (c : Contents) (actor : ℕ) → c.held ≡ None →
    key_of c.settings.seed c.settings.heights actor ≡ key_in c actor
unfolding key_in
key_is c actor seed =
    ap (λ (held : Option HeldKeys). key_with held c.settings.seed c.settings.heights actor) (sym seed)

-- all actors' keys have as many leaves as the first's
pub leaves_given : (c : Contents) (held : Option HeldKeys) (actor left : ℕ) (k : KeyUse) →
    k ≡ key_use (key_in (with_held c held) actor) 0 → left ≡ all_leaves k.key - k.used
    → left ≡ all_leaves (key_in c 0)
leaves_given c held actor left k is tells =
    let whole : all_leaves (key_in (with_held c held) actor) - 0 ≡ all_leaves (key_in (with_held c held) actor) =
    omega arith in
    tells
    ∙ ap (λ (x : KeyUse). all_leaves x.key - x.used) is
    ∙ whole
    ∙ held_leaves c held actor 0

-- heights that a scenario has can be made
pub levels_given : (c : Contents) (heights : List ℕ) → IsScenario c → heights ≡ c.settings.heights →
    IsLevelCount (length heights)
levels_given c heights is same =
    let some = is.some_levels in
    let most = is.at_most_three_levels in
    subst (λ (hs : List ℕ). IsLevelCount (length hs)) (sym same) (omega arith, omega arith)

pub heights_given : (c : Contents) (heights : List ℕ) → IsScenario c → heights ≡ c.settings.heights →
    HasMadeHeights heights
heights_given c heights is same = subst HasMadeHeights (sym same) is.heights

-- the key that was made is the actor's
pub key_given : (s : Scenario) (actor : ℕ) (heights : List ℕ) (k : KeyUse) →
    k ≡ key_use (key_of s.seed heights actor) 0 → heights ≡ s.heights
    → k ≡ key_use (key_in (contents s) actor) 0
key_given s actor heights k made same = made ∙ ap (λ (hs : List ℕ). key_use (key_of s.seed hs actor) 0) same
    ∙ ap (λ (x : Key). key_use x 0) (key_is (contents s) actor refl)

-- A bench's state is so once it is made.
pub begins_seated : (scenario copy : Scenario) (held : Option HeldKeys) (actor : ℕ) (role : Role) (k : KeyUse)
    (list : List KeptEntry) (frames : List (List (Signed Body))) → IsScenario (with_held (contents scenario) held)
    → actor < (group_in (contents scenario)).n + (group_in (contents scenario)).clients →
    HasKey (with_held (contents scenario) held) actor → IsRole (contents scenario) actor [] role → copy ≡ scenario
    → k ≡ key_use (key_in (with_held (contents scenario) held) actor) 0 → list ≡ [] → frames ≡ [] →
    IsReplay (with_held (contents copy) held) actor (map entry_of list) 0 role k frames
begins_seated scenario copy held actor role k list frames is there own begun same key none no_frames =
    let c : Contents = with_held (contents scenario) held in
    subst (λ (s : Scenario). IsReplay (with_held (contents s) held) actor (map entry_of list) 0 role k frames) (sym same)
    (subst (λ (es : List KeptEntry). IsReplay c actor (map entry_of es) 0 role k frames) (sym none)
    (subst (λ (fs : List (List (Signed Body))). IsReplay c actor [] 0 role k fs) (sym no_frames)
    (replays_nothing c actor role k is there own (role_held (contents scenario) held actor role begun) key)))
