-- A client of a scenario through one entry.
use Rattle.std.proofs.Common.{◌≡◌, ℕ, ◌+◌, ◌^◌, ◌<◌, ◌≤◌, Bool, true, false, ◌&&◌, not, nat_lt, List, [], ◌∷◌, ◌++◌}
use Rattle.std.proofs.Common.{take, sym, ◌∙◌, ap, subst, arith}
use Rattle.std.specs.List.{list_all}
use Rattle.message_types.specs.declared.body.Body.{Body}
use Rattle.message_types.specs.Spelling.{body_fits}
use Rattle.field_proxy.specs.Front.{Front, ProxyState, IsFrontOf}
use Rattle.operator_screen.specs.Board.{Desk, ScreenState, IsDeskOf}
use Rattle.scenario_file.specs.Reading.{Contents}
use Rattle.history_rules.specs.Events.{Event, Entry}
use Rattle.history_rules.specs.Setup.{is_correct, stands, room}
use Rattle.history_rules.specs.Legal.{says_in}
use Rattle.world_rules.specs.Clients.{front_of, desk_of, proxy_says, screen_says}
use Rattle.world_rules.specs.Scenarios.{setup_of, masters_in, proxies_in, HasKey}
use Rattle.history_laws.specs.BenchLists.{AddsEntry, IsBenchList}
use Rattle.bench_rules.specs.Lists.{frames_after}
use Rattle.client_roles.specs.Roles.{IsProxyAfter, IsScreenAfter, front_at, desk_at}
use Rattle.client_roles.specs.Laws.{MaySay}
use Rattle.client_roles.proofs.Counting.{updates_stay_few, commands_stay_few}
use Rattle.client_roles.proofs.Going.{front_more, desk_more}
use Rattle.client_roles.proofs.Saying.{behind_masters, proxies_say_by_room, screens_say_by_room}
use Rattle.client_roles.proofs.Wording.{client_words_fit}
use Rattle.client_roles.proofs.Signing.{client_frames_stand}
use Rattle.world_history.specs.Roles.{Comes}

-- the proxy of a client after its own entries
abbrev pub IsProxy : Contents → ℕ → List Entry → ProxyState → Type 0
IsProxy c actor own front = (client : ℕ) × (actor ≡ masters_in c + client) × (client < proxies_in c)
    × IsFrontOf front (front_of (masters_in c) c.settings.f c.plant client own)

abbrev pub IsScreen : Contents → ℕ → List Entry → ScreenState → Type 0
IsScreen c actor own desk = (client : ℕ) × (actor ≡ masters_in c + client) × (proxies_in c ≤ client)
    × IsDeskOf desk (desk_of (masters_in c) c.settings.f client own)

may_say : (c : Contents) (actor client : ℕ) (own : List Entry) (e : Entry) → Comes c actor own e →
    actor ≡ masters_in c + client → MaySay c client own e.event
may_say c actor client own e comes is =
    let there = comes.there in
    record {
      scenario = comes.scenario;
      there = omega arith;
      history = subst (λ (a : ℕ). IsBenchList (setup_of c) a own) is comes.list;
      short = comes.short;
      carried = comes.carried;
    }

pub client_fits : (c : Contents) (actor client : ℕ) (own : List Entry) (e : Entry) → Comes c actor own e →
    actor ≡ masters_in c + client → list_all body_fits e.said ≡ true
client_fits c actor client own e comes is =
    ap (list_all body_fits) (comes.adds.said ∙ ap (λ (a : ℕ). says_in (setup_of c) a own e.event) is)
    ∙ client_words_fit c client own e.event (may_say c actor client own e comes is)

pub client_stands : (c : Contents) (actor client : ℕ) (own : List Entry) (e : Entry) → Comes c actor own e →
    actor ≡ masters_in c + client
    → list_all (stands (setup_of c)) (frames_after (setup_of c) actor own e) ≡ true
client_stands c actor client own e comes is =
    ap (λ (a : ℕ). list_all (stands (setup_of c)) (frames_after (setup_of c) a own e)) is
    ∙ client_frames_stand c client own e (may_say c actor client own e comes is)
    (subst (λ (a : ℕ). HasKey c a) is comes.key)
    (subst (λ (a : ℕ). AddsEntry (setup_of c) a own e) is comes.adds)

pub proxy_can : (c : Contents) (actor : ℕ) (own : List Entry) (e : Entry) (front : ProxyState) → Comes c actor own e →
    IsProxy c actor own front → front.updates < 2 ^ 62
proxy_can c actor own e front comes (client, is, low, same) =
    let few = updates_stay_few (masters_in c) c.settings.f client c.plant own comes.scenario.plant.points in
    let short = comes.short in
    let counted : front.updates ≡ (front_of (masters_in c) c.settings.f c.plant client own).updates =
    ap (λ (s : Front). s.updates) (sym same.same) in
    omega arith

pub screen_can : (c : Contents) (actor : ℕ) (own : List Entry) (e : Entry) (desk : ScreenState) →
    Comes c actor own e → IsScreen c actor own desk → desk.commands < 2 ^ 63
screen_can c actor own e desk comes (client, is, high, same) =
    let few = commands_stay_few c (masters_in c) c.settings.f client own high
    (subst (λ (a : ℕ). IsBenchList (setup_of c) a own) is comes.list) in
    let short = comes.short in
    let counted : desk.commands ≡ (desk_of (masters_in c) c.settings.f client own).commands =
    ap (λ (s : Desk). s.commands) (sym same.same) in
    omega arith

pub proxy_said : (c : Contents) (actor : ℕ) (own : List Entry) (e : Entry) (event : Event) (front : ProxyState)
    (many : ℕ) (bodies : List Body) → Comes c actor own e → e.event ≡ event
    → many ≡ room (setup_of c) own → IsProxy c actor own front
    → ((s : Front) → IsFrontOf front s → bodies ≡ take many (proxy_says s event)) → bodies ≡ e.said
proxy_said c actor own e event front many bodies comes same size (client, is, low, state) says =
    says (front_of (masters_in c) c.settings.f c.plant client own) state
    ∙ ap (λ (r : ℕ). take r (proxy_says (front_of (masters_in c) c.settings.f c.plant client own) event)) size
    ∙ ap (λ (ev : Event). take (room (setup_of c) own)
    (proxy_says (front_of (masters_in c) c.settings.f c.plant client own) ev)) (sym same)
    ∙ sym (proxies_say_by_room c client own e.event low)
    ∙ ap (λ (a : ℕ). says_in (setup_of c) a own e.event) (sym is)
    ∙ sym comes.adds.said

pub screen_said : (c : Contents) (actor : ℕ) (own : List Entry) (e : Entry) (event : Event) (desk : ScreenState)
    (many : ℕ) (bodies : List Body) → Comes c actor own e → e.event ≡ event
    → many ≡ room (setup_of c) own → IsScreen c actor own desk
    → ((s : Desk) → IsDeskOf desk s → bodies ≡ take many (screen_says s event)) → bodies ≡ e.said
screen_said c actor own e event desk many bodies comes same size (client, is, high, state) says =
    says (desk_of (masters_in c) c.settings.f client own) state
    ∙ ap (λ (r : ℕ). take r (screen_says (desk_of (masters_in c) c.settings.f client own) event)) size
    ∙ ap (λ (ev : Event). take (room (setup_of c) own)
    (screen_says (desk_of (masters_in c) c.settings.f client own) ev)) (sym same)
    ∙ sym (screens_say_by_room c client own e.event high)
    ∙ ap (λ (a : ℕ). says_in (setup_of c) a own e.event) (sym is)
    ∙ sym comes.adds.said

pub proxy_ready : (c : Contents) (actor : ℕ) (own : List Entry) (e : Entry) (event : Event) (old new : ProxyState)
    (bodies : List Body) → e.event ≡ event → bodies ≡ e.said
    → IsProxy c actor own old → IsProxyAfter old new event bodies → IsProxy c actor (own ++ e ∷ []) new
proxy_ready c actor own e event old new bodies same said (client, is, low, state) after =
    let s = front_of (masters_in c) c.settings.f c.plant client own in (
      client,
      is,
      low,
      subst (IsFrontOf new)
          (ap (λ (ev : Event). front_at s ev bodies) (sym same) ∙ ap (front_at s e.event) said
          ∙ sym (front_more (masters_in c) c.settings.f client c.plant own e))
          (after s state),
    )

pub screen_ready : (c : Contents) (actor : ℕ) (own : List Entry) (e : Entry) (event : Event) (old new : ScreenState)
    (bodies : List Body) → e.event ≡ event → bodies ≡ e.said
    → IsScreen c actor own old → IsScreenAfter old new event bodies → IsScreen c actor (own ++ e ∷ []) new
screen_ready c actor own e event old new bodies same said (client, is, high, state) after =
    let s = desk_of (masters_in c) c.settings.f client own in (
      client,
      is,
      high,
      subst (IsDeskOf new)
          (ap (λ (ev : Event). desk_at s ev bodies) (sym same) ∙ ap (desk_at s e.event) said
          ∙ sym (desk_more (masters_in c) c.settings.f client own e))
          (after s state),
    )

-- a client is a correct actor
pub client_correct : (c : Contents) (actor client : ℕ) → actor ≡ masters_in c + client →
    is_correct (setup_of c) actor ≡ true
client_correct c actor client is =
    let no_master : nat_lt actor (setup_of c).group.n ≡ false = ap (λ (a : ℕ). nat_lt a (setup_of c).group.n) is
    ∙ behind_masters c client in
    ap (λ (b : Bool). not (b && (setup_of c).intruded actor)) no_master

pub proxy_correct : (c : Contents) (actor : ℕ) (own : List Entry) (front : ProxyState) → IsProxy c actor own front →
    is_correct (setup_of c) actor ≡ true
proxy_correct c actor own front (client, is, low, same) = client_correct c actor client is

pub screen_correct : (c : Contents) (actor : ℕ) (own : List Entry) (desk : ScreenState) → IsScreen c actor own desk →
    is_correct (setup_of c) actor ≡ true
screen_correct c actor own desk (client, is, high, same) = client_correct c actor client is
