-- What a scenario's clients say and keep, as statements over their own lists. A client's number counts the proxies
-- first and then the screens; as an actor it comes behind the masters.
use Rattle.std.specs.Prelude.{◌≡◌, ℕ, ◌+◌, ◌*◌, ◌^◌, ◌<◌, ◌≤◌, true, List, [], length, take, Some, slice_get}
use Rattle.std.specs.List.{list_all}
use Rattle.message_types.specs.Spelling.{body_fits}
use Rattle.point_table.specs.declared.point.DeviceSizes.{DeviceSizes}
use Rattle.master_points.specs.declared.plant.Plant.{Plant}
use Rattle.protocol_rules.specs.Places.{in_place}
use Rattle.field_proxy.specs.Front.{fresh}
use Rattle.scenario_file.specs.Reading.{Contents}
use Rattle.scenario_file.specs.Valid.{IsScenario}
use Rattle.history_rules.specs.Events.{Event, Entry}
use Rattle.history_rules.specs.Setup.{room, leaves_used, signed_from, stands}
use Rattle.history_rules.specs.Legal.{says_in}
use Rattle.history_laws.specs.BenchLists.{AddsEntry, IsBenchList}
use Rattle.world_rules.specs.Clients.{front_of, desk_of, proxy_says, screen_says}
use Rattle.world_rules.specs.Scenarios.{masters_in, proxies_in, HasKey, setup_of}
use Rattle.client_roles.specs.Roles.{carries_well}

-- a client as an actor
abbrev pub client_actor : Contents → ℕ → ℕ
client_actor c client = masters_in c + client

-- A proxy or a screen that has had no event yet is one that was just made.
abbrev pub ProxiesBeginFresh : Type 0
ProxiesBeginFresh =
    (n f client : ℕ) (plant : Plant) (device : DeviceSizes) → slice_get plant.devices client ≡ Some device
    → front_of n f plant client [] ≡ fresh client n f plant.points device

abbrev pub ScreensBeginFresh : Type 0
ScreensBeginFresh = (n f client : ℕ) →
    desk_of n f client [] ≡ record { client = client; n = n; f = f; commands = 0; votes = [] }

-- At no event a proxy counts more updates than the plant has points ..
abbrev pub UpdatesStayFew : Type 0
UpdatesStayFew =
    (n f client : ℕ) (plant : Plant) (own : List Entry) → length plant.points ≤ 1024 →
    (front_of n f plant client own).updates ≤ 1024 * length own

-- .. and a screen at most one command.
abbrev pub CommandsStayFew : Type 0
CommandsStayFew =
    (c : Contents) (n f client : ℕ) (own : List Entry) → proxies_in c ≤ client →
    IsBenchList (setup_of c) (client_actor c client) own
    → (desk_of n f client own).commands ≤ length own

-- What a client says is cut to the room that its leaves leave, of what a proxy is to say ..
abbrev pub ProxiesSayByRoom : Type 0
ProxiesSayByRoom =
    (c : Contents) (client : ℕ) (own : List Entry) (event : Event) → client < proxies_in c
    → says_in (setup_of c) (client_actor c client) own event
    ≡ take (room (setup_of c) own) (proxy_says (front_of (masters_in c) c.settings.f c.plant client own) event)

-- .. or a screen.
abbrev pub ScreensSayByRoom : Type 0
ScreensSayByRoom =
    (c : Contents) (client : ℕ) (own : List Entry) (event : Event) → proxies_in c ≤ client
    → says_in (setup_of c) (client_actor c client) own event
    ≡ take (room (setup_of c) own) (screen_says (desk_of (masters_in c) c.settings.f client own) event)

-- A client of a scenario comes to an event after its own list: the list is short enough that its updates' numbers have
-- 64 bits, and so have the numbers that the event hands it.
pub record MaySay (c : Contents) (client : ℕ) (own : List Entry) (event : Event) : Type 0 where
  pub scenario : IsScenario c
  pub there : client < proxies_in c + c.settings.screens
  pub history : IsBenchList (setup_of c) (client_actor c client) own
  pub short : length own < 2 ^ 32
  pub carried : carries_well event ≡ true

-- Each word that it says there has a spelling, and is in its place in its name. (A signature has no part in it.)
abbrev pub ClientWordsFit : Type 0
ClientWordsFit =
    (c : Contents) (client : ℕ) (own : List Entry) (event : Event) → MaySay c client own event
    → list_all body_fits (says_in (setup_of c) (client_actor c client) own event) ≡ true

abbrev pub ClientWordsAreInPlace : Type 0
ClientWordsAreInPlace =
    (c : Contents) (client : ℕ) (own : List Entry) (event : Event) → MaySay c client own event
    → list_all (λ b. in_place (setup_of c).group record { signer = client_actor c client; body = b; sig = [] })
    (says_in (setup_of c) (client_actor c client) own event) ≡ true

-- So the frames of what a client that has its key says stand: whoever takes frames that stand takes them.
abbrev pub ClientFramesStand : Type 0
ClientFramesStand =
    (c : Contents) (client : ℕ) (own : List Entry) (e : Entry) → MaySay c client own e.event →
    HasKey c (client_actor c client) → AddsEntry (setup_of c) (client_actor c client) own e
    → list_all (stands (setup_of c))
    (signed_from (setup_of c) (client_actor c client) (leaves_used (setup_of c) own) e.said 0 e.said) ≡ true
