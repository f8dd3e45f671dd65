-- What a client of a scenario says: its words as a proxy or a screen, cut to its room.
use Rattle.std.proofs.Common.{◌≡◌, ◌≤◌, ◌+◌, ◌-◌, ℕ, Bool, true, false, List, [], take, length, nat_lt, ap, ◌∙◌}
use Rattle.std.proofs.Common.{arith}
use Rattle.std.specs.Prelude.{if◌then◌else◌}
use Rattle.std.proofs.lemmas.Bool.{le-ltb, lt-ltb}
use Rattle.protocol_rules.specs.Group.{Group}
use Rattle.scenario_file.specs.Reading.{Contents}
use Rattle.operator_screen.specs.Board.{Desk}
use Rattle.history_rules.specs.Events.{Event, Took, Tick, Command, Field, Poll, Cry, Skip, Restart, Entry}
use Rattle.history_rules.specs.Setup.{Setup, room}
use Rattle.history_rules.specs.Legal.{says_in, master_says}
use Rattle.world_rules.specs.Clients.{front_of, desk_of, proxy_says, screen_says}
use Rattle.world_rules.specs.Scenarios.{masters_in, proxies_in, client_in, setup_of}
use Rattle.world_rules.proofs.Fields.{setup_goes_by, group_is}
use Rattle.client_roles.specs.Laws.{client_actor, ProxiesSayByRoom, ScreensSayByRoom}
use Rattle.plain_lists.proofs.Lists.{take_few}

no_master_says : (w : Setup) (actor : ℕ) (own : List Entry) (event : Event) → nat_lt actor w.group.n ≡ false
    → says_in w actor own event ≡ take (room w own) (w.client_says actor own event)
unfolding says_in
no_master_says w actor own event behind =
    ap (λ (b : Bool). take (room w own) (if b then (if w.intruded actor then [] else master_says w actor own event)
    else w.client_says actor own event)) behind

back : (masters client : ℕ) → masters + client - masters ≡ client
back masters client = omega arith

not_below : (masters client : ℕ) → nat_lt (masters + client) masters ≡ false
not_below masters client = le-ltb (masters + client) masters (omega arith)

pub behind_masters : (c : Contents) (client : ℕ) → nat_lt (client_actor c client) (setup_of c).group.n ≡ false
behind_masters c client = ap (λ (g : Group). nat_lt (client_actor c client) g.n) (group_is c)
    ∙ not_below (masters_in c) client

pub client_says_by_room : (c : Contents) (client : ℕ) (own : List Entry) (event : Event)
    → says_in (setup_of c) (client_actor c client) own event ≡ take (room (setup_of c) own)
    (client_in c (client_actor c client) own event)
client_says_by_room c client own event =
    no_master_says (setup_of c) (client_actor c client) own event (behind_masters c client)
    ∙ ap (take (room (setup_of c) own)) ((setup_goes_by c).clients (client_actor c client) own event)

by_role : (c : Contents) (client : ℕ) (own : List Entry) (event : Event) (b : Bool) → nat_lt client (proxies_in c) ≡ b
    → client_in c (client_actor c client) own event
    ≡ (if b then proxy_says (front_of (masters_in c) c.settings.f c.plant client own) event else screen_says
    (desk_of (masters_in c) c.settings.f client own) event)
by_role c client own event b is =
    ap (λ (k : ℕ). if nat_lt k (proxies_in c) then proxy_says (front_of (masters_in c) c.settings.f c.plant k own)
    event else screen_says (desk_of (masters_in c) c.settings.f k own) event)
    (back (masters_in c) client)
    ∙ ap (λ (d : Bool). if d then proxy_says (front_of (masters_in c) c.settings.f c.plant client own)
    event else screen_says (desk_of (masters_in c) c.settings.f client own) event) is

pub proxies_say_by_room : ProxiesSayByRoom
proxies_say_by_room c client own event proxy =
    client_says_by_room c client own event
    ∙ ap (take (room (setup_of c) own)) (by_role c client own event true (lt-ltb client (proxies_in c) proxy))

pub screens_say_by_room : ScreensSayByRoom
screens_say_by_room c client own event screen =
    client_says_by_room c client own event
    ∙ ap (take (room (setup_of c) own)) (by_role c client own event false (le-ltb client (proxies_in c) screen))

at_most_one : (s : Desk) (event : Event) → length (screen_says s event) ≤ 1
at_most_one s (Command op) = omega arith
at_most_one s (Took stamp place frame) = omega arith
at_most_one s Tick = omega arith
at_most_one s (Field area place value) = omega arith
at_most_one s Poll = omega arith
at_most_one s (Cry bytes) = omega arith
at_most_one s Skip = omega arith
at_most_one s Restart = omega arith

-- a screen says at most one word at an event
pub screen_says_few : (c : Contents) (client : ℕ) (own : List Entry) (event : Event) → proxies_in c ≤ client
    → length (says_in (setup_of c) (client_actor c client) own event) ≤ 1
screen_says_few c client own event screen =
    let s = desk_of (masters_in c) c.settings.f client own in
    let same : length (says_in (setup_of c) (client_actor c client) own event) ≡ length
    (take (room (setup_of c) own) (screen_says s event)) =
    ap length (screens_say_by_room c client own event screen) in
    let cut = take_few (room (setup_of c) own) (screen_says s event) in
    let one = at_most_one s event in
    omega arith
