-- What an actor says after its own list, without stamps and without where its frames were said.
use Rattle.std.proofs.Common.{◌≡◌, ℕ, ◌-◌, cond, List, [], map, take, nat_lt, sym, ◌∙◌, ap}
use Rattle.protocol_rules.specs.Master.{answers}
use Rattle.scenario_file.specs.Reading.{Contents}
use Rattle.history_rules.specs.Events.{Event, Entry}
use Rattle.history_rules.specs.Setup.{Setup}
use Rattle.history_rules.specs.Leaves.{room_of}
use Rattle.history_rules.specs.Legal.{intruded_says, master_says, would_say, says_in}
use Rattle.world_rules.specs.Clients.{front_of, desk_of, proxy_says, screen_says}
use Rattle.world_rules.specs.Scenarios.{proxies_in, masters_in, client_in, setup_of}
use Rattle.world_rules.proofs.Fields.{setup_goes_by}
use Rattle.joint_lists.specs.Plain.{without_place, plain}
use Rattle.joint_lists.proofs.PlainEvents.{taken_plain, tick_plain, silent_plain, proxy_plain, screen_plain}
use Rattle.joint_lists.proofs.PlainLists.{leaves_plain, heard_plain, front_plain, desk_plain}

master_plain : (w : Setup) (master : ℕ) (list : List Entry) (event : Event) →
    master_says w master (map plain list) (without_place event) ≡ master_says w master list event
master_plain w master list event =
    λ i. cond (silent_plain event i) []
    (answers w.group w.orders master (heard_plain w master list i) (taken_plain event i) (tick_plain event i))

client_plain : (c : Contents) (actor : ℕ) (list : List Entry) (event : Event) →
    client_in c actor (map plain list) (without_place event) ≡ client_in c actor list event
client_plain c actor list event =
    let client : ℕ = actor - masters_in c in
    λ i. cond (nat_lt client (proxies_in c))
    ((ap (λ s. proxy_says s (without_place event)) (front_plain (masters_in c) c.settings.f c.plant client list)
    ∙ proxy_plain (front_of (masters_in c) c.settings.f c.plant client list) event) i)
    ((ap (λ s. screen_says s (without_place event)) (desk_plain (masters_in c) c.settings.f client list)
    ∙ screen_plain (desk_of (masters_in c) c.settings.f client list) event) i)

would_plain : (c : Contents) (actor : ℕ) (list : List Entry) (event : Event) →
    would_say (setup_of c) actor (map plain list) (without_place event) ≡ would_say (setup_of c) actor list event
would_plain c actor list event =
    let client : (setup_of c).client_says actor (map plain list)
    (without_place event) ≡ (setup_of c).client_says actor list event =
    (setup_goes_by c).clients actor (map plain list) (without_place event) ∙ client_plain c actor list event
    ∙ sym ((setup_goes_by c).clients actor list event) in
    λ i. cond (nat_lt actor (setup_of c).group.n)
    (cond ((setup_of c).intruded actor) intruded_says (master_plain (setup_of c) actor list event i)) (client i)

pub says_plain : (c : Contents) (actor : ℕ) (list : List Entry) (event : Event) →
    says_in (setup_of c) actor (map plain list) (without_place event) ≡ says_in (setup_of c) actor list event
unfolding says_in
says_plain c actor list event =
    λ i. take (room_of (setup_of c).shared_leaves ((setup_of c).leaves - leaves_plain (setup_of c) list i))
    (would_plain c actor list event i)
