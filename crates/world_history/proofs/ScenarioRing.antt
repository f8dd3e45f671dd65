-- The ring of a scenario's actors is that of its group and of their keys.
use Rattle.std.proofs.Common.{◌≡◌, ℕ, ◌+◌, ◌<◌, ◌^◌, ◌∙◌, List, length, Some, ap, arith, Result, Ok, Err, IfOk}
use Rattle.protocol_rules.specs.Group.{group_of}
use Rattle.actor_keys.specs.Keys.{public_keys}
use Rattle.checked_frames.specs.Standing.{Ring, ring_of}
use Rattle.plain_lists.specs.declared.want.Want.{Want}
use Rattle.scenario_file.specs.declared.held.HeldKeys.{HeldKeys}
use Rattle.scenario_file.specs.declared.scenario.Scenario.{Scenario}
use Rattle.scenario_file.specs.declared.actors.Cast.{Cast}
use Rattle.scenario_file.specs.Reading.{contents, with_held, cast_of}
use Rattle.scenario_file.specs.Valid.{IsScenario}
use Rattle.world_rules.specs.Scenarios.{actors_in}
use Rattle.world_history.specs.Signed.{ring_in}

pub ring_seen : (s : Scenario) (clients : ℕ) → clients ≡ length s.plant.devices + s.screens
    → ring_of (group_of s.sizes clients) (public_keys s.seed s.heights (s.sizes.n + clients)) ≡ ring_in (contents s)
ring_seen s clients are =
    λ i. ring_of (record { n = s.sizes.all i; f = s.sizes.f; k = s.sizes.k; q = s.sizes.quorum i; clients = are i; rules = s.sizes.rules })
    (public_keys s.seed s.heights (s.sizes.all i + are i))

-- as many clients as a scenario has, and few actors
pub clients_are : (s : Scenario) (cast : Cast) → cast ≡ cast_of (contents s).settings s.plant →
    cast.proxies + cast.screens ≡ length s.plant.devices + s.screens
clients_are s cast is = ap (λ (x : Cast). x.proxies + x.screens) is

pub actors_are_few : (s : Scenario) (clients : ℕ) → IsScenario (contents s) →
    clients ≡ length s.plant.devices + s.screens → s.sizes.n + clients < 2 ^ 32
actors_are_few s clients is are =
    let masters = s.sizes.all in
    let intruded = is.group.at_most_three_intruded in
    let away = is.group.at_most_two_away in
    let proxies = is.plant.devices in
    let screens = is.at_most_four_screens in
    omega arith

pub ring_told : (s : Scenario) (clients : ℕ) (heights : List ℕ) (r : Result Ring Want) → heights ≡ s.heights →
    clients ≡ length s.plant.devices + s.screens
    → IfOk r (λ ring. ring ≡ ring_of (group_of s.sizes clients) (public_keys s.seed heights (s.sizes.n + clients))) →
    IfOk r (λ ring. ring ≡ ring_in (contents s))
ring_told s clients heights (Ok ring) same are made =
    made ∙ ap (λ (hs : List ℕ). ring_of (group_of s.sizes clients) (public_keys s.seed hs (s.sizes.n + clients))) same
    ∙ ring_seen s clients are
ring_told s clients heights (Err e) same are made = tt

-- The ring of keys that are held is that of the group and of the public keys among them, one for each actor.
pub held_for_all : (s : Scenario) (clients : ℕ) (publics ring : List (List ℕ)) → publics ≡ ring →
    length ring ≡ actors_in (contents s) → clients ≡ length s.plant.devices + s.screens
    → length publics ≡ s.sizes.n + clients
held_for_all s clients publics ring same all are =
    let masters = s.sizes.all in
    let long : length publics ≡ length ring = ap length same in
    omega arith

held_ring_seen : (s : Scenario) (clients : ℕ) (held : HeldKeys) → clients ≡ length s.plant.devices + s.screens
    → ring_of (group_of s.sizes clients) held.ring ≡ ring_in (with_held (contents s) (Some held))
held_ring_seen s clients held are =
    λ i. ring_of (record { n = s.sizes.all i; f = s.sizes.f; k = s.sizes.k; q = s.sizes.quorum i; clients = are i; rules = s.sizes.rules })
    held.ring

pub held_ring_told : (s : Scenario) (clients : ℕ) (held : HeldKeys) (publics : List (List ℕ)) (r : Result Ring Want) →
    publics ≡ held.ring → clients ≡ length s.plant.devices + s.screens
    → IfOk r (λ ring. ring ≡ ring_of (group_of s.sizes clients) publics) →
    IfOk r (λ ring. ring ≡ ring_in (with_held (contents s) (Some held)))
held_ring_told s clients held publics (Ok ring) same are made =
    made ∙ ap (ring_of (group_of s.sizes clients)) same ∙ held_ring_seen s clients held are
held_ring_told s clients held publics (Err e) same are made = tt
