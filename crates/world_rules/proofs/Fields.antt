-- What the setup of a scenario is, part by part.
use Rattle.std.proofs.Common.{◌≡◌, ◌≤◌, ℕ, List, Option, Some, None, length, take, refl, sym, ◌∙◌, subst, arith}
use Rattle.std.specs.Option.{ForSome}
use Rattle.std.proofs.lemmas.List.{length-take}
use Rattle.sha2.proofs.Facts256.{length-sha256}
use Rattle.hash_signatures.specs.Signatures.{Key, key_public, all_leaves}
use Rattle.hash_signatures.specs.State.{IsLevelCount, HasMadeHeights}
use Rattle.actor_keys.specs.Keys.{key_of, actor_identifier, derived}
use Rattle.scenario_file.specs.declared.held.HeldKeys.{HeldKeys}
use Rattle.scenario_file.specs.Reading.{Contents}
use Rattle.scenario_file.specs.Valid.{IsScenario}
use Rattle.agreement.specs.Laws.{HasSizes}
use Rattle.world_rules.specs.Scenarios.{group_in, key_in, key_with, public_in, public_with, HasKey, setup_of}
use Rattle.world_rules.specs.Laws.{SizesOfGroup, OrdersGoByPlant, LeavesOfAll, SeedHasKeys, SetupGoesBy}

pub setup_goes_by : SetupGoesBy
unfolding setup_of
setup_goes_by c = record {
  group = refl;
  intruded = λ master. refl;
  clients = λ actor own event. refl;
  fits = λ actor event. refl;
  signature = λ actor used said place. refl;
  signs = λ actor text sig. refl;
  shared_leaves = refl;
  failing = λ actor. refl;
}

pub group_is : (c : Contents) → (setup_of c).group ≡ group_in c
group_is c = (setup_goes_by c).group

pub sizes_of_group : SizesOfGroup
sizes_of_group c is = subst HasSizes (sym (group_is c)) (record { group = is.group; all = refl; quorum = refl })

pub orders_go_by_plant : OrdersGoByPlant
unfolding setup_of
orders_go_by_plant c updates client = refl

-- whatever is held, the keys of a scenario's actors differ in nothing but seed and identifier
heights_with : (held : Option HeldKeys) (seed heights : List ℕ) (actor : ℕ) →
    (key_with held seed heights actor).heights ≡ heights
unfolding key_of
heights_with None seed heights actor = refl
heights_with (Some held) seed heights actor = refl

leaves_with : (held : Option HeldKeys) (seed heights : List ℕ) (actor other : ℕ)
    → all_leaves (key_with held seed heights other) ≡ all_leaves (key_with held seed heights actor)
unfolding key_of
leaves_with None seed heights actor other = refl
leaves_with (Some held) seed heights actor other = refl

leaves_are : (c : Contents) → (setup_of c).leaves ≡ all_leaves (key_in c 0)
unfolding setup_of
leaves_are c = refl

leaves_same : (c : Contents) (actor : ℕ) → all_leaves (key_in c 0) ≡ all_leaves (key_in c actor)
unfolding key_in
leaves_same c actor = leaves_with c.held c.settings.seed c.settings.heights actor 0

pub leaves_of_all : LeavesOfAll
leaves_of_all c actor = leaves_are c ∙ leaves_same c actor

-- an actor's key as a key that can be made
pub key_heights : (c : Contents) (actor : ℕ) → (key_in c actor).heights ≡ c.settings.heights
unfolding key_in
key_heights c actor = heights_with c.held c.settings.seed c.settings.heights actor

-- where the seed is known, each actor has its key
public_of_seed : (held : Option HeldKeys) (key : Key) (actor : ℕ) → held ≡ None →
    public_with held key actor ≡ key_public key
public_of_seed None key actor is = refl
public_of_seed (Some held) key actor is = absurd (cc)

pub seed_has_keys : SeedHasKeys
unfolding public_in
seed_has_keys c actor is = public_of_seed c.held (key_in c actor) actor is

first_half : (hash : List ℕ) → length hash ≡ 32 → length (take 16 hash) ≡ 16
first_half hash size = omega (arith, length-take 16 hash)

identifier_size : (seed : List ℕ) (actor : ℕ) → length (actor_identifier seed actor) ≡ 16
unfolding actor_identifier
identifier_size seed actor = first_half (derived seed actor 1) (length-sha256 _)

id_with : (held : Option HeldKeys) (seed heights : List ℕ) (actor : ℕ) →
    ForSome held (λ keys. length keys.identifier ≡ 16) → length (key_with held seed heights actor).id ≡ 16
unfolding key_of
id_with None seed heights actor is = identifier_size seed actor
id_with (Some held) seed heights actor is = is held refl

pub key_id : (c : Contents) (actor : ℕ) → IsScenario c → length (key_in c actor).id ≡ 16
unfolding key_in
key_id c actor is = id_with c.held c.settings.seed c.settings.heights actor is.held

pub key_levels : (c : Contents) (actor : ℕ) → IsScenario c → IsLevelCount (length (key_in c actor).heights)
key_levels c actor is =
    let some = is.some_levels in
    let most = is.at_most_three_levels in
    let few : length c.settings.heights ≤ 6 = omega arith in
    subst (λ (hs : List ℕ). IsLevelCount (length hs)) (sym (key_heights c actor)) (some, few)

pub key_made : (c : Contents) (actor : ℕ) → IsScenario c → HasMadeHeights (key_in c actor).heights
key_made c actor is = subst HasMadeHeights (sym (key_heights c actor)) is.heights
