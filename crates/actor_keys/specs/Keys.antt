-- The actors' keys, all made from the one seed of a scenario (this project's own).
use Rattle.std.specs.Prelude.{ℕ, List, ◌++◌, map, take}
use Rattle.sha2.specs.Sha256.{sha256}
use Rattle.wire_parts.specs.Fields.{u8_bytes, u32_bytes}
use Rattle.quorum_sets.specs.Masters.{numbers_below}
use Rattle.ots_keys.specs.declared.parameters.Ots.TheVariants.{W4}
use Rattle.hash_signatures.specs.Signatures.{Key, key_public}
use Rattle.hash_signatures.specs.State.{key_from}

-- the hash of the scenario's seed, an actor's number and a tag
abbrev pub derived : List ℕ → ℕ → ℕ → List ℕ
derived seed actor tag = sha256 (seed ++ u32_bytes actor ++ u8_bytes tag)

-- the seed of an actor's own key
unfoldable pub actor_seed : List ℕ → ℕ → List ℕ
actor_seed seed actor = derived seed actor 0

-- the identifier of its key's top tree
unfoldable pub actor_identifier : List ℕ → ℕ → List ℕ
actor_identifier seed actor = take 16 (derived seed actor 1)

-- an actor's key, with a level of trees for each of the scenario's heights and one-time keys of w = 4
unfoldable pub key_of : List ℕ → List ℕ → ℕ → Key
key_of seed heights actor = key_from (actor_seed seed actor) (actor_identifier seed actor) heights W4

-- the public keys of so many actors, in the order of their numbers
unfoldable pub public_keys : List ℕ → List ℕ → ℕ → List (List ℕ)
public_keys seed heights actors = map (λ actor. key_public (key_of seed heights actor)) (numbers_below actors)
