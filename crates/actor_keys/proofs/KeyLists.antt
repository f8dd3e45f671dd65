-- The public keys of one actor more.
use Rattle.std.proofs.Common.{◌≡◌, ◌+◌, ℕ, List, [], ◌∷◌, ◌++◌, length, refl, ◌∙◌}
use Rattle.std.proofs.lemmas.List.{length-map}
use Rattle.quorum_sets.specs.Masters.{numbers_below}
use Rattle.hash_signatures.specs.Signatures.{key_public}
use Rattle.actor_keys.specs.Keys.{key_of, public_keys}
use Rattle.quorum_sets.proofs.Numbered.{length-numbers_below, map_more}

pub none_yet : (seed heights : List ℕ) → public_keys seed heights 0 ≡ []
unfolding public_keys numbers_below
none_yet seed heights = refl

pub one_more : (seed heights : List ℕ) (actors : ℕ) →
    public_keys seed heights (actors + 1) ≡ public_keys seed heights actors
    ++ key_public (key_of seed heights actors) ∷ []
unfolding public_keys
one_more seed heights actors = map_more (λ actor. key_public (key_of seed heights actor)) actors

pub one_each : (seed heights : List ℕ) (actors : ℕ) → length (public_keys seed heights actors) ≡ actors
unfolding public_keys
one_each seed heights actors =
    length-map (numbers_below actors) (λ actor. key_public (key_of seed heights actor)) ∙ length-numbers_below actors
