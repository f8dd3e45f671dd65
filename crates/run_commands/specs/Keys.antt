-- The keys of a scenario's actors, as texts: the ring of the public ones, and what one actor's own key is made of. (This
-- project's own; the bytes of a public key are those of RFC 8554, section 6.1.)
use Rattle.std.specs.Prelude.{ℕ, List, Option, option_map}
use Rattle.hash_signatures.specs.Signatures.{key_public}
use Rattle.actor_keys.specs.Keys.{actor_identifier, actor_seed, key_of, public_keys}
use Rattle.scenario_file.specs.Actors.{actors_of, actor_name, actor_named}
use Rattle.scenario_file.specs.Reading.{Contents, cast_of}
use Rattle.command_files.specs.Keys.{own_line, ring_line, ring_text}

-- an actor's line of the ring
unfoldable pub key_line : Contents → ℕ → List ℕ
key_line c actor =
    ring_line (actor_name (cast_of c.settings c.plant) actor)
    (key_public (key_of c.settings.seed c.settings.heights actor))

-- the lines of so many actors, in the order of their numbers
unfoldable pub key_lines : Contents → ℕ → List ℕ
key_lines c actors =
    ring_text (cast_of c.settings c.plant) (public_keys c.settings.seed c.settings.heights actors)

-- the ring of all actors
unfoldable pub keys_text : Contents → List ℕ
keys_text c = key_lines c (actors_of (cast_of c.settings c.plant))

-- an actor's own key: its name, the key's seed and its identifier
unfoldable pub own_key_text : Contents → ℕ → List ℕ
own_key_text c actor =
    own_line (actor_name (cast_of c.settings c.plant) actor) (actor_seed c.settings.seed actor)
    (actor_identifier c.settings.seed actor)

-- that of the actor of a name, if there is one
abbrev pub own_key_in : Contents → List ℕ → Option (List ℕ)
own_key_in c name = option_map (own_key_text c) (actor_named (cast_of c.settings c.plant) name)
