-- By which keys a scenario's frames are checked, and an actor's bodies with their signatures. (This project's own.)
use Rattle.std.specs.Prelude.{ℕ, ◌+◌, List, map, Option, Some, None}
use Rattle.std.specs.List.{zip}
use Rattle.message_types.specs.declared.signed.Signed.{Signed}
use Rattle.message_types.specs.declared.body.Body.{Body}
use Rattle.actor_keys.specs.Keys.{public_keys}
use Rattle.checked_frames.specs.Standing.{Ring, ring_of}
use Rattle.scenario_file.specs.declared.held.HeldKeys.{HeldKeys}
use Rattle.scenario_file.specs.Reading.{Contents}
use Rattle.world_rules.specs.Scenarios.{group_in}

-- the public keys of so many actors, in the order of their numbers: those of the keys that the seed makes, or else the ring
-- that is held
abbrev pub publics_with : Option HeldKeys → List ℕ → List ℕ → ℕ → List (List ℕ)
publics_with None seed heights actors = public_keys seed heights actors
publics_with (Some held) seed heights actors = held.ring

abbrev pub publics_in : Contents → List (List ℕ)
publics_in c = publics_with c.held c.settings.seed c.settings.heights ((group_in c).n + (group_in c).clients)

-- the public keys of a scenario's actors, by which frames are checked
abbrev pub ring_in : Contents → Ring
ring_in c = ring_of (group_in c) (publics_in c)

-- an actor's bodies as frames, each with its signature
abbrev pub frames_with : ℕ → List Body → List (List ℕ) → List (Signed Body)
frames_with actor bodies signatures =
    map (λ p. record { signer = actor; body = p.0; sig = p.1 }) (zip bodies signatures)
