-- What the owner of one actor's key does without the scenario's seed, as statements. (This project's own; the keys are
-- those of RFC 8554.)
use Rattle.std.specs.Prelude.{◌≡◌, ℕ, true, List, Some, None}
use Rattle.ots_keys.specs.declared.parameters.Ots.TheVariants.{W4}
use Rattle.hash_signatures.specs.State.{key_from}
use Rattle.scenario_file.specs.declared.held.HeldKeys.{HeldKeys}
use Rattle.scenario_file.specs.Reading.{Contents}
use Rattle.history_rules.specs.Events.{Entry}
use Rattle.world_rules.specs.Scenarios.{key_in}
use Rattle.world_history.specs.Signed.{publics_in}
use Rattle.joint_lists.specs.Stations.{IsStation, acts_alone}
use Rattle.kept_lines.specs.Lines.{kept_file}
use Rattle.station_lives.specs.Saying.{word_lines}

-- a scenario as the owner of one key reads it: whatever stands for the seed, and the keys that are held
abbrev pub with_key_alone : Contents → List ℕ → HeldKeys → Contents
with_key_alone c other held = record c { settings = record c.settings { seed = other }; held = Some held }

-- What is held is the ring of all actors' public keys of a scenario with its seed, and one actor's own key in it.
pub record Owns (c : Contents) (actor : ℕ) (held : HeldKeys) : Type 0 where
  pub seed : c.held ≡ None
  pub ring : held.ring ≡ publics_in c
  pub key : key_from held.seed held.identifier c.settings.heights W4 ≡ key_in c actor

-- Each list that an owner lives by itself is a list of that actor under the scenario with its seed.
abbrev pub OwnersAreStations : Type 0
OwnersAreStations =
    (c : Contents) (actor : ℕ) (held : HeldKeys) (other : List ℕ) (list : List Entry) → Owns c actor held →
    IsStation (with_key_alone c other held) actor list → IsStation c actor list

-- An owner's file is, byte for byte, the one that is kept under the scenario with its seed.
abbrev pub OwnersKeepTheSame : Type 0
OwnersKeepTheSame =
    (c : Contents) (actor : ℕ) (held : HeldKeys) (other : List ℕ) (list : List Entry) → Owns c actor held →
    acts_alone actor list ≡ true → kept_file (with_key_alone c other held) list ≡ kept_file c list

-- An owner's words are, byte for byte, those that its actor says under the scenario with its seed.
abbrev pub OwnersSayTheSame : Type 0
OwnersSayTheSame =
    (c : Contents) (held : HeldKeys) (other : List ℕ) (before : List Entry) (e : Entry) → Owns c e.actor held →
    word_lines (with_key_alone c other held) before e ≡ word_lines c before e
