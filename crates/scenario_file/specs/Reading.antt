-- What a scenario file says: its keys in the order in which they are tried, and then that it has no others.
use Rattle.std.specs.Prelude.{ℕ, List, [], ◌∷◌, length, replicate, Option, Some, None, Result, Ok, Err}
use Rattle.toml.specs.Data.{Members}
use Rattle.toml.specs.Parse.{parse_document}
use Rattle.quorum_sets.specs.Quorum.{group_size}
use Rattle.quorum_sets.specs.declared.sizes.Rules.TheVariants.{First}
use Rattle.master_points.specs.declared.plant.Plant.{Plant}
use Rattle.scenario_file.specs.declared.actors.Cast.{Cast}
use Rattle.scenario_file.specs.declared.held.HeldKeys.{HeldKeys}
use Rattle.scenario_file.specs.declared.refusal.ScenarioRefusal.{ScenarioRefusal}
use Rattle.scenario_file.specs.declared.refusal.ScenarioRefusal.TheVariants as refusal
use Rattle.scenario_file.specs.declared.scenario.Scenario.{Scenario}
use Rattle.scenario_file.specs.Answers.{Answer, ◌>>=◌}
use Rattle.scenario_file.specs.Settings.{Settings, settings_of}
use Rattle.scenario_file.specs.PlantRows.{plant_of}
use Rattle.scenario_file.specs.Keepers.{keepers_of, failing_of}
use Rattle.scenario_file.specs.Unknown.{first_unknown}

-- What a scenario says, and the keys that are held where its seed isn't known. A scenario that is read has its seed.
pub record Contents : Type 0 where
  pub settings : Settings
  pub plant : Plant
  pub failing : List (List ℕ)
  pub held : Option HeldKeys

-- the scenario as one who has these keys, and not the seed, knows it
abbrev pub with_held : Contents → Option HeldKeys → Contents
with_held c held = record c { held = held }

-- its actors
abbrev pub cast_of : Settings → Plant → Cast
cast_of s plant = record { masters = group_size s.f s.k; proxies = length plant.devices; screens = s.screens }

abbrev pub unless_unknown : {A : Type 0} → A → Option (List ℕ) → Result A ScenarioRefusal
unless_unknown x None = Ok x
unless_unknown x (Some name) = Err (refusal.UnknownKey name)

-- the scenario of a document, or its first fault
unfoldable pub scenario_of : Members → Answer Contents
scenario_of doc = do
  settings ← settings_of doc
  plant ← plant_of doc
  keepers ← keepers_of (cast_of settings plant) settings.intruded doc
  unknown ← first_unknown doc
  unless_unknown (record {
    settings = settings;
    plant = plant;
    failing =
        failing_of (cast_of settings plant) keepers;
    held = None;
  }) unknown

abbrev pub or_no_toml : Option Members → Answer Contents
or_no_toml None = Err refusal.BadToml
or_no_toml (Some doc) = scenario_of doc

-- the scenario of a text
unfoldable pub scenario_in : List ℕ → Answer Contents
scenario_in text = or_no_toml (parse_document text)

-- what a scenario that is read says
abbrev pub contents : Scenario → Contents
contents s = record {
  settings = record {
    f = s.sizes.f;
    k = s.sizes.k;
    seed = s.seed;
    heights = s.heights;
    frames = s.frames;
    intruded =
        s.intruded;
    screens = s.screens;
    rules = s.sizes.rules;
  };
  plant = s.plant;
  failing = s.failing;
  held = None;
}

-- four masters and one screen, no plant, and a seed of zeros
abbrev pub smallest : Contents
smallest = record {
  settings = record {
    f = 1;
    k = 0;
    seed = replicate 32 0;
    heights = 5 ∷ 5 ∷ 5 ∷ [];
    frames = 1;
    intruded = [];
    screens = 1;
    rules = First;
  };
  plant = record { devices = []; points = []; alarms = []; interlocks = [] };
  failing = [] ∷ [] ∷ [] ∷ [] ∷ [] ∷ [];
  held = None;
}
