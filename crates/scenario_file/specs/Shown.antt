use Rattle.scenario_file.specs.declared.settings.Group.{Group}
use Rattle.scenario_file.specs.Settings.{Settings}

-- what a group says
abbrev pub settings_shown : Group → Settings
settings_shown g = record {
  f = g.sizes.f;
  k = g.sizes.k;
  seed = g.seed;
  heights = g.heights;
  frames = g.frames;
  intruded = g.intruded;
  screens = g.screens;
  rules = g.sizes.rules;
}
