use Rattle.std.proofs.Common.{◌∙◌}
use Rattle.scenario_file.specs.Shown.{settings_shown}
use Rattle.scenario_file.specs.Reading.{smallest}
use Rattle.scenario_file.proofs.ValidLaws.{whole-of, no-failing}
use Rattle.scenario_file.proofs.scenario.Scenario.s1.Goals as goal

pub returns : goal.returns
returns c =
    c.with_plant.ensures
    ∙ whole-of (settings_shown c.in_ok-smallest_group.field-0) smallest.settings c.empty_plant.result smallest.plant
    c.in_ok-failing.failing smallest.failing
    c.in_ok-smallest_group.ensures c.empty_plant.ensures (c.in_ok-failing.ensures ∙ no-failing)
