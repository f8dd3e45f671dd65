-- The scenario is one by its seed too.
use Rattle.std.specs.Option.{option_copied}
use Rattle.printed_history.proofs.AtHand.{seeded_scenario}
use Rattle.printed_history.proofs.reading.SoFar.company.Goals as goal

pub of-requires : goal.of-requires
of-requires c =
    seeded_scenario c.args.self.now.scenario.now (option_copied c.args.self.now.held) c.requires.scenario

pub returns : goal.returns
returns c = c.of.ensures
