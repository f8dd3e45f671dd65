use Rattle.std.proofs.Common.{◌≡◌, drop}
use Rattle.scenario_file.specs.Keepers.{calls_of}
use Rattle.scenario_file.proofs.keepers.calls_of.Given as goal

abbrev pub invariant-loop-keeper : goal.invariant-loop-keeper
invariant-loop-keeper l = calls_of (drop l.keeper-index l.keepers) l.actor ≡ calls_of l.keepers l.actor
