use Rattle.std.proofs.Common.{◌≡◌, map}
use Rattle.quorum_sets.specs.Masters.{numbers_below}
use Rattle.scenario_file.specs.Keepers.{calls_of}
use Rattle.scenario_file.proofs.keepers.failing_lists.Given as goal

abbrev pub invariant-loop-actor : goal.invariant-loop-actor
invariant-loop-actor l = l.lists ≡ map (calls_of l.keepers) (numbers_below l.actor)
