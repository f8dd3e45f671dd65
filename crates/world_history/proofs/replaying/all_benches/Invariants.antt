use Rattle.std.proofs.Common.{◌≡◌, [], map}
use Rattle.quorum_sets.specs.Masters.{numbers_below}
use Rattle.scenario_file.specs.Reading.{contents}
use Rattle.world_history.specs.Benches.{bench_in}
use Rattle.world_history.proofs.replaying.all_benches.Given as goal

abbrev pub invariant-loop-actor : goal.invariant-loop-actor
invariant-loop-actor l = l.benches.items ≡ map (bench_in (contents l.scenario) []) (numbers_below l.actor)
