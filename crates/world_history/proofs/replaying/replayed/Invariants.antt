use Rattle.std.proofs.Common.{◌≡◌, take}
use Rattle.scenario_file.specs.Reading.{contents}
use Rattle.world_history.specs.Benches.{benches_of}
use Rattle.world_history.proofs.replaying.replayed.Given as goal

abbrev pub invariant-loop-entry : goal.invariant-loop-entry
invariant-loop-entry l = l.benches.items ≡ benches_of (contents l.scenario) (take l.entry-index l.history)
