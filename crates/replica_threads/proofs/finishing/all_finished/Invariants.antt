use Rattle.std.proofs.Common.{◌≡◌, ◌++◌, length, All}
use Rattle.replica_threads.specs.Hands.{ArePassesOf}
use Rattle.replica_threads.specs.Ended.{HasEnded}
use Rattle.replica_threads.proofs.finishing.all_finished.Given as goal

-- the stations so far have ended
abbrev pub invariant-loop-station : goal.invariant-loop-station
invariant-loop-station g l = record {
  whole : l.yielded ++ l.station-iterator.rest.items ≡ l.fn.stations.items;
  passes : ArePassesOf l.shared.inboxes.now l.passes.items;
  each : All (HasEnded g.N.Naming.name.turns) l.all.items;
  many : length l.all.items ≡ length l.yielded;
}
