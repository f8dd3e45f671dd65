use Rattle.std.proofs.Common.{◌≡◌, ◌++◌, length}
use Rattle.replica_threads.proofs.gathering.gathered.Given as goal

-- the stations so far were given
abbrev pub invariant-loop-station : goal.invariant-loop-station
invariant-loop-station g l = record {
  whole : l.yielded ++ l.station-iterator.rest.items ≡ l.fn.given.items;
  many : length l.stations.items ≡ length l.yielded;
}
