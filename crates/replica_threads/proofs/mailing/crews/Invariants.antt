use Rattle.std.proofs.Common.{◌≡◌, ◌++◌, map, All}
use Rattle.replica_threads.specs.Hands.{ArePassesOf}
use Rattle.replica_threads.specs.Courses.{IsCrew}
use Rattle.replica_threads.proofs.mailing.crews.Given as goal

-- the stations so far have their hands
abbrev pub invariant-loop-station : goal.invariant-loop-station
invariant-loop-station g l = record {
  whole : l.yielded ++ l.station-iterator.rest.items ≡ l.fn.stations.items;
  passes : ArePassesOf l.inboxes l.passes.items;
  hands : All (IsCrew l.inboxes l.masters l.hands) l.crews.items;
  same : map (λ crew. crew.1) l.crews.items ≡ l.yielded;
}
