-- Each station gets hands of its own, as many as its actor has, and they stand in the order of the stations.
use Rattle.std.proofs.Common.{◌≡◌, length, map, ap, arith, rules}
use Rattle.replica_threads.proofs.Taken.{one_taken}
use Rattle.replica_threads.proofs.Passes.{no_crews, one_crew, crews_same, crews_whole}
use Rattle.replica_threads.proofs.mailing.crews.Goals as goal

pub loop-station-init : goal.loop-station-init
loop-station-init g c = record {
  whole = search rules;
  passes = c.requires.passes;
  hands = no_crews c.args.inboxes.now c.args.masters c.args.hands c.in_ok-crews.crews.items
      c.in_ok-crews.ensures.items;
  same = ap (map (λ crew. crew.1)) c.in_ok-crews.ensures.items;
}

pub loop-station-preserved : goal.loop-station-preserved
loop-station-preserved g c = record {
  whole = one_taken c.args.stations.items c.loop-station.yielded c.loop-station.station-iterator.rest.items
      c.next.new.self.rest.items c.in-Some.station c.loop-station.invariant.whole
      c.in-Some.ensures.steps.0;
  passes = c.jobs.ensures.passes;
  hands = one_crew c.args.inboxes.now c.args.masters c.args.hands c.hands_of-count.result c.actor.result
      c.loop-station.crews.items
      c.push.new.self.items c.in_ok-jobs.jobs c.in-Some.station c.loop-station.invariant.hands
      c.in_ok-jobs.ensures.jobs (c.hands_of-count.ensures) c.actor.ensures.whose c.in_ok-push.ensures.items;
  same = crews_same c.loop-station.crews.items c.push.new.self.items c.loop-station.yielded c.in_ok-jobs.jobs
      c.in-Some.station c.loop-station.invariant.same c.in_ok-push.ensures.items;
}

pub returns-clause-stations : goal.returns-clause-stations
returns-clause-stations g c =
    let none : length c.loop-station.station-iterator.rest.items ≡ 0 =
    omega (arith, c.in-None.ensures.steps, c.loop-station.station-iterator.rest.ok) in
    crews_whole c.args.stations.items c.loop-station.yielded c.loop-station.station-iterator.rest.items
    c.loop-station.crews.items c.loop-station.invariant.whole none c.loop-station.invariant.same
