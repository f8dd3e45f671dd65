-- Each that was given is one more station, and in the end none is left.
use Rattle.std.proofs.Common.{◌≡◌, length, ◌∙◌, ap, arith, rules}
use Rattle.replica_threads.proofs.Taken.{one_taken, all_taken, one_made}
use Rattle.replica_threads.proofs.gathering.gathered.Goals as goal

pub loop-station-init : goal.loop-station-init
loop-station-init g c = record { whole = search rules; many = ap length c.in_ok-stations.ensures.items }

pub loop-station-preserved : goal.loop-station-preserved
loop-station-preserved g c = record {
  whole = one_taken c.args.given.items c.loop-station.yielded c.loop-station.station-iterator.rest.items
      c.next.new.self.rest.items c.in-Some.station c.loop-station.invariant.whole
      c.in-Some.ensures.steps.0;
  many = one_made c.loop-station.yielded c.loop-station.stations.items c.push.new.self.items c.in-Some.station
      c.in_ok-station.field-0 c.loop-station.invariant.many c.in_ok-push.ensures.items;
}

pub returns : goal.returns
returns g c =
    let none : length c.loop-station.station-iterator.rest.items ≡ 0 =
    omega (arith, c.in-None.ensures.steps, c.loop-station.station-iterator.rest.ok) in
    c.loop-station.invariant.many ∙ all_taken c.args.given.items c.loop-station.yielded
    c.loop-station.station-iterator.rest.items c.loop-station.invariant.whole none
