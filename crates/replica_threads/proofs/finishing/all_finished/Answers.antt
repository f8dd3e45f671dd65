-- Each station that was finished has ended, and the passes stay those of the inboxes.
use Rattle.std.proofs.Common.{◌≡◌, length, ◌∙◌, ap, arith, rules}
use Rattle.replica_threads.proofs.Taken.{one_taken, all_taken, one_made}
use Rattle.replica_threads.proofs.Ends.{none_ended, one_ended}
use Rattle.replica_threads.proofs.finishing.all_finished.Goals as goal

pub loop-station-init : goal.loop-station-init
loop-station-init g c = record {
  whole = search rules;
  passes = c.requires.passes;
  each = none_ended g.N.Naming.name.turns c.in_ok-all.all.items c.in_ok-all.ensures.items;
  many = ap length c.in_ok-all.ensures.items;
}

pub loop-station-preserved : goal.loop-station-preserved
loop-station-preserved g c = record {
  whole = one_taken c.args.stations.items c.loop-station.yielded c.loop-station.station-iterator.rest.items
      c.next.new.self.rest.items c.in-Some.station c.loop-station.invariant.whole
      c.in-Some.ensures.steps.0;
  passes = c.finished.ensures.passes;
  each = one_ended g.N.Naming.name.turns c.loop-station.all.items c.push.new.self.items c.in_ok-finished.field-0
      c.loop-station.invariant.each c.in_ok-finished.ensures.ended c.in_ok-push.ensures.items;
  many = one_made c.loop-station.yielded c.loop-station.all.items c.push.new.self.items c.in-Some.station
      c.in_ok-finished.field-0 c.loop-station.invariant.many c.in_ok-push.ensures.items;
}

pub returns-clause-all : goal.returns-clause-all
returns-clause-all g c =
    let none : length c.loop-station.station-iterator.rest.items ≡ 0 =
    omega (arith, c.in-None.ensures.steps, c.loop-station.station-iterator.rest.ok) in
    c.loop-station.invariant.many ∙ all_taken c.args.stations.items c.loop-station.yielded
    c.loop-station.station-iterator.rest.items c.loop-station.invariant.whole none

pub returns-clause-ended : goal.returns-clause-ended
returns-clause-ended g c = c.loop-station.invariant.each
