-- The one bench is the actor's, by the seed: nothing is held.
use Rattle.scenario_file.specs.Reading.{contents}
use Rattle.printed_history.proofs.FirstAtHand.{one_begun}
use Rattle.printed_history.proofs.reading.SoFar.begin_one.Goals as goal

pub first-requires-clause-scenario : goal.first-requires-clause-scenario
first-requires-clause-scenario c = c.requires.scenario

pub first-requires-clause-held : goal.first-requires-clause-held
first-requires-clause-held c = c.requires.scenario

pub first-requires-clause-ring : goal.first-requires-clause-ring
first-requires-clause-ring c = c.in_ok-ring.ensures

pub first-requires-clause-benches : goal.first-requires-clause-benches
first-requires-clause-benches c =
    one_begun (contents c.args.scenario.now) c.args.actor c.in_ok-benches.benches.items c.in_ok-bench.bench
    c.in_ok-bench.ensures c.in_ok-benches.ensures

pub returns : goal.returns
returns c = c.first.ensures
