-- All actors' benches are at hand, by the seed: nothing is held.
use Rattle.printed_history.proofs.reading.SoFar.begin.Goals as goal

pub first-requires-clause-scenario : goal.first-requires-clause-scenario
first-requires-clause-scenario c = c.requires

pub first-requires-clause-held : goal.first-requires-clause-held
first-requires-clause-held c = c.requires

pub first-requires-clause-ring : goal.first-requires-clause-ring
first-requires-clause-ring c = c.in_ok-ring.ensures

pub first-requires-clause-benches : goal.first-requires-clause-benches
first-requires-clause-benches c = c.in_ok-benches.ensures

pub returns : goal.returns
returns c = c.first.ensures
