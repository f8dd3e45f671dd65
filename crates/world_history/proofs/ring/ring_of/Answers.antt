-- A scenario's actors are few and their trees of the heights given, so each key can be made. Their public keys
-- in the order of the numbers are the ring.
use Rattle.std.proofs.Common.{◌+◌}
use Rattle.scenario_file.specs.Reading.{contents}
use Rattle.world_history.proofs.BenchAtFirst.{levels_given, heights_given}
use Rattle.world_history.proofs.ScenarioRing.{clients_are, actors_are_few, ring_told}
use Rattle.world_history.proofs.ring.ring_of.Goals as goal

pub ring_of-requires-clause-few : goal.ring_of-requires-clause-few
ring_of-requires-clause-few c =
    actors_are_few c.args.scenario.now (c.cast-cast.result.proxies + c.cast-cast.result.screens) c.requires
    (clients_are c.args.scenario.now c.cast-cast.result c.cast-cast.ensures)

pub ring_of-requires-clause-levels : goal.ring_of-requires-clause-levels
ring_of-requires-clause-levels c = levels_given (contents c.args.scenario.now) c.as_slice-heights.result.now
    c.requires c.as_slice-heights.ensures

pub ring_of-requires-clause-heights : goal.ring_of-requires-clause-heights
ring_of-requires-clause-heights c = heights_given (contents c.args.scenario.now) c.as_slice-heights.result.now
    c.requires c.as_slice-heights.ensures

pub returns : goal.returns
returns c =
    ring_told c.args.scenario.now (c.cast-cast.result.proxies + c.cast-cast.result.screens)
    c.as_slice-heights.result.now c.ring_of.result c.as_slice-heights.ensures
    (clients_are c.args.scenario.now c.cast-cast.result c.cast-cast.ensures) c.ring_of.ensures
