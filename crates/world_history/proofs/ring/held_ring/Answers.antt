-- There are as many keys as actors, and the group is the scenario's.
use Rattle.std.proofs.Common.{◌+◌}
use Rattle.world_history.proofs.ScenarioRing.{clients_are, held_for_all, held_ring_told}
use Rattle.world_history.proofs.ring.held_ring.Goals as goal

pub make-requires : goal.make-requires
make-requires c =
    held_for_all c.args.scenario.now (c.cast-cast.result.proxies + c.cast-cast.result.screens)
    c.as_slice-publics.result.now c.args.held.now.ring c.as_slice-publics.ensures c.requires.ring
    (clients_are c.args.scenario.now c.cast-cast.result c.cast-cast.ensures)

pub returns : goal.returns
returns c =
    held_ring_told c.args.scenario.now (c.cast-cast.result.proxies + c.cast-cast.result.screens) c.args.held.now
    c.as_slice-publics.result.now c.make.result c.as_slice-publics.ensures
    (clients_are c.args.scenario.now c.cast-cast.result c.cast-cast.ensures) c.make.ensures
