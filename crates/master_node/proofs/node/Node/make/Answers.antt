-- A node that was just started is running with no entries yet, for the scenario's own charge. A valid scenario
-- has a plant for all its clients, which is what the start asks for.
use Rattle.std.proofs.Common.{[]}
use Rattle.master_node.proofs.Starting.{charge_by, is_charge_by}
use Rattle.master_node.proofs.node.Node.make.Goals as goal

pub start-requires-clause-plant : goal.start-requires-clause-plant
start-requires-clause-plant c = c.requires.valid.plant

pub returns-clause-made : goal.returns-clause-made
returns-clause-made c charge is = c.in_ok-start.ensures charge is

pub returns-clause-some : goal.returns-clause-some
returns-clause-some c whole = record {
  charge = charge_by c.args.scenario.now c.args.number c.args.leaves;
  before = [];
  is = c.in_ok-start.ensures (charge_by c.args.scenario.now c.args.number c.args.leaves)
      (is_charge_by c.args.scenario.now c.args.number c.args.leaves);
}
