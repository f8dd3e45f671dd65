-- Master, plant and leaves are those of the charge, and nothing was heard, said or executed yet. A plant has at
-- most 12 clients, as its state asks.
use Rattle.std.proofs.Common.{◌+◌, ◌≤◌, [], refl, sym, subst}
use Rattle.protocol_rules.specs.Group.{group_of}
use Rattle.master_knowledge.specs.Past.{no_past}
use Rattle.master_answers.specs.Replica.{IsReplicaOf}
use Rattle.master_node.proofs.Starting.{few_clients_at_start, started}
use Rattle.master_node.proofs.running.Running.start.Goals as goal

pub new-requires : goal.new-requires
new-requires c = subst (λ n. n + c.args.scenario.now.screens ≤ 12) (sym c.len.ensures)
    (few_clients_at_start c.args.scenario.now.plant c.args.scenario.now.screens c.requires.plant)

pub returns : goal.returns
returns c charge is = started c.args.scenario.now c.args.number c.args.leaves charge _ is
    c.requires.plant c.requires.number
    (subst (λ n. IsReplicaOf (group_of c.args.scenario.now.sizes (n + c.args.scenario.now.screens))
    c.args.number c.new.result [] [] no_past []) c.len.ensures c.new.ensures.is_replica)
    c.new.ensures.counts c.in_ok-points.ensures c.new-2.ensures refl refl
