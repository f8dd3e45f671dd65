-- A running node's knowledge has caught up with all that it heard, so the list inside is what is executed by it.
use Rattle.std.proofs.Common.{sym, ap, subst}
use Rattle.history_rules.specs.Legal.{known_of}
use Rattle.master_node.specs.declared.running.Running.{Running}
use Rattle.master_node.specs.Node.{NodeState}
use Rattle.master_node.specs.Running.{IsRunning}
use Rattle.master_node.proofs.Steps.{executed_listed}
use Rattle.master_node.proofs.node.Node.executions.Goals as goal

pub returns : goal.returns
returns c charge before is =
    let inside : IsRunning charge c.self.inside.running before = subst (λ (r : Running). IsRunning charge r before)
    (sym (ap (λ (n : NodeState). n.running) c.self.view_is)) is in
    executed_listed charge.group c.self.inside.running.replica.knowledge (known_of before)
    c.list.result.now inside.caught c.list.ensures
