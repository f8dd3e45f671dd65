use Rattle.std.proofs.Common.{sym, ◌∙◌, ap, subst}
use Rattle.master_node.specs.declared.running.Running.{Running}
use Rattle.master_node.specs.Node.{NodeState}
use Rattle.master_node.specs.Running.{IsRunning}
use Rattle.master_node.proofs.Histories.{ticks_are_heard}
use Rattle.master_node.proofs.node.Node.ticks.Goals as goal

pub returns-clause-heard : goal.returns-clause-heard
returns-clause-heard c charge before is =
    let inside : IsRunning charge c.self.inside.running before = subst (λ (r : Running). IsRunning charge r before)
    (sym (ap (λ (n : NodeState). n.running) c.self.view_is)) is in
    c.ticks.ensures ∙ ticks_are_heard charge c.self.inside.running before inside
