-- What is certified is kept by pre-ordering of the words that the master knows, and a running master knows
-- those of its entries so far, so the two answers are one.
use Rattle.std.proofs.Common.{sym, ◌∙◌, ap, subst}
use Rattle.master_node.specs.declared.running.Running.{Running}
use Rattle.master_node.specs.Node.{NodeState}
use Rattle.master_node.specs.Running.{IsRunning}
use Rattle.master_node.proofs.node.Node.certified.Goals as goal

pub returns : goal.returns
returns c charge before is =
    let inside : IsRunning charge c.self.inside.running before = subst (λ (r : Running). IsRunning charge r before)
    (sym (ap (λ (n : NodeState). n.running) c.self.view_is)) is in
    c.certified.ensures
    ∙ inside.keeps.is_replica.knows.preorder.certified c.args.j c.args.k
