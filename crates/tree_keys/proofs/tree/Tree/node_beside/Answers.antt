-- Below the root nodes come in pairs of an even number and the odd one after it. So the sibling is one more or
-- one less, and both are in the tree.
use Rattle.std.proofs.Common.{◌≡◌, ◌+◌, ◌/◌, ◌^◌, ℕ, ap, arith}
use Rattle.tree_keys.specs.Nodes.{TreeSeed}
use Rattle.tree_keys.proofs.NodeLaws.{below_root}
use Rattle.tree_keys.proofs.tree.Tree.node_beside.Goals as goal
use Rattle.tree_keys.proofs.tree.Tree.node_beside.Goals.{then-r-eq1, else-r-eq1}

pub node-requires-clause-low : goal.node-requires-clause-low
node-requires-clause-low c =
    let two = below_root c.args.self.now.height c.args.q c.args.level c.requires.inside in
    let same : c.self.inside.height ≡ c.args.self.now.height = ap (λ (t : TreeSeed). t.height) c.self.view_is in
    let leaves = ap (λ (h : ℕ). 2 ^ h) same in
    let count = c.leaf_count.ensures.count in
    let base : c.leaf_count.result ≡ 2 ^ c.args.self.now.height = omega (arith, leaves) in
    let r = ap (λ (n : ℕ). (n + c.args.q) / 2 ^ c.args.level) base in
    elim c.if-r-eq1.branch [ then-r-eq1 w ↦ omega (arith, r, two) | else-r-eq1 w ↦ omega (arith, r, two) ]
