-- The nodes are stored from the last one down to the root, so node r stands as many places behind the first as
-- r is below the last number.
use Rattle.std.proofs.Common.{◌≡◌, ◌-◌, ◌*◌, ◌^◌, ◌∙◌, ℕ, ap, length, arith}
use Rattle.tree_keys.specs.Nodes.{TreeSeed, node}
use Rattle.tree_keys.specs.Built.{seed_of}
use Rattle.tree_keys.proofs.NodeLaws.{length-stored, stored-node}
use Rattle.tree_keys.proofs.tree.Tree.node.Goals as goal

pub index-requires : goal.index-requires
index-requires c =
    let len = ap length c.self.invariant.1 ∙ length-stored (seed_of c.self.inside) (2 * 2 ^ c.self.inside.height - 1) in
    let high = c.requires.high in
    let same : c.self.inside.height ≡ c.args.self.now.height = ap (λ (t : TreeSeed). t.height) c.self.view_is in
    let leaves = ap (λ (h : ℕ). 2 ^ h) same in
    omega (arith, len, leaves, c.self.inside.nodes.ok)

pub returns : goal.returns
returns c =
    let tree = seed_of c.self.inside in
    let same : c.self.inside.height ≡ c.args.self.now.height = ap (λ (t : TreeSeed). t.height) c.self.view_is in
    let leaves = ap (λ (h : ℕ). 2 ^ h) same in
    let count = c.leaf_count.ensures.count in
    let low = c.requires.low in
    let high = c.requires.high in
    c.index.ensures
    ∙ stored-node tree (2 * 2 ^ c.self.inside.height - 1) (2 * c.leaf_count.result - 1 - c.args.r)
    c.args.r c.self.inside.nodes.items _ c.self.invariant.1
    (omega (arith, leaves)) (omega (arith, leaves))
    ∙ ap (λ (t : TreeSeed). node t c.args.r) c.self.view_is
