-- An inner node is the hash of its two children. These are stored already, as the nodes are made from the last one down.
use Rattle.std.proofs.Common.{◌≡◌, ◌+◌, ◌-◌, ◌*◌, ◌^◌, ◌∙◌, ap, sym, arith, [], ℕ}
use Rattle.tree_keys.specs.Nodes.{inner_hash}
use Rattle.tree_keys.proofs.NodeLaws.{node-inner, stored-node}
use Rattle.tree_keys.proofs.tree.inner_node.Goals as goal

pub returns : goal.returns
returns c = λ tree height id stored.
    let n = 2 * 2 ^ c.args.height - 1 - c.args.r in
    let r = c.args.r in
    let nodes = c.args.nodes.now in
    let right_at = 2 * c.leaf_count.result - 2 - 2 * r in
    let count = c.leaf_count.ensures.count in
    let power : 2 ^ tree.height ≡ 2 ^ c.args.height = ap (λ (h : ℕ). 2 ^ h) height in
    let inner = c.requires.high in
    let low = c.requires.low in
    let left = stored-node tree n (right_at + 1) (2 * r) nodes [] stored (omega arith) (omega arith) in
    let right = stored-node tree n right_at (2 * r + 1) nodes [] stored (omega arith) (omega arith) in
    c.inner_hash.ensures
    ∙ (λ i. inner_hash (sym id i) r (left i) (right i))
    ∙ sym (node-inner tree r low (omega arith))
