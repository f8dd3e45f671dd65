-- All leaves come first, eight at a time, and then the inner nodes, one by one. Each node goes behind those that are
-- stored, from the last one down.
use Rattle.std.proofs.Common.{◌≡◌, ◌+◌, ◌-◌, ◌*◌, ◌^◌, ◌∙◌, ℕ, ap, arith, length, refl}
use Rattle.tree_keys.specs.Nodes.{tree_from, stored}
use Rattle.tree_keys.proofs.NodeLaws.{eights, length-stored, stored_more}
use Rattle.tree_keys.proofs.tree.build.Goals as goal

pub put_leaves-requires-clause-nodes : goal.put_leaves-requires-clause-nodes
put_leaves-requires-clause-nodes c =
    let tree = tree_from c.args.height c.args.ots c.args.id.now c.args.seed.now in
    let count = c.leaf_count-leaves.ensures.count in
    let all = eights c.args.height c.requires in
    let at : 8 * c.leaves.i ≡ 2 ^ c.args.height - 8 - (c.leaf_count-leaves.result - 8 - 8 * c.leaves.i) =
    omega (arith, count, all) in
    c.leaves.invariant ∙ ap (stored tree) at

pub leaves-preserved : goal.leaves-preserved
leaves-preserved c =
    let tree = tree_from c.args.height c.args.ots c.args.id.now c.args.seed.now in
    let count = c.leaf_count-leaves.ensures.count in
    let all = eights c.args.height c.requires in
    let at : 2 ^ c.args.height - (c.leaf_count-leaves.result - 8 - 8 * c.leaves.i) ≡ 8 * (c.leaves.i + 1) =
    omega (arith, count, all) in
    c.in_ok-put_leaves.ensures ∙ ap (stored tree) at

pub nodes-init : goal.nodes-init
nodes-init c =
    let tree = tree_from c.args.height c.args.ots c.args.id.now c.args.seed.now in
    let count = c.leaf_count-leaves.ensures.count in
    let all = eights c.args.height c.requires in
    let at : 8 * c.leaves.i ≡ 2 ^ c.args.height + 0 = omega (arith, count, all) in
    c.leaves.invariant ∙ ap (stored tree) at

pub inner_node-requires-clause-nodes : goal.inner_node-requires-clause-nodes
inner_node-requires-clause-nodes c =
    let tree = tree_from c.args.height c.args.ots c.args.id.now c.args.seed.now in
    let count = c.leaf_count-leaves.ensures.count in
    let len = ap length c.nodes.invariant ∙ length-stored tree (2 ^ c.args.height + c.nodes.i) in
    omega (arith, count, len)

pub nodes-preserved : goal.nodes-preserved
nodes-preserved c =
    let tree = tree_from c.args.height c.args.ots c.args.id.now c.args.seed.now in
    let count = c.leaf_count-leaves.ensures.count in
    let n : ℕ = 2 ^ c.args.height + c.nodes.i in
    let r : ℕ = c.leaf_count-leaves.result - 1 - c.nodes.i in
    let at : n ≡ 2 * 2 ^ c.args.height - 1 - r = omega (arith, count) in
    let place : 2 * 2 ^ c.args.height - 1 - n ≡ r = omega (arith, count) in
    let made = c.inner_node.ensures tree refl refl (c.deref.ensures.value ∙ c.nodes.invariant ∙ ap (stored tree) at) in
    stored_more tree n (2 ^ c.args.height + (c.nodes.i + 1)) r _ _ _ c.nodes.invariant made place (omega arith) c.in_ok-push.ensures.items

pub returns : goal.returns
returns c =
    let tree = tree_from c.args.height c.args.ots c.args.id.now c.args.seed.now in
    let count = c.leaf_count-leaves.ensures.count in
    let some = c.leaf_count-leaves.ensures.some in
    let at : 2 ^ c.args.height + c.nodes.i ≡ 2 * 2 ^ c.args.height - 1 = omega (arith, count, some) in
    c.nodes.invariant ∙ ap (stored tree) at
