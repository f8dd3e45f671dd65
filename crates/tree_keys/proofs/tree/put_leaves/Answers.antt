-- The leaves are stored from the last one down, so leaf q + 7 comes first.
use Rattle.std.proofs.Common.{◌≡◌, ◌+◌, ◌-◌, ◌^◌, ◌∙◌, ℕ, ap, arith, sym}
use Rattle.tree_keys.specs.Nodes.{tree_from, leaf_hash}
use Rattle.ots_keys.specs.Keys.{public_key}
use Rattle.tree_keys.proofs.NodeLaws.{node-leaf, stored_more}
use Rattle.tree_keys.proofs.tree.put_leaves.Goals as goal

pub leaves-preserved : goal.leaves-preserved
leaves-preserved c =
    let ots = c.args.ots in
    let id = c.args.id.now in
    let seed = c.args.seed.now in
    let h = c.args.height in
    let tree = tree_from h ots id seed in
    let count = c.leaf_count.ensures.count in
    let i = c.leaves.i in
    let j : ℕ = 7 - i in
    let r : ℕ = c.leaf_count.result + c.args.q + j in
    let n : ℕ = 2 ^ h - 8 - c.args.q + i in
    let at : r - 2 ^ h ≡ c.args.q + j = omega arith in
    let key = c.ots_publics-keys.ensures j (omega arith)
    ∙ ap (λ (m : ℕ). public_key ots id m seed) (sym at) in
    let leaf = c.leaf_hash.ensures ∙ ap (leaf_hash id r) key ∙ sym (node-leaf tree r (omega arith)) in
    stored_more tree n (2 ^ h - 8 - c.args.q + (i + 1)) r _ _ _ c.leaves.invariant leaf (omega (arith, c.requires.leaves)) (omega arith)
    c.in_ok-push.ensures.items
