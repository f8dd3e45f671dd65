use Rattle.std.proofs.Common.{◌≡◌, ◌+◌, ◌*◌, ◌^◌}
use Rattle.tree_keys.specs.Nodes.{tree_from, stored}
use Rattle.tree_keys.proofs.tree.build.Given as goal

abbrev pub invariant-leaves : goal.invariant-leaves
invariant-leaves l = l.nodes.items ≡ stored (tree_from l.height l.ots l.id l.seed) (8 * l.i)

abbrev pub invariant-nodes : goal.invariant-nodes
invariant-nodes l = l.nodes.items ≡ stored (tree_from l.height l.fn.ots l.id l.seed) (2 ^ l.height + l.i)
