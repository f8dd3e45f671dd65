-- What a `Tree` keeps: it has all its nodes, and its height is one that trees are made with.
use Rattle.std.specs.Prelude.{◌≡◌, ◌*◌, ◌-◌, ◌^◌}
use Rattle.tree_keys.specs.declared.tree.Tree.TheInside.{Inside}
use Rattle.tree_keys.specs.Nodes.{TreeSeed, tree_from, stored}
use Rattle.tree_keys.specs.Trees.{IsMadeHeight}

abbrev pub seed_of : Inside → TreeSeed
seed_of tree = tree_from tree.height tree.ots tree.id tree.seed

abbrev pub IsBuilt : Inside → Type 0
IsBuilt tree = IsMadeHeight tree.height × (tree.nodes.items ≡ stored (seed_of tree) (2 * 2 ^ tree.height - 1))
