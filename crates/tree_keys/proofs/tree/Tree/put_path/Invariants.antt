use Rattle.std.proofs.Common.{◌≡◌, ◌++◌}
use Rattle.ots_keys.specs.Keys.{joined}
use Rattle.tree_keys.specs.Trees.{path_node}
use Rattle.tree_keys.proofs.tree.Tree.put_path.Given as goal

abbrev pub invariant-levels : goal.invariant-levels
invariant-levels l = l.sig.items ≡ l.fn.sig.items ++ joined (path_node l.self l.q) l.level
