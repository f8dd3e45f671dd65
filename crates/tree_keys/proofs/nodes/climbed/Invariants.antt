use Rattle.std.proofs.Common.{◌≡◌}
use Rattle.tree_keys.specs.Nodes.{climbed}
use Rattle.tree_keys.proofs.nodes.climbed.Given as goal

abbrev pub invariant-levels : goal.invariant-levels
invariant-levels l = l.hash ≡ climbed l.id l.path l.r l.fn.leaf l.level
