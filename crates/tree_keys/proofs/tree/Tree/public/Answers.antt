-- The stored node 1 is the root that the definition computes, so type codes, identifier and root are the bytes
-- of the tree's public key.
use Rattle.std.proofs.Common.{◌∙◌, ap, sym, ◌++◌, ℕ, List}
use Rattle.wire_parts.specs.Fields.{u32_bytes}
use Rattle.ots_keys.specs.Parameters.{type_code}
use Rattle.tree_keys.specs.Built.{seed_of}
use Rattle.tree_keys.specs.Nodes.{TreeSeed, node}
use Rattle.tree_keys.specs.PublicKeys.{tree_code}
use Rattle.tree_keys.specs.Trees.{tree_public}
use Rattle.tree_keys.proofs.tree.Tree.public.Goals as goal

pub returns : goal.returns
unfolding tree_public
returns c =
    let tree = seed_of c.self.inside in
    let root = c.node.ensures ∙ ap (λ (t : TreeSeed). node t 1) (sym c.self.view_is) in
    c.to_bytes.ensures
    ∙ ap (λ (r : List ℕ). u32_bytes (tree_code tree.height) ++ u32_bytes (type_code tree.ots) ++ tree.id ++ r) root
    ∙ ap tree_public c.self.view_is
