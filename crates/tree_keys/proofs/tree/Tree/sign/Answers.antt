-- Leaf number, one-time signature, type code and path are appended in the order of a signature, each as its own
-- definition has it.
use Rattle.std.proofs.Common.{refl, ◌≡◌, ◌∙◌, ap, sym, ◌++◌, List, ℕ}
use Rattle.wire_parts.specs.Fields.{u32_bytes}
use Rattle.ots_keys.specs.Keys.{joined, signature}
use Rattle.tree_keys.specs.Built.{seed_of}
use Rattle.tree_keys.specs.Nodes.{TreeSeed}
use Rattle.tree_keys.specs.PublicKeys.{tree_code}
use Rattle.tree_keys.specs.Trees.{tree_signature, path_node}
use Rattle.tree_keys.proofs.tree.Tree.sign.Goals as goal

pub returns : goal.returns
unfolding tree_signature
returns c =
    let tree = seed_of c.self.inside in
    let now = c.args.self.now in
    let q = c.args.q in
    let message = c.args.message.now in
    let front_is = u32_bytes q ++ signature tree.ots tree.id q tree.seed message ++ u32_bytes (tree_code tree.height) in
    let front : c.put_u32-2.new.out.items ≡ front_is =
    rw (
      c.in_ok-put_u32-2.ensures.ok,
      c.in_ok-put_bytes.ensures.ok,
      c.in_ok-put_u32.ensures.ok,
      c.in_ok-sig.ensures.items,
      c.deref.ensures.value,
      c.in_ok-ots_sig.ensures,
      c.code_of_height.ensures,
    ) refl in
    c.in_ok-put_path.ensures
    ∙ ap (λ (x : List ℕ). x ++ joined (path_node now q) now.height) front
    ∙ ap (λ (t : TreeSeed). front_is ++ joined (path_node t q) t.height) (sym c.self.view_is)
    ∙ ap (λ (t : TreeSeed). tree_signature t q message) c.self.view_is
