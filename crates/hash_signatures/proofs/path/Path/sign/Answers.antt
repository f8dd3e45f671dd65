-- The signature is the front of the way and then what the lowest tree signs, at the leaf to which the number
-- comes in that tree.
use Rattle.std.proofs.Common.{refl, ◌≡◌, ◌∙◌, ap, [], ◌++◌, ℕ}
use Rattle.tree_keys.specs.Trees.{tree_signature}
use Rattle.hash_signatures.proofs.Descending.{leaf_is}
use Rattle.hash_signatures.proofs.path.Path.sign.Goals as goal

pub returns : goal.returns
returns c =
    let way = c.args.self.now.way in
    let leaf = leaf_is way.lowest [] c.args.m c.height.result c.leaf_of-q.result c.height.ensures
    c.leaf_of-q.ensures.leaf in
    let whole : c.put_bytes-2.new.out.items ≡ way.front.items
    ++ tree_signature way.lowest c.leaf_of-q.result c.args.message.now =
    rw (
      c.in_ok-put_bytes-2.ensures.ok,
      c.in_ok-put_bytes.ensures.ok,
      c.in_ok-sig.ensures.items,
      c.deref.ensures.value,
      c.deref-2.ensures.value,
      c.in_ok-signed.ensures,
    ) refl in
    whole ∙ ap (λ (q : ℕ). way.front.items ++ tree_signature way.lowest q c.args.message.now) leaf
