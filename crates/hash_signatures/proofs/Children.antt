-- Lower trees.
use Rattle.std.proofs.Common.{◌≡◌, ◌∙◌, ap, subst, ℕ, List, ◌++◌, take, IfOk, Result}
use Rattle.plain_lists.specs.declared.want.Want.{Want}
use Rattle.wire_parts.specs.Fields.{u8_bytes}
use Rattle.ots_keys.specs.declared.parameters.Ots.{Ots}
use Rattle.ots_keys.specs.Hash.{hash_under}
use Rattle.tree_keys.specs.Nodes.{TreeSeed, tree_from}
use Rattle.hash_signatures.specs.Signatures.{child_tree, child_id_tag, child_seed_tag}

-- the tree under leaf q, from the parts that were hashed
pub child_is : (tree : TreeSeed) (h q : ℕ) (ots : Ots) (id_hash id seed : List ℕ)
    → ots ≡ tree.ots → id_hash ≡ hash_under tree.id q child_id_tag (u8_bytes 0xff ++ tree.seed) → id ≡ take 16 id_hash
    → seed ≡ hash_under tree.id q child_seed_tag (u8_bytes 0xff ++ tree.seed)
    → (r : Result TreeSeed Want) → IfOk r (λ c. c ≡ tree_from h ots id seed) → IfOk r (λ c. c ≡ child_tree tree h q)
unfolding child_tree
child_is tree h q ots id_hash id seed e_ots e_hash e_id e_seed r made =
    let whole = ap (λ o. tree_from h o id seed) e_ots ∙ ap (λ i. tree_from h tree.ots i seed)
    (e_id ∙ ap (take 16) e_hash)
    ∙ ap (tree_from h tree.ots (take 16 (hash_under tree.id q child_id_tag (u8_bytes 0xff ++ tree.seed)))) e_seed in
    subst (λ t. IfOk r (λ c. c ≡ t)) whole made
