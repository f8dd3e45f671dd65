-- The child's identifier and seed are the hashes under the leaf by their two tags, as in the definition; so a
-- kept tree is taken again only where it has them.
use Rattle.std.proofs.Common.{◌∙◌, ap, ◌++◌, List, ℕ}
use Rattle.wire_parts.specs.Fields.{u8_bytes}
use Rattle.ots_keys.specs.Hash.{hash_under}
use Rattle.hash_signatures.specs.Signatures.{child_id_tag, child_seed_tag}
use Rattle.hash_signatures.proofs.Children.{child_is}
use Rattle.hash_signatures.proofs.descent.child_for.Goals as goal

pub returns : goal.returns
returns c =
    let q = c.args.q in
    let tree = c.args.tree.now in
    let id_hash = c.hash_parts-id_hash.ensures
    ∙ ap (λ (i : List ℕ). hash_under i q child_id_tag (u8_bytes 0xff ++ c.seed.result.now)) c.id.ensures
    ∙ ap (λ (s : List ℕ). hash_under tree.id q child_id_tag (u8_bytes 0xff ++ s)) c.seed.ensures in
    let seed = c.hash_parts-seed.ensures
    ∙ ap (λ (i : List ℕ). hash_under i q child_seed_tag (u8_bytes 0xff ++ c.seed-2.result.now)) c.id-2.ensures
    ∙ ap (λ (s : List ℕ). hash_under tree.id q child_seed_tag (u8_bytes 0xff ++ s)) c.seed-2.ensures in
    child_is tree c.args.height q c.ots.result c.hash_parts-id_hash.result _ c.hash_parts-seed.result
    c.ots.ensures id_hash
    c.copy_from_slice.ensures.after seed c.tree_for.result c.tree_for.ensures
