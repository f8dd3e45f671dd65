-- The ends of the chains, one behind the other, are hashed under the tag of a public key, which is just what
-- the definition makes of them.
use Rattle.std.proofs.Common.{◌∙◌, ap}
use Rattle.lane_chains.specs.Hash.{hash_under}
use Rattle.lane_chains.specs.Chains.{joined, end_of}
use Rattle.ots_keys.specs.Keys.{public_tag}
use Rattle.ots_keys.proofs.keys.key_of_chains.Goals as goal

pub returns : goal.returns
unfolding hash_under
returns c =
    let id = c.args.id.now in
    let ends = end_of id c.args.q c.args.from.now c.args.to.now c.args.starts.now in
    c.finalize.ensures _ (c.update.ensures _ c.hasher_under-hasher.ensures)
    ∙ ap (λ x. hash_under id c.args.q public_tag x) (c.run_chains.ensures.joined ∙ ap (joined ends) c.requires.count)
