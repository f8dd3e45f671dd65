-- The heights of all levels add up to 60 at most, so that the shift stays within 64 bits and is the power of
-- two that the definition has.
use Rattle.std.proofs.Common.{arith}
use Rattle.hash_signatures.proofs.KeyLaws.{total_le_sixty, leaves_fit}
use Rattle.hash_signatures.proofs.key_state.leaf_count.Goals as goal

pub total-requires : goal.total-requires
total-requires c = total_le_sixty c.args.heights.now c.requires.levels c.requires.heights

pub overflow_shl-result : goal.overflow_shl-result
overflow_shl-result c = let few = total_le_sixty c.args.heights.now c.requires.levels c.requires.heights in omega arith

pub returns : goal.returns
returns c =
    rw c.total.ensures (leaves_fit _ (total_le_sixty c.args.heights.now c.requires.levels c.requires.heights))
