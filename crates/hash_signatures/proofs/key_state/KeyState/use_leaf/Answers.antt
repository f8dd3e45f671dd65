use Rattle.std.proofs.Common.{arith}
use Rattle.hash_signatures.specs.Signatures.{total}
use Rattle.hash_signatures.proofs.KeyLaws.{total_le_sixty, used_fits}
use Rattle.hash_signatures.proofs.key_state.KeyState.use_leaf.Goals as goal

pub overflow_add-self : goal.overflow_add-self
overflow_add-self c =
    let few = total_le_sixty c.self.inside.heights.items c.self.invariant.levels c.self.invariant.heights in
    let fits = used_fits (total c.self.inside.heights.items) c.self.inside.used few c.self.invariant.within in
    omega arith
