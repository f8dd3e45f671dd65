use Rattle.std.proofs.Common.{◌+◌, length, ap, ◌∙◌}
use Rattle.actor_keys.proofs.KeyLists.{one_each}
use Rattle.actor_keys.proofs.keys.ring_of.Goals as goal

pub make-requires : goal.make-requires
make-requires c =
    ap length (c.deref.ensures.value ∙ c.in_ok-publics.ensures) ∙ one_each c.args.seed.now c.args.heights.now
    (c.args.sizes.n + c.args.clients)
