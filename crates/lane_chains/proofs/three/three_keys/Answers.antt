-- The ends that are hashed are those of the chains.
use Rattle.std.proofs.Common.{◌∙◌, ◌+◌, ◌*◌, ap, arith}
use Rattle.lane_chains.specs.Hash.{hash_under}
use Rattle.lane_chains.specs.Three.{of_three}
use Rattle.lane_chains.proofs.ChainsGrow.{joined-cong}
use Rattle.lane_chains.proofs.three.three_keys.Goals as goal

pub keys_of_ends-requires-clause-few : goal.keys_of_ends-requires-clause-few
keys_of_ends-requires-clause-few c = let few = c.requires.steps.few in omega (arith, few, c.requires.count)

pub returns : goal.returns
returns c = λ k lt.
    let key = of_three c.args.a.now c.args.b.now c.args.c.now k in
    c.keys_of_ends.ensures k lt
    ∙ ap (hash_under key.id key.q c.args.tag)
    (joined-cong _ _ c.args.count (λ i below. c.run_three.ensures (3 * i + k) (omega (arith, c.requires.count))))
