-- A secret start is what the one chain step from 255 to 256 makes of the seed. So the seed is written at the
-- place of each chain, and one step is run for all of them.
use Rattle.std.proofs.Common.{◌≡◌, ◌≢◌, ◌∙◌, arith, below_more, refl}
use Rattle.std.specs.Prelude.{replicate}
use Rattle.lane_chains.specs.Chains.{value_at}
use Rattle.ots_keys.specs.Parameters.{chains}
use Rattle.ots_keys.proofs.StepLaws.{are_steps, chains_are, count_is, same_at, secret_is}
use Rattle.ots_keys.proofs.keys.secrets.Goals as goal

pub seeds-preserved : goal.seeds-preserved
seeds-preserved c =
    below_more (λ k. value_at c.write_value.new.values k ≡ c.args.seed.now) c.seeds.i
    (λ k lt. let ne : k ≢ c.seeds.i = omega arith in c.write_value.ensures.others k ne ∙ c.seeds.invariant k lt)
    c.write_value.ensures.written

pub run_chains-requires-clause-steps : goal.run_chains-requires-clause-steps
run_chains-requires-clause-steps c =
    let n = chains c.args.ots in
    let few = (chains_are c.args.ots).1 in
    let count : c.from-count.result ≡ n = omega arith in
    rw count (are_steps c.args.ots (replicate 265 255) (replicate 265 256) refl refl
    (λ i lt. rw (same_at 255 i (omega arith), same_at 256 i (omega arith)) (omega arith))
    (λ i lt. rw (same_at 256 i (omega arith)) (omega arith)))

pub returns : goal.returns
returns c = λ i lt.
    let n = chains c.args.ots in
    let few = (chains_are c.args.ots).1 in
    let count : c.from-count.result ≡ n = omega arith in
    let len = count_is n 255 few in
    let each = rw (count, len) at c.run_chains.ensures.each in
    each i lt
    ∙ secret_is c.args.id.now c.args.q c.args.seed.now c.seeds.seeds n i lt few (c.seeds.invariant i (omega arith))
