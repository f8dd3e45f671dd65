-- The public key is made of chains that go all the way from their secret starts to the top digit. The starts
-- are those of the seed, so the ends are the definition's.
use Rattle.std.proofs.Common.{◌≡◌, ◌∙◌, ap, arith, refl}
use Rattle.std.specs.Prelude.{replicate}
use Rattle.lane_chains.specs.Hash.{hash_under}
use Rattle.lane_chains.proofs.ChainsGrow.{joined-cong}
use Rattle.ots_keys.specs.Parameters.{chains, top_digit}
use Rattle.ots_keys.specs.Keys.{public_key, public_tag, chain_end}
use Rattle.ots_keys.proofs.Widths.{top_is}
use Rattle.ots_keys.proofs.StepLaws.{are_steps, chain_end_is, chains_are, same_at}
use Rattle.ots_keys.proofs.keys.ots_public.Goals as goal

pub key_of_chains-requires-clause-steps : goal.key_of_chains-requires-clause-steps
key_of_chains-requires-clause-steps c =
    let ots = c.args.ots in
    let few = (chains_are ots).1 in
    let top_fits = top_is ots in
    let last = c.from-last.result in
    let top : last ≡ top_digit ots = omega arith in
    let count : c.from-count.result ≡ chains ots = omega arith in
    rw count (are_steps ots (replicate 265 0) (replicate 265 last) refl refl
    (λ i lt. rw (same_at 0 i (omega arith)) (omega arith))
    (λ i lt. rw (same_at last i (omega arith)) (omega arith)))

pub returns : goal.returns
unfolding public_key
returns c =
    let ots = c.args.ots in
    let id = c.args.id.now in
    let q = c.args.q in
    let seed = c.args.seed.now in
    let few = (chains_are ots).1 in
    let last = c.from-last.result in
    let top : last ≡ top_digit ots = omega arith in
    let count : c.from-count.result ≡ chains ots = omega arith in
    rw count at c.key_of_chains.ensures
    ∙ ap (λ x. hash_under id q public_tag x) (joined-cong _ (chain_end ots id q seed) (chains ots) (λ i lt.
    chain_end_is ots id q seed c.secrets-starts.result (chains ots) i last lt few top (c.secrets-starts.ensures i lt)))
