-- A made key's chains are those of the definition: step 255 makes its secrets of the seed.
use Rattle.std.proofs.Common.{◌≡◌, ◌+◌, ◌∙◌, arith}
use Rattle.lane_chains.specs.Made.{made_key}
use Rattle.ots_keys.specs.Parameters.{chains, top_digit}
use Rattle.ots_keys.specs.Keys.{public_tag}
use Rattle.ots_keys.proofs.StepLaws.{made_is}
use Rattle.ots_keys.proofs.keys.ots_publics.Goals as goal

pub returns : goal.returns
returns c = λ j lt.
    let ots = c.args.ots in
    let id = c.args.id.now in
    let q = c.args.q + j in
    let seed = c.args.seed.now in
    let top : c.from-top.result ≡ top_digit ots = omega arith in
    let count : c.chains-count.result ≡ chains ots = c.chains-count.ensures in
    c.made_keys.ensures j lt
    ∙ (λ i. made_key id q public_tag (top i) seed (count i))
    ∙ made_is ots id q seed
