-- After each turn every lane's chain is a step longer: the digest that the step makes is the definition's hash.
use Rattle.std.proofs.Common.{◌≡◌, ◌-◌, ◌∙◌, ◌++◌, ℕ, ap, arith, refl, slice_index, sym}
use Rattle.sha2.specs.Sha256.{digest_bytes, sha256}
use Rattle.wire_parts.specs.Fields.{u8_bytes}
use Rattle.lane_chains.specs.Hash.{hash_under}
use Rattle.lane_chains.specs.Lanes.{lane}
use Rattle.lane_chains.specs.Steps.{step_text}
use Rattle.lane_chains.proofs.ChainsGrow.{chain-more}
use Rattle.lane_chains.proofs.LanesOfChains.{step_is_hash}
use Rattle.lane_chains.proofs.made.run_each.Goals as goal

pub steps-init : goal.steps-init
steps-init c = λ j lt.
    let none : c.args.from - c.args.from ≡ 0 = omega arith in
    rw none refl

pub steps-preserved : goal.steps-preserved
steps-preserved c = λ j lt.
    let id = digest_bytes c.args.id.now 4 in
    let q = slice_index c.args.q j in
    let i = c.args.i in
    let s = c.steps.step in
    let v = lane j c.steps.v in
    let chained : slice_index c.splat-chains.result j ≡ i = c.splat-chains.ensures j lt ∙ c.from.ensures in
    let stepped : slice_index c.splat.result j ≡ s = c.splat.ensures j lt ∙ c.from-in-steps.ensures in
    c.step_each-next.ensures j lt
    ∙ ap (λ (x : ℕ). sha256 (step_text c.args.id.now q x (slice_index c.splat.result j) v)) chained
    ∙ ap (λ (x : ℕ). sha256 (step_text c.args.id.now q i x v)) stepped
    ∙ step_is_hash c.args.id.now q i s v
    ∙ ap (λ x. hash_under id q i (u8_bytes s ++ x)) (c.steps.invariant j lt)
    ∙ sym (chain-more id q i c.args.from s (digest_bytes (lane j c.args.start) 8) (omega arith))
