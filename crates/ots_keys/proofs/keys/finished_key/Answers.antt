-- Chains that go on from the digits of the hash to the top digit end where the definition's finished elements
-- do. A digit is never above the top one, so each chain has steps forward only.
use Rattle.std.proofs.Common.{◌≡◌, ◌-◌, ◌∙◌, ap, arith, drop, length, refl, take}
use Rattle.std.specs.Prelude.{replicate}
use Rattle.std.proofs.lemmas.List.{length-drop, take_all}
use Rattle.lane_chains.specs.Hash.{hash_under}
use Rattle.lane_chains.proofs.ChainsGrow.{joined-cong}
use Rattle.ots_keys.specs.Parameters.{chains, top_digit}
use Rattle.ots_keys.specs.Keys.{public_tag, finished_element}
use Rattle.ots_keys.proofs.Widths.{top_is}
use Rattle.ots_keys.proofs.StepLaws.{are_steps, chains_are, finished_is, same_at}
use Rattle.ots_keys.proofs.keys.finished_key.Goals as goal

pub key_of_chains-requires-clause-steps : goal.key_of_chains-requires-clause-steps
key_of_chains-requires-clause-steps c =
    let ots = c.args.ots in
    let few = (chains_are ots).1 in
    let top_fits = top_is ots in
    let last = c.from-top.result in
    let top : last ≡ top_digit ots = omega arith in
    let digits = c.digits_of-from.result in
    let len : length digits ≡ 265 = omega arith in
    let count : c.from-count.result ≡ chains ots = omega arith in
    rw count (are_steps ots digits (replicate 265 last) len refl
    (λ i lt. rw (same_at last i (omega arith)) (let digit_top = c.digits_of-from.ensures.top i lt in omega arith))
    (λ i lt. rw (same_at last i (omega arith)) (omega arith)))

pub returns : goal.returns
returns c =
    let ots = c.args.ots in
    let id = c.args.id.now in
    let q = c.args.q in
    let hash = c.args.hash.now in
    let sig = c.args.sig.now in
    let few = (chains_are ots).1 in
    let last = c.from-top.result in
    let top : last ≡ top_digit ots = omega arith in
    let digits = c.digits_of-from.result in
    let count : c.from-count.result ≡ chains ots = omega arith in
    let rest : take (length sig - 36) (drop 36 sig) ≡ drop 36 sig =
    take_all (length sig - 36) (drop 36 sig) (omega (arith, length-drop 36 sig)) in
    rw (count, rest) at c.key_of_chains.ensures
    ∙ ap (λ x. hash_under id q public_tag x) (joined-cong _ (finished_element ots id q hash sig) (chains ots) (λ i lt.
    finished_is ots id q hash sig digits (chains ots) i last lt few top (c.digits_of-from.ensures.value i lt)))
