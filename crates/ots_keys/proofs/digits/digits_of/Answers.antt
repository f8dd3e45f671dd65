-- Each turn sets one more digit, which is that of the hash with its checksum and no greater than the top digit.
-- The digits set before stay as they are.
use Rattle.std.proofs.Common.{◌≡◌, ◌≤◌, ◌∙◌, arith}
use Rattle.std.proofs.lemmas.List.{length-set}
use Rattle.ots_keys.specs.Parameters.{top_digit}
use Rattle.ots_keys.proofs.Growing.{digit_is, digits_more}
use Rattle.ots_keys.proofs.StepLaws.{chains_are}
use Rattle.ots_keys.proofs.digits.digits_of.Goals as goal

pub digits-preserved : goal.digits-preserved
digits-preserved c =
    let ots = c.args.ots in
    let hash = c.args.hash.now in
    let few = (chains_are ots).1 in
    let at : c.from-at.result ≡ c.digits.i = omega arith in
    let is_digit = digit_is ots hash c.digits.i _ _ c.checked_hash-text.ensures c.digit_of-far.ensures.value in
    let top = c.digit_of-far.ensures.top in
    let far : c.from.result ≡ c.digit_of-far.result = omega arith in
    let below : c.from.result ≤ top_digit ots = omega arith in (
      length-set c.digits.digits _ _ ∙ c.digits.invariant.0,
      digits_more ots hash c.digits.digits c.digits.i c.from-at.result c.from.result at
          c.digits.invariant.0 (omega arith)
          (far ∙ is_digit) below c.digits.invariant.1,
    )

pub returns-clause-value : goal.returns-clause-value
returns-clause-value c = λ i lt. (c.digits.invariant.1 i (omega arith)).0

pub returns-clause-top : goal.returns-clause-top
returns-clause-top c = λ i lt. (c.digits.invariant.1 i (omega arith)).1
