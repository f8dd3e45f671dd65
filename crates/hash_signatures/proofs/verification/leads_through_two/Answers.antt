-- Two signed keys and a key that verifies the message: the definition's three parts, with the same cuts.
use Rattle.std.proofs.Common.{subst}
use Rattle.tree_keys.specs.PublicKeys.{IsSignedUnder}
use Rattle.tree_keys.proofs.KeyLaws.{one_key}
use Rattle.hash_signatures.proofs.verification.leads_through_two.Goals as goal

pub returns-in_default : goal.returns-in_default
returns-in_default c = (
  (λ no. cc),
  (λ leads. absurd (c.in_default.ensures.level 1 c.args.message.now leads)),
)

pub returns-in_default-first_level : goal.returns-in_default-first_level
returns-in_default-first_level c = (
  (λ no. cc),
  (λ leads. absurd (c.in_default-first_level.ensures.level 0 c.args.message.now
      ((c.in-Some.ensures.level 1 c.args.message.now).0 leads).1)),
)

pub returns-in_default-read : goal.returns-in_default-read
returns-in_default-read c = (
  (λ no. cc),
  (λ leads.
      let below = ((c.in-Some.ensures.level 1 c.args.message.now).0 leads).1 in
      let (key, is_key, signed) = ((c.in-Some-first_level.ensures.level 0 c.args.message.now).0 below).1 in
      absurd (c.in_default-read.ensures key is_key)),
)

pub verify_three-requires-clause-a : goal.verify_three-requires-clause-a
verify_three-requires-clause-a c = c.in-Some.ensures.height

pub verify_three-requires-clause-b : goal.verify_three-requires-clause-b
verify_three-requires-clause-b c = c.in-Some-first_level.ensures.height

pub verify_three-requires-clause-c : goal.verify_three-requires-clause-c
verify_three-requires-clause-c c = c.in-Some-read.ensures.height

pub returns : goal.returns
returns c =
    let message = c.args.message.now in
    let one = c.in-Some.ensures.level 1 message in
    let two = c.in-Some-first_level.ensures.level 0 message in (
      (λ yes.
          let (a, b, d) = c.verify_three.ensures.0 yes in
          one.1 (a, two.1 (b, (c.in-Some-read.key, c.in-Some-read.ensures, d)))),
      (λ leads.
          let upper = one.0 leads in
          let lower = two.0 upper.1 in
          let (key, is_key, signed) = lower.1 in
          c.verify_three.ensures.1 (
            upper.0,
            lower.0,
            subst (λ k. IsSignedUnder k message c.in-Some-first_level.second.rest.now)
                (one_key key c.in-Some-read.key _ is_key c.in-Some-read.ensures) signed,
          )),
    )
