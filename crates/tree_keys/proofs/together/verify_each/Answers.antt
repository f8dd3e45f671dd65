use Rattle.std.proofs.Common.{refl}
use Rattle.tree_keys.proofs.together.verify_each.Goals as goal

pub returns-then-not-verify : goal.returns-then-not-verify
returns-then-not-verify c = (
  (λ no. cc),
  (λ (a, b, d). let yes = c.if-not-verify.ensures.1 a in cc),
)

pub returns-then-not-verify-2 : goal.returns-then-not-verify-2
returns-then-not-verify-2 c = (
  (λ no. cc),
  (λ (a, b, d). let yes = c.if-not-verify-2.ensures.1 b in cc),
)

pub returns : goal.returns
returns c = (
  (λ yes. (c.if-not-verify.ensures.0 refl, c.if-not-verify-2.ensures.0 refl, c.verify-3.ensures.0 yes)),
  (λ (a, b, d). c.verify-3.ensures.1 d),
)
