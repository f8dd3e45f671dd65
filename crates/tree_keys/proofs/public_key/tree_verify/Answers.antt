use Rattle.std.proofs.Common.{subst}
use Rattle.tree_keys.specs.PublicKeys.{IsSignedUnder}
use Rattle.tree_keys.proofs.KeyLaws.{one_key}
use Rattle.tree_keys.proofs.public_key.tree_verify.Goals as goal

pub returns-in-Some : goal.returns-in-Some
returns-in-Some c = (
  (λ yes. (c.in-Some.key, c.in-Some.ensures, c.verify.ensures.0 yes)),
  (λ (key, is_key, signed). c.verify.ensures.1 (subst (λ k. IsSignedUnder k c.args.message.now c.args.sig.now)
      (one_key key c.in-Some.key c.args.public.now is_key c.in-Some.ensures) signed)),
)
