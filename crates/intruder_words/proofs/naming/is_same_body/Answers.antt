-- The call and the rules' test are both true exactly of equal bodies, so they answer alike.
use Rattle.std.proofs.Common.{◌≡◌, Bool, true, false, refl, sym}
use Rattle.history_rules.specs.Sameness.{is_same_body}
use Rattle.history_laws.proofs.Same.{body_test}
use Rattle.intruder_words.proofs.naming.is_same_body.Goals as goal

same_truth : (a b : Bool) → (a ≡ true → b ≡ true) → (b ≡ true → a ≡ true) → a ≡ b
same_truth true b to from = sym (to refl)
same_truth false true to from = from refl
same_truth false false to from = refl

pub returns : goal.returns
returns c = same_truth c.is_same.result (is_same_body c.args.a.now c.args.b.now)
    (λ t. (body_test c.args.a.now c.args.b.now).1 (c.is_same.ensures.0 t))
    (λ t. c.is_same.ensures.1 ((body_test c.args.a.now c.args.b.now).0 t))
