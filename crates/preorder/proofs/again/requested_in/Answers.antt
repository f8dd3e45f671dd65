-- The keys of one body more are those so far and its own.
use Rattle.std.proofs.Common.{◌<◌, ◌++◌, ◌∷◌, [], length, map, ◌∙◌, ap, arith}
use Rattle.std.proofs.lemmas.List.{take_all}
use Rattle.protocol_rules.specs.Preorder.{requests_said}
use Rattle.preorder.proofs.Repeats.{key_of, keys-more}
use Rattle.preorder.proofs.again.requested_in.Goals as goal

pub loop-body-preserved : goal.loop-body-preserved
loop-body-preserved c =
    let within : c.loop-body.body-index < length c.args.bodies.now = omega arith in
    let item = c.body-item.result in
    c.in_ok-push_key.ensures ∙ ap (λ xs. xs ++ map key_of (requests_said (item ∷ []))) c.loop-body.invariant
    ∙ keys-more c.args.bodies.now c.loop-body.body-index item within c.body-item.is

pub returns : goal.returns
returns c = c.loop-body.invariant
    ∙ ap (λ xs. map key_of (requests_said xs)) (take_all c.loop-body.body-index c.args.bodies.now (omega arith))
