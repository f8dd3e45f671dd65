-- The frames so far are the bodies so far, each with the signature at its place. They end where the shorter of
-- the two lists does, as in the definition.
use Rattle.std.proofs.Common.{◌<◌, ◌++◌, ◌∷◌, List, [], length, min, sym, ◌∙◌, ap, arith}
use Rattle.message_types.specs.declared.signed.Signed.{Signed}
use Rattle.message_types.specs.declared.body.Body.{Body}
use Rattle.world_history.proofs.SignedBodies.{frames_more, frames_whole}
use Rattle.world_history.proofs.frames.join.Goals as goal

pub loop-place-init : goal.loop-place-init
loop-place-init c = c.in_ok-frames.ensures.items

pub loop-place-preserved : goal.loop-place-preserved
loop-place-preserved c =
    let put = rw c.in_ok-push.was at c.push.ensures.items in
    let within : c.loop-place.place < min (length c.args.bodies.now) (length c.args.signatures.now) = let low =
    c.loop-place-test.true in let pairs = c.min-pairs.ensures in omega arith in
    put
    ∙ ap (λ (fs : List (Signed Body)). fs ++ record {
      signer = c.args.actor;
      body = c.in_ok-copy.field-0;
      sig =
          c.in_ok-copy-2.field-0;
    } ∷ []) c.loop-place.invariant
    ∙ sym (frames_more c.args.actor c.loop-place.place c.args.bodies.now c.args.signatures.now c.in_ok-copy.field-0
    c.index-bodies-place.result
    c.in_ok-copy-2.field-0 c.index-signatures-place.result (omega arith) (omega arith)
    (c.in_ok-copy.ensures ∙ c.index-bodies-place.is) (c.in_ok-copy-2.ensures ∙ c.index-signatures-place.is))

pub returns : goal.returns
returns c =
    let high = c.loop-place-test.false in
    let pairs = c.min-pairs.ensures in
    let within = c.loop-place.auto.place-end in
    c.loop-place.invariant ∙ frames_whole c.args.actor c.loop-place.place c.args.bodies.now
    c.args.signatures.now (omega arith)
