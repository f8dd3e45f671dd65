-- A gift is made of requests and acknowledgements alone. A copy of such a part counts as the part itself, and
-- any other part leaves what can be given as it was.
use Rattle.std.proofs.Common.{◌∷◌, ◌++◌, [], refl, subst}
use Rattle.std.proofs.lemmas.Result.{on_ok_weaker}
use Rattle.message_types.specs.declared.signed.Signed.{Signed}
use Rattle.message_types.specs.declared.body.Body.{Body}
use Rattle.message_types.specs.declared.body.Body.TheVariants as body
use Rattle.reconcile.specs.GiftState.{AreGiftsOf}
use Rattle.reconcile.proofs.Passed.{other_passed}
use Rattle.master_knowledge.proofs.OfKind.{same_part, no_preordering}
use Rattle.master_knowledge.proofs.gift_words.take_gift_part.Goals as goal

pub returns-in_ok-copy-in-PoRequest-2 : goal.returns-in_ok-copy-in-PoRequest-2
returns-in_ok-copy-in-PoRequest-2 c = on_ok_weaker c.take_request.result (λ took g known is.
    subst (λ (f : Signed Body). AreGiftsOf g c.take_request.new.self (known ++ f ∷ []))
    (same_part body.PoRequest c.args.part.now c.in-PoRequest.request c.in_ok-copy-in-PoRequest.field-0
    c.in_ok-copy-in-PoRequest-2.field-0 c.in-PoRequest.is c.in_ok-copy-in-PoRequest.ensures
    c.in_ok-copy-in-PoRequest-2.ensures)
    (took g known is)) c.take_request.ensures.ok

pub returns-in_ok-copy-in-PoAck : goal.returns-in_ok-copy-in-PoAck
returns-in_ok-copy-in-PoAck c = on_ok_weaker c.take_ack.result (λ took g known is.
    subst (λ (f : Signed Body). AreGiftsOf g c.take_ack.new.self (known ++ f ∷ []))
    (same_part body.PoAck c.args.part.now c.in-PoAck.ack c.in-PoAck.ack c.in_ok-copy-in-PoAck.field-0 c.in-PoAck.is
    refl c.in_ok-copy-in-PoAck.ensures)
    (took g known is)) c.take_ack.ensures.ok

pub returns-in_default : goal.returns-in_default
returns-in_default c = other_passed c.args.gifts.now c.args.part.now
    (no_preordering c.args.part.now.signer c.args.part.now.body c.args.part.now.sig c.in_default.not-PoRequest
    c.in_default.not-PoAck)
