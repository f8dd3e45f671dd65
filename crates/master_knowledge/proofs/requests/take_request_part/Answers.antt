-- What is handed on is an equal copy of the part, so what pre-ordering learns is the part itself. A part of another
-- kind is handed to nobody, and changes nothing that pre-ordering goes by.
use Rattle.std.proofs.Common.{◌∷◌, ◌++◌, [], refl, subst}
use Rattle.std.proofs.lemmas.Result.{on_ok_weaker}
use Rattle.message_types.specs.declared.signed.Signed.{Signed}
use Rattle.message_types.specs.declared.body.Body.{Body}
use Rattle.message_types.specs.declared.body.Body.TheVariants as body
use Rattle.preorder.specs.PreorderState.{IsPreorderOf}
use Rattle.preorder.proofs.Composed.{known-passed}
use Rattle.master_knowledge.proofs.OfKind.{same_part, no_preordering}
use Rattle.master_knowledge.proofs.requests.take_request_part.Goals as goal

pub returns-in_ok-copy-in-PoRequest-2-clause-ok : goal.returns-in_ok-copy-in-PoRequest-2-clause-ok
returns-in_ok-copy-in-PoRequest-2-clause-ok c = on_ok_weaker c.take_request.result (λ learned g me taken known said is.
    subst (λ (f : Signed Body). IsPreorderOf g me c.take_request.new.self taken (known ++ f ∷ []) said)
    (same_part body.PoRequest c.args.part.now c.in-PoRequest.request c.in_ok-copy-in-PoRequest.field-0
    c.in_ok-copy-in-PoRequest-2.field-0 c.in-PoRequest.is c.in_ok-copy-in-PoRequest.ensures
    c.in_ok-copy-in-PoRequest-2.ensures)
    (learned g me taken known said is)) c.take_request.ensures.learned

pub returns-in_ok-copy-in-PoAck-clause-ok : goal.returns-in_ok-copy-in-PoAck-clause-ok
returns-in_ok-copy-in-PoAck-clause-ok c = on_ok_weaker c.take_ack.result (λ learned g me taken known said is.
    subst (λ (f : Signed Body). IsPreorderOf g me c.take_ack.new.self taken (known ++ f ∷ []) said)
    (same_part body.PoAck c.args.part.now c.in-PoAck.ack c.in-PoAck.ack c.in_ok-copy-in-PoAck.field-0 c.in-PoAck.is
    refl c.in_ok-copy-in-PoAck.ensures)
    (learned g me taken known said is)) c.take_ack.ensures.learned

pub returns-in_default-clause-ok : goal.returns-in_default-clause-ok
returns-in_default-clause-ok c = λ g me taken known said is.
    known-passed g me c.args.preorder.now taken known said c.args.part.now
    (no_preordering c.args.part.now.signer c.args.part.now.body c.args.part.now.sig c.in_default.not-PoRequest
    c.in_default.not-PoAck) is
