-- A request or an acknowledgement can complete the certificate of its own request alone, and any other part
-- none. So only that one request has to be looked at anew.
use Rattle.std.proofs.Common.{[], ◌∷◌, ◌++◌, refl, sym, ◌∙◌, ap, subst}
use Rattle.std.proofs.lemmas.Result.{on_ok_weaker}
use Rattle.message_types.specs.declared.signed.Signed.{Signed}
use Rattle.message_types.specs.declared.body.Body.{Body}
use Rattle.message_types.specs.declared.body.Body.TheVariants as body
use Rattle.protocol_rules.specs.Preorder.{certified}
use Rattle.preorder.specs.PreorderState.{certified_in}
use Rattle.protocol_rules.specs.Master.{certified_requests}
use Rattle.master_knowledge.specs.Certifying.{IsCertifiedAt}
use Rattle.master_knowledge.proofs.OfKind.{same_part, no_preordering}
use Rattle.master_knowledge.proofs.Certified.{request_certifies, ack_certifies, other_certifies, run_same}
use Rattle.master_knowledge.proofs.certificate.take_certificate_part.Goals as goal

pub returns-in-PoRequest-clause-ok : goal.returns-in-PoRequest-clause-ok
returns-in-PoRequest-clause-ok c = on_ok_weaker c.take_certificate.result (λ ran g known runs same run.
    let is = same_part body.PoRequest c.args.part.now c.in-PoRequest.request c.in-PoRequest.request
    c.args.part.now.sig c.in-PoRequest.is refl refl in
    ran g (certified_requests g known) (certified_requests g (known ++ c.args.part.now ∷ [])) runs
    (subst (λ (f : Signed Body). IsCertifiedAt c.args.part.now.signer c.in-PoRequest.request.k
    (certified_in c.args.preorder.now c.args.part.now.signer c.in-PoRequest.request.k)
    (certified_requests g known) (certified_requests g (known ++ f ∷ []))) is
    (request_certifies g known record {
      signer = c.args.part.now.signer;
      body = c.in-PoRequest.request;
      sig =
          c.args.part.now.sig;
    } (certified_in c.args.preorder.now c.args.part.now.signer c.in-PoRequest.request.k)
    (same c.args.part.now.signer c.in-PoRequest.request.k
    ∙ ap (λ (f : Signed Body). certified g (known ++ f ∷ []) c.args.part.now.signer c.in-PoRequest.request.k)
    (sym is)))) run) c.take_certificate.ensures.ok

pub returns-in-PoAck-clause-ok : goal.returns-in-PoAck-clause-ok
returns-in-PoAck-clause-ok c = on_ok_weaker c.take_certificate-in-PoAck.result (λ ran g known runs same run.
    let is = same_part body.PoAck c.args.part.now c.in-PoAck.ack c.in-PoAck.ack c.args.part.now.sig
    c.in-PoAck.is refl refl in
    ran g (certified_requests g known) (certified_requests g (known ++ c.args.part.now ∷ [])) runs
    (subst (λ (f : Signed Body). IsCertifiedAt c.in-PoAck.ack.j c.in-PoAck.ack.k
    (certified_in c.args.preorder.now c.in-PoAck.ack.j c.in-PoAck.ack.k) (certified_requests g known)
    (certified_requests g (known ++ f ∷ []))) is
    (ack_certifies g known record {
      signer = c.args.part.now.signer;
      body = c.in-PoAck.ack;
      sig =
          c.args.part.now.sig;
    } (certified_in c.args.preorder.now c.in-PoAck.ack.j c.in-PoAck.ack.k)
    (same c.in-PoAck.ack.j c.in-PoAck.ack.k
    ∙ ap (λ (f : Signed Body). certified g (known ++ f ∷ []) c.in-PoAck.ack.j c.in-PoAck.ack.k) (sym is)))) run)
    c.take_certificate-in-PoAck.ensures.ok

pub returns-in_default : goal.returns-in_default
returns-in_default c = record {
  group = refl;
  numbers = refl;
  ok = λ g known runs same run. run_same g c.args.run.now (certified_requests g known)
      (certified_requests g (known ++ c.args.part.now ∷ [])) runs
      (other_certifies g known c.args.part.now
      (no_preordering c.args.part.now.signer c.args.part.now.body c.args.part.now.sig c.in_default.not-PoRequest
      c.in_default.not-PoAck)) run;
}
