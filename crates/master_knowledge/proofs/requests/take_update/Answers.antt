-- An update is handed on as an equal copy, so it is the frame itself that was taken. A frame of another kind changes
-- nothing that pre-ordering goes by.
use Rattle.std.proofs.Common.{◌∷◌, ◌++◌, [], refl, subst}
use Rattle.std.proofs.lemmas.Result.{on_ok_weaker}
use Rattle.message_types.specs.declared.signed.Signed.{Signed}
use Rattle.message_types.specs.declared.body.Body.{Body}
use Rattle.message_types.specs.declared.body.Body.TheVariants as body
use Rattle.preorder.specs.PreorderState.{IsPreorderOf}
use Rattle.preorder.proofs.Composed.{taken-passed}
use Rattle.master_knowledge.proofs.OfKind.{same_part, no_update}
use Rattle.master_knowledge.proofs.requests.take_update.Goals as goal

pub returns-in_ok-copy-in-Update-clause-ok : goal.returns-in_ok-copy-in-Update-clause-ok
returns-in_ok-copy-in-Update-clause-ok c = on_ok_weaker c.take_update.result (λ took g me taken known said is.
    subst (λ (f : Signed Body). IsPreorderOf g me c.take_update.new.self (taken ++ f ∷ []) known said)
    (same_part body.Update c.args.frame.now c.in-Update.update c.in-Update.update c.in_ok-copy-in-Update.field-0
    c.in-Update.is refl c.in_ok-copy-in-Update.ensures)
    (took g me taken known said is)) c.take_update.ensures.taken

pub returns-in_default-clause-ok : goal.returns-in_default-clause-ok
returns-in_default-clause-ok c = λ g me taken known said is.
    taken-passed g me c.args.preorder.now taken known said c.args.frame.now
    (no_update c.args.frame.now.signer c.args.frame.now.body c.args.frame.now.sig c.in_default.not-Update) is
