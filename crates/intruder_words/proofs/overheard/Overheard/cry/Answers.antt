-- Bytes that spell a frame teach its parts, since the frame read is the one spelled. Any other bytes teach
-- nothing, as the definition finds no frame in them either.
use Rattle.std.proofs.Common.{◌++◌, refl, sym, ◌∙◌, ap, arith, append-nil}
use Rattle.std.proofs.lemmas.Result.{on_ok_weaker}
use Rattle.message_forms.proofs.Spells.{IsBytes-from}
use Rattle.intruder_words.proofs.Learning.{read-found, fault-found, read-cry, no-cry}
use Rattle.intruder_words.proofs.overheard.Overheard.cry.Goals as goal

pub hear-requires : goal.hear-requires
hear-requires c = c.in-Ok.ensures.spelled

pub returns-in-Ok-clause-heard : goal.returns-in-Ok-clause-heard
returns-in-Ok-clause-heard c =
    let read = read-found c.args.bytes.now c.in-Ok.frame
    (IsBytes-from c.args.bytes.now (λ i. omega (arith, c.type_inv.bytes i))) (c.in-Ok.ensures.none refl)
    c.in-Ok.ensures.only in
    on_ok_weaker c.hear.result
    (λ heard. heard ∙ ap (λ fs. c.args.self.now ++ fs) (sym (read-cry c.args.bytes.now c.in-Ok.frame read)))
    c.hear.ensures.heard

pub returns-in-Err-clause-heard : goal.returns-in-Err-clause-heard
returns-in-Err-clause-heard c =
    on_ok_weaker c.unread.result
    (λ other. sym (ap (λ fs. c.args.self.now ++ fs)
    (no-cry c.args.bytes.now c.in-Err.refusal
    (fault-found c.args.bytes.now c.in-Err.refusal other c.in-Err.ensures.fault))
    ∙ append-nil c.args.self.now)) c.unread.ensures
