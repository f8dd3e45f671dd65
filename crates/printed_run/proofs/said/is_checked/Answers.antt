use Rattle.std.proofs.Common.{Some, option_copied, sym, ◌∙◌, ap}
use Rattle.message_types.specs.declared.signed.Signed.{Signed}
use Rattle.message_types.specs.declared.body.Body.{Body}
use Rattle.printed_run.specs.Printed.{is_frame}
use Rattle.printed_run.proofs.SaidThere.{same_frame}
use Rattle.printed_run.proofs.said.is_checked.Goals as goal

pub returns-in-Some : goal.returns-in-Some
returns-in-Some c =
    same_frame c.is_same.result c.frame.result.now c.args.frame.now c.is_same.ensures
    ∙ ap (λ (x : Signed Body). is_frame c.args.frame.now (Some x)) c.frame.ensures.frame
    ∙ ap (λ o. is_frame c.args.frame.now (option_copied o)) (sym c.in-Some.is)
