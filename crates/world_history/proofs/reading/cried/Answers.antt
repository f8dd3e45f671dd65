-- Bytes that are read as a frame spell that one alone, and bytes that are refused spell none, so what is found
-- is what the cry says.
use Rattle.std.proofs.Common.{arith, refl, sym, ◌∙◌, ap}
use Rattle.message_forms.proofs.Spells.{IsBytes-from}
use Rattle.world_history.specs.Reading.{is_want_of_form}
use Rattle.world_history.proofs.FramesRead.{cried_read, nothing_cried, same_refusal}
use Rattle.world_history.proofs.reading.cried.Goals as goal

pub returns-in-Ok-clause-found : goal.returns-in-Ok-clause-found
returns-in-Ok-clause-found c =
    cried_read c.args.bytes.now c.in-Ok.frame (IsBytes-from c.args.bytes.now (λ i. omega (arith, c.type_inv.bytes i)))
    (c.in-Ok.ensures.none refl) c.in-Ok.ensures.only

pub returns-in-Err-2-clause-found : goal.returns-in-Err-2-clause-found
returns-in-Err-2-clause-found c = nothing_cried c.args.bytes.now c.in-Err-2.field-0
    (ap is_want_of_form (same_refusal c.read_frame.result c.in-Err-2.field-0 c.in-Err.refusal c.in-Err-2.is c.in-Err.is)
    ∙ sym c.is_want_of_form.ensures ∙ c.if-is_want_of_form.false)
    c.in-Err-2.ensures.fault
