-- The frame is given where the check by the ring of keys passes, and that is just where it stands.
use Rattle.std.proofs.Common.{refl, sym, ap, ◌∙◌}
use Rattle.world_history.specs.Reading.{is_want_of_check}
use Rattle.world_history.proofs.FramesRead.{passed_found, refused_not_found, same_refusal}
use Rattle.world_history.proofs.reading.if_standing.Goals as goal

pub returns-in-Ok : goal.returns-in-Ok
returns-in-Ok c = passed_found c.args.ring.now c.args.frame c.in-Ok.frame c.in-Ok.ensures.frame
    (c.in-Ok.ensures.stands refl)

pub returns-in-Err-2 : goal.returns-in-Err-2
returns-in-Err-2 c = refused_not_found c.args.ring.now c.args.frame c.in-Err-2.field-0
    (ap is_want_of_check (same_refusal c.check_with.result c.in-Err-2.field-0 c.in-Err.refusal c.in-Err-2.is
    c.in-Err.is) ∙ sym c.is_want_of_check.ensures ∙ c.if-is_want_of_check.false)
    c.in-Err-2.ensures.fault
