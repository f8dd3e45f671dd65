-- The parts are those of the frame that the event takes, and none where it takes none. A frame taken stands, so
-- that it has few parts and all of them are spelled.
use Rattle.std.proofs.Common.{subst, sym, ap, ◌∙◌}
use Rattle.message_types.specs.Parts.{parts}
use Rattle.checked_frames.proofs.InsideLaws.{AreFew}
use Rattle.history_audit.proofs.Spelled.{parts_few}
use Rattle.history_audit.proofs.counting.parts_taken.Goals as goal

pub returns-in_ok-parts-in-Took-clause-few : goal.returns-in_ok-parts-in-Took-clause-few
returns-in_ok-parts-in-Took-clause-few c =
    let all : AreFew 3347 c.in_ok-parts-in-Took.parts.items =
    subst (AreFew 3347) (sym (c.in_ok-parts-in-Took.ensures ∙ ap parts c.frame.ensures.frame))
    (parts_few c.in-Took.frame c.frame.ensures.spelled) in
    all.few

pub returns-in_ok-parts-in-Took-clause-spelled : goal.returns-in_ok-parts-in-Took-clause-spelled
returns-in_ok-parts-in-Took-clause-spelled c =
    let all : AreFew 3347 c.in_ok-parts-in-Took.parts.items =
    subst (AreFew 3347) (sym (c.in_ok-parts-in-Took.ensures ∙ ap parts c.frame.ensures.frame))
    (parts_few c.in-Took.frame c.frame.ensures.spelled) in
    all.each
