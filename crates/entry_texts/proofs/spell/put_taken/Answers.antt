-- The frame's length fits its four bytes: a checked frame has a spelling, and a frame that has one is short.
use Rattle.std.proofs.Common.{◌<◌, ◌^◌, length, ap, sym, subst, arith}
use Rattle.std.specs.Prelude.{IsTrue}
use Rattle.message_types.specs.Texts.{frame_text}
use Rattle.message_types.specs.Spelling.{has_spelling}
use Rattle.entry_texts.proofs.TextLaws.{frame_short}
use Rattle.entry_texts.proofs.spell.put_taken.Goals as goal

pub overflow_cast-len : goal.overflow_cast-len
overflow_cast-len c =
    let spelled = subst (λ f. IsTrue (has_spelling f)) (sym c.frame-frame.ensures.frame)
    c.frame-frame.ensures.spelled in
    let short : length (frame_text c.frame-frame.result.now) < 2 ^ 32 =
    frame_short c.frame-frame.result.now c.look.ensures spelled in
    omega (arith, short, ap length c.in_ok-text.ensures, c.len.ensures, c.in_ok-text.text.ok)
