-- The signs written so far, with those of the updates that are left, are the whole text: each update moves its signs from
-- the rest to the text.
use Rattle.std.proofs.Common.{◌++◌, ◌∙◌, ap, arith}
use Rattle.std.specs.Option.{option_or}
use Rattle.std.specs.Prelude.{string_bytes}
use Rattle.axis_pictures.specs.Plots.{dot_left, reading_text, setting_text, sign_text}
use Rattle.axis_pictures.proofs.Turned.{no_turn, one_turn}
use Rattle.axis_pictures.proofs.plot.put_signs.Goals as goal

pub loop-place-preserved : goal.loop-place-preserved
loop-place-preserved c =
    one_turn (sign_text c.args.frame c.args.number c.args.point.now)
    (dot_left c.args.frame c.args.number c.args.point.now) c.args.executed.now c.loop-place.place _
    c.loop-place.before _ (string_bytes c.loop-place.text) _ _ c.loop-place-test.true
    (c.in_ok-put_sign.ensures
    ∙ (λ j. string_bytes c.loop-place.text
    ++ (reading_text c.loop-place.before (c.dot_of-here.ensures j) ++ setting_text (c.box_of.ensures j))))
    (c.or-before.ensures ∙ ap (λ h. option_or h c.loop-place.before) c.dot_of-here.ensures) c.loop-place.invariant

pub returns : goal.returns
returns c =
    no_turn (sign_text c.args.frame c.args.number c.args.point.now)
    (dot_left c.args.frame c.args.number c.args.point.now) c.args.executed.now c.loop-place.place
    c.loop-place.before (string_bytes c.loop-place.text) _ (omega arith) c.loop-place.invariant
