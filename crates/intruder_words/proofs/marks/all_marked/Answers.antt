-- The marks so far are those among the frames gone over; a frame adds one where it is a mark, else none.
use Rattle.std.proofs.Common.{◌++◌, ◌∙◌, ap, arith}
use Rattle.std.specs.Option.{option_to_list}
use Rattle.std.proofs.lemmas.List.{take_all}
use Rattle.intruder_words.specs.Marking.{all_marked}
use Rattle.intruder_words.proofs.MarksKnown.{marked-next}
use Rattle.intruder_words.proofs.marks.all_marked.Goals as goal

pub loop-frame-preserved : goal.loop-frame-preserved
loop-frame-preserved c = marked-next c.args.known.now c.loop-frame.frame-index c.frame-item.result _ _
    c.loop-frame-test.true c.frame-item.is c.loop-frame.invariant
    (c.in_ok-extend_option.ensures.ok ∙ ap (λ o. c.loop-frame.marks.items ++ option_to_list o) c.marked_in.ensures)

pub returns : goal.returns
returns c = c.loop-frame.invariant ∙ ap all_marked (take_all c.loop-frame.frame-index c.args.known.now (omega arith))
