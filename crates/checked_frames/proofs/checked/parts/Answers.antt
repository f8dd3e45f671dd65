-- What is listed are the frame's parts, and these stand where the frame does.
use Rattle.std.proofs.Common.{map, ap, ◌∙◌}
use Rattle.std.proofs.lemmas.Result.{IfOk-weaker}
use Rattle.message_types.specs.Parts.{parts}
use Rattle.checked_frames.specs.Standing.{said_by}
use Rattle.checked_frames.proofs.StandingLaws.{parts_said}
use Rattle.checked_frames.proofs.checked.parts.Goals as goal

pub returns-clause-standing : goal.returns-clause-standing
returns-clause-standing c = IfOk-weaker c.pairs.result _ _ (λ list is. parts_said c.args.checked.now list.items
    (is ∙ ap (map said_by) (c.in_ok-frames.ensures ∙ ap parts c.frame.ensures.frame))) c.pairs.ensures
