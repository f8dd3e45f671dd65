use Rattle.std.proofs.Common.{sym, ◌∙◌, ap}
use Rattle.std.specs.List.{filter_map}
use Rattle.protocol_rules.specs.Words.{greatest_of}
use Rattle.protocol_rules.specs.Group.{group_of}
use Rattle.intruder_words.specs.Marking.{shown_by}
use Rattle.intruder_words.proofs.MarksKnown.{stable-is}
use Rattle.intruder_words.proofs.marks.stable.Goals as goal

pub returns : goal.returns
returns c = c.greatest_marked.ensures
    ∙ ap (λ ms. greatest_of (filter_map (shown_by (group_of c.args.sizes.now 0) ms) ms))
    (c.deref.ensures.value ∙ c.in_ok-marks.ensures) ∙ sym (stable-is (group_of c.args.sizes.now 0) c.args.known.now)
