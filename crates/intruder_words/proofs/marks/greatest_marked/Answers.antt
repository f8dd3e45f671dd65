-- The number so far is the greatest that a quorum marked among the marks gone over; each turn raises it where
-- the next mark's number is such a one and greater.
use Rattle.std.proofs.Common.{◌∙◌, ap, arith}
use Rattle.std.specs.List.{filter_map}
use Rattle.std.proofs.lemmas.List.{take_all}
use Rattle.protocol_rules.specs.Words.{greatest_of}
use Rattle.protocol_rules.specs.Group.{group_of}
use Rattle.intruder_words.specs.Marking.{shown_by}
use Rattle.intruder_words.proofs.MarksKnown.{greatest-at}
use Rattle.intruder_words.proofs.marks.greatest_marked.Goals as goal

pub loop-mark-preserved : goal.loop-mark-preserved
loop-mark-preserved c = greatest-at (group_of c.args.sizes.now 0) c.args.marks.now c.loop-mark.mark-index record {
  s =
      0;
  master = 0;
} c.loop-mark.greatest c.raised-greatest.result c.loop-mark-test.true c.loop-mark.invariant
    c.raised-greatest.ensures

pub returns : goal.returns
returns c = c.loop-mark.invariant
    ∙ ap (λ ms. greatest_of (filter_map (shown_by (group_of c.args.sizes.now 0) c.args.marks.now) ms))
    (take_all c.loop-mark.mark-index c.args.marks.now (omega arith))
