-- Base 0 needs no marks. Any other is shown by each master's first mark, where at least q masters made one, and
-- then by the q lowest masters' marks; marks among frames are those among the facts.
use Rattle.std.proofs.Common.{Some, ◌∙◌, ap, arith}
use Rattle.std.proofs.lemmas.Bool.{ne_eqb}
use Rattle.protocol_rules.specs.Group.{group_of}
use Rattle.protocol_rules.specs.Facts.{facts_of}
use Rattle.intruder_words.proofs.MarksKnown.{base-few, base-shown}
use Rattle.global_order.proofs.Certifying.{base-none}
use Rattle.intruder_words.proofs.marks.marks_at.Goals as goal

pub returns-then-base-eq0 : goal.returns-then-base-eq0
returns-then-base-eq0 c = ap Some c.new.ensures ∙ base-none (group_of c.args.sizes.now 0)
    (facts_of (group_of c.args.sizes.now 0) c.args.known.now) c.args.base c.if-base-eq0.true

pub returns-then-len-sizes : goal.returns-then-len-sizes
returns-then-len-sizes c =
    base-few (group_of c.args.sizes.now 0) c.args.known.now c.args.base c.in_ok-marks.marks.items
    (ne_eqb c.args.base 0 c.if-base-eq0.false) c.in_ok-marks.ensures
    (omega (arith, c.len.ensures, c.if-len-sizes.true, c.in_ok-marks.marks.ok))

pub returns : goal.returns
returns c = ap Some (c.from_vec.ensures ∙ c.truncate.ensures.items)
    ∙ base-shown (group_of c.args.sizes.now 0) c.args.known.now c.args.base c.in_ok-marks.marks.items
    (ne_eqb c.args.base 0 c.if-base-eq0.false) c.in_ok-marks.ensures
    (omega (arith, c.len.ensures, c.if-len-sizes.false, c.in_ok-marks.marks.ok))
