-- A part counts where it is forged, by the words said before: so the count so far is how many of the parts gone
-- over are forged.
use Rattle.std.proofs.Common.{Bool, cond, List, length, filter, arith, ap, ◌∙◌}
use Rattle.std.proofs.lemmas.List.{take_all}
use Rattle.message_types.specs.declared.signed.Signed.{Signed}
use Rattle.message_types.specs.declared.body.Body.{Body}
use Rattle.history_rules.specs.Counts.{is_forged}
use Rattle.history_audit.proofs.Whole.{forged_counted}
use Rattle.history_audit.proofs.counting.count_forged.Goals as goal

pub loop-part-preserved : goal.loop-part-preserved
loop-part-preserved c = (
  omega (arith, c.one_if-forged.ensures.most, c.loop-part.invariant.0),
  λ w before masters has.
      forged_counted (is_forged w before) c.args.parts.now c.loop-part.part-index c.part-item.result
      c.loop-part.forged c.one_if-forged.result c.loop-part-test.true c.part-item.is
      (c.loop-part.invariant.1 w before masters has)
      (c.one_if-forged.ensures.one ∙ ap (λ (b : Bool). cond b 1 0) (c.is_forged.ensures w before masters has)),
)

pub returns-clause-forged : goal.returns-clause-forged
returns-clause-forged c = λ w before masters has.
    c.loop-part.invariant.1 w before masters has
    ∙ ap (λ (ps : List (Signed Body)). length (filter (is_forged w before) ps))
    (take_all c.loop-part.part-index c.args.parts.now c.loop-part-test.false)
