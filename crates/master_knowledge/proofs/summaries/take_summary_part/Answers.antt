-- A summary that is in place has a number for each master at most, so the matrix can take it. Any other word
-- leaves the latest rows as they were.
use Rattle.std.proofs.Common.{[], ◌∷◌, ◌++◌, refl, ◌∙◌, ap, subst}
use Rattle.std.proofs.lemmas.Result.{on_ok_weaker}
use Rattle.message_types.specs.declared.signed.Signed.{Signed}
use Rattle.message_types.specs.declared.body.Body.{Body}
use Rattle.message_types.specs.declared.body.Body.TheVariants as body
use Rattle.summary_matrix.specs.Held.{IsMatrixOf}
use Rattle.summary_matrix.proofs.Latest.{matrix-others}
use Rattle.protocol_rules.specs.Places.{in_place}
use Rattle.master_knowledge.proofs.OfKind.{same_part, no_summary}
use Rattle.master_knowledge.proofs.Whole.{first_in_place, summary_placed}
use Rattle.master_knowledge.proofs.summaries.take_summary_part.Goals as goal

pub returns-in_ok-copy-in-PoSummary-2-clause-ok : goal.returns-in_ok-copy-in-PoSummary-2-clause-ok
returns-in_ok-copy-in-PoSummary-2-clause-ok c = on_ok_weaker c.take.result (λ took g known is.
    subst (λ (f : Signed Body). IsMatrixOf g c.take.new.self (known ++ f ∷ []))
    (same_part body.PoSummary c.args.part.now c.in-PoSummary.summary c.in_ok-copy-in-PoSummary.field-0
    c.in_ok-copy-in-PoSummary-2.field-0 c.in-PoSummary.is c.in_ok-copy-in-PoSummary.ensures
    c.in_ok-copy-in-PoSummary-2.ensures)
    (took g known is)) c.take.ensures.ok

pub returns-in_default : goal.returns-in_default
returns-in_default c = record {
  group = refl;
  ok = matrix-others c.args.matrix.now c.args.part.now
      (no_summary c.args.part.now.signer c.args.part.now.body c.args.part.now.sig c.in_default.not-PoSummary);
}

pub take-requires : goal.take-requires
take-requires c = summary_placed c.requires.group c.args.matrix.now.group c.args.part.now.signer
    c.in_ok-copy-in-PoSummary.field-0 c.in_ok-copy-in-PoSummary-2.field-0 c.requires.same
    (ap (in_place c.requires.group)
    (same_part body.PoSummary c.args.part.now c.in-PoSummary.summary c.in_ok-copy-in-PoSummary.field-0
    c.in_ok-copy-in-PoSummary-2.field-0 c.in-PoSummary.is c.in_ok-copy-in-PoSummary.ensures
    c.in_ok-copy-in-PoSummary-2.ensures)
    ∙ first_in_place c.requires.group c.args.part.now c.requires.whole)
