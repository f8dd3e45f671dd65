-- Lines of heads are passed over one by one, and the line that tells the count is the first that begins as
-- such. Where the text ends before it, the fault is at the line that should have told it.
use Rattle.std.proofs.Common.{◌∙◌, List, ℕ, ap, sym, subst, arith}
use Rattle.script_grammar.proofs.LineLaws.{rest_whole}
use Rattle.run_lines.specs.Runs.{pieces, count_in, counted, ReadsRun}
use Rattle.run_lines.proofs.Cutting.{head_is_passed, count_found}
use Rattle.run_lines.proofs.runs.read_after_heads.Goals as goal

pub returns-then-counts-clause-lines : goal.returns-then-counts-clause-lines
returns-then-counts-clause-lines c =
    let cast = c.args.company.now.cast in
    subst (ReadsRun c.read_counted.result)
    (ap (λ (digits : List ℕ). counted cast c.loop-head.line (count_in digits) (pieces c.in-Some.after.now))
    (rest_whole c.in-Some.head.now 8)
    ∙ count_found cast c.loop-head.line c.in-Some.head.now c.loop-head.rest.now c.in-Some.after.now _
    c.loop-head.invariant.0 c.in-Some.ensures.pieces (sym c.counts.ensures ∙ c.if-counts.true))
    c.read_counted.ensures.lines

pub loop-head-preserved : goal.loop-head-preserved
loop-head-preserved c = (
  head_is_passed c.args.company.now.cast c.loop-head.line c.in-Some.head.now c.loop-head.rest.now c.in-Some.after.now
      _ c.loop-head.invariant.0 c.in-Some.ensures.pieces
      (sym c.counts.ensures ∙ c.if-counts.false),
  omega (arith, c.in-Some.ensures.shorter, c.loop-head.invariant.1),
)
