use Rattle.std.proofs.Common.{◌∙◌, sym, subst}
use Rattle.run_lines.specs.Runs.{ReadsRun}
use Rattle.run_lines.proofs.Cutting.{run_with_title}
use Rattle.run_lines.proofs.runs.read_run.Goals as goal

pub returns-then-is_title-clause-lines : goal.returns-then-is_title-clause-lines
returns-then-is_title-clause-lines c =
    subst (ReadsRun c.read_after_heads.result)
    (run_with_title c.args.company.now.cast c.args.text.now c.in-Some.title.now c.in-Some.rest.now
    c.in-Some.ensures.pieces (sym c.is_title.ensures ∙ c.if-is_title.true))
    c.read_after_heads.ensures.lines
