use Rattle.std.proofs.Common.{arith}
use Rattle.run_lines.specs.Texts.{execution_text}
use Rattle.run_lines.proofs.Parts.{lines-more-at, lines-end}
use Rattle.run_lines.proofs.heads.put_executions.Goals as goal

pub returns : goal.returns
returns c = lines-end (execution_text c.args.cast) _ _ c.args.executions.now _ _ (omega arith) c.loop-place.invariant

pub loop-place-preserved : goal.loop-place-preserved
loop-place-preserved c =
    lines-more-at (execution_text c.args.cast) c.loop-place.place c.args.executions.now _ _ _ _ (omega arith)
    c.loop-place.invariant c.in_ok-put_execution.ensures
