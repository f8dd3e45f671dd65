-- The definition treats each line by itself, so what is made of the lines so far grows by one line's share a
-- turn, and after the last line it is that of the whole text.
use Rattle.std.proofs.Common.{arith, ap, ◌∙◌}
use Rattle.std.specs.List.{flat_map}
use Rattle.run_commands.specs.Summary.{summary, summary_line}
use Rattle.run_commands.proofs.MadePieces.{shown, line-more, lines-end}
use Rattle.run_commands.proofs.summary_lines.summary.Goals as goal

pub loop-line-preserved : goal.loop-line-preserved
loop-line-preserved c =
    line-more summary_line c.loop-line.line-index c.deref-line-items.result.now _ _ _ _ (omega arith)
    c.loop-line.invariant c.in_ok-put_line.ensures

pub returns : goal.returns
unfolding summary
returns c =
    lines-end summary_line c.loop-line.line-index c.deref-line-items.result.now _ _ (omega arith) c.loop-line.invariant
    ∙ ap (λ ls. flat_map summary_line (shown ls)) c.deref-line-items.ensures.value
    ∙ ap (flat_map summary_line) c.in_ok-lines_of.ensures
