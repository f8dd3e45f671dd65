use Rattle.std.proofs.Common.{get_or, sym, ◌∙◌}
use Rattle.summary_matrix.proofs.Latest.{frames-known, proposal-none, proposal-some}
use Rattle.summary_matrix.proofs.matrix.Matrix.proposal.Goals as goal

pub returns-then-not-exceeds : goal.returns-then-not-exceeds
returns-then-not-exceeds c g known is = proposal-none g known (λ j. get_or c.args.offered.now.numbers j 0)
    (sym (c.exceeds.ensures g known is) ∙ c.if-not-exceeds.true)

pub returns : goal.returns
returns c g known is = proposal-some g known (λ j. get_or c.args.offered.now.numbers j 0) c.in_ok-frames.field-0
    (sym (c.exceeds.ensures g known is) ∙ c.if-not-exceeds.false)
    (c.in_ok-frames.ensures ∙ frames-known g c.args.self.now known is)
