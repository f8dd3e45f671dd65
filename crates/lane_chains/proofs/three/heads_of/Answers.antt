-- The heads are the first three values, and the first three lanes take them.
use Rattle.std.proofs.Common.{◌≢◌, ◌∙◌, ◌<◌, ℕ, arith}
use Rattle.lane_chains.proofs.LanesOneByOne.{below_eight}
use Rattle.lane_chains.proofs.ThreeKeys.{below_three}
use Rattle.lane_chains.proofs.three.heads_of.Goals as goal

differs : (m n : ℕ) → m < n → m ≢ n
differs m n lt e = absurd (omega arith)

pub gathered_values-requires : goal.gathered_values-requires
gathered_values-requires c = below_eight _ (omega arith) (omega arith) (omega arith) (omega arith) (omega arith)
    (omega arith) (omega arith) (omega arith)

pub returns : goal.returns
returns c = below_three _
    (c.gathered_values.ensures 0 (omega arith)
    ∙ c.write_value-3.ensures.others 0 (differs 0 2 (omega arith))
    ∙ c.write_value-2.ensures.others 0 (differs 0 1 (omega arith))
    ∙ c.write_value.ensures.written ∙ c.head.ensures)
    (c.gathered_values.ensures 1 (omega arith)
    ∙ c.write_value-3.ensures.others 1 (differs 1 2 (omega arith))
    ∙ c.write_value-2.ensures.written ∙ c.head-2.ensures)
    (c.gathered_values.ensures 2 (omega arith) ∙ c.write_value-3.ensures.written ∙ c.head-3.ensures)
