-- The lanes so far have the remainders of their places; each turn fills the next lane.
use Rattle.std.proofs.Common.{◌∙◌, ◌%◌, ℕ, arith, slice_index}
use Rattle.std.proofs.lemmas.List.{length-set}
use Rattle.lane_chains.proofs.BytesAsWords.{lanes_more}
use Rattle.lane_chains.proofs.three.keys_of.Goals as goal

pub lanes-preserved : goal.lanes-preserved
lanes-preserved c = (
  length-set c.lanes.words c.lanes.j _ ∙ c.lanes.invariant.0,
  lanes_more (λ (k : ℕ). slice_index c.args.group.now k % 3) c.lanes.words c.lanes.j _ c.lanes.invariant.0
      (omega arith) c.from.ensures
      c.lanes.invariant.1,
)

pub returns : goal.returns
returns c j lt = c.lanes.invariant.1 j (omega arith)
