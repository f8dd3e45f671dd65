-- The lanes so far have the numbers that their chains have in the list; each turn fills the next lane.
use Rattle.std.proofs.Common.{◌∙◌, ℕ, ap, arith, slice_index}
use Rattle.std.proofs.lemmas.List.{length-set}
use Rattle.lane_chains.proofs.BytesAsWords.{lanes_more}
use Rattle.lane_chains.proofs.words.gathered.Goals as goal

pub lanes-preserved : goal.lanes-preserved
lanes-preserved c = (
  length-set c.lanes.words c.lanes.j _ ∙ c.lanes.invariant.0,
  lanes_more (λ (k : ℕ). slice_index c.args.numbers.now (slice_index c.args.group.now k)) c.lanes.words c.lanes.j _
      c.lanes.invariant.0 (omega arith)
      (c.from.ensures ∙ ap (λ (i : ℕ). slice_index c.args.numbers.now i) c.from-i.ensures) c.lanes.invariant.1,
)

pub returns : goal.returns
returns c j lt = c.lanes.invariant.1 j (omega arith)
