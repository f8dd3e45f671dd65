-- The lanes so far have the group's numbers, as words; each turn fills the next. As the numbers have 16 bits,
-- so do the words.
use Rattle.std.proofs.Common.{◌∙◌, ℕ, arith, slice_index}
use Rattle.std.proofs.lemmas.List.{length-set}
use Rattle.lane_chains.proofs.BytesAsWords.{lanes_more}
use Rattle.lane_chains.proofs.words.spread.Goals as goal

pub lanes-preserved : goal.lanes-preserved
lanes-preserved c = (
  length-set c.lanes.words c.lanes.j _ ∙ c.lanes.invariant.0,
  lanes_more (λ (k : ℕ). slice_index c.args.group.now k) c.lanes.words c.lanes.j _ c.lanes.invariant.0
      (omega arith) c.from.ensures
      c.lanes.invariant.1,
)

pub returns-clause-value : goal.returns-clause-value
returns-clause-value c j lt = c.lanes.invariant.1 j (omega arith)

pub returns-clause-fits : goal.returns-clause-fits
returns-clause-fits c j lt =
    let same = c.lanes.invariant.1 j (omega arith) in
    let fits = c.fits-group j in
    omega (arith, same, fits)
