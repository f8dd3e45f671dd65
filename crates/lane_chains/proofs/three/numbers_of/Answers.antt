-- The lanes so far have the quotients of their places, which have 16 bits as these do; each turn fills the next lane.
use Rattle.std.proofs.Common.{◌∙◌, ◌/◌, ℕ, arith, slice_index}
use Rattle.std.proofs.lemmas.List.{length-set}
use Rattle.lane_chains.proofs.BytesAsWords.{lanes_more}
use Rattle.lane_chains.proofs.three.numbers_of.Goals as goal

pub lanes-preserved : goal.lanes-preserved
lanes-preserved c = (
  length-set c.lanes.words c.lanes.j _ ∙ c.lanes.invariant.0,
  lanes_more (λ (k : ℕ). slice_index c.args.group.now k / 3) c.lanes.words c.lanes.j _ c.lanes.invariant.0
      (omega arith) c.from.ensures
      c.lanes.invariant.1,
)

pub returns-clause-value : goal.returns-clause-value
returns-clause-value c j lt = c.lanes.invariant.1 j (omega arith)

pub returns-clause-fits : goal.returns-clause-fits
returns-clause-fits c j lt =
    let same = c.lanes.invariant.1 j (omega arith) in
    let fits = c.fits-group j in
    omega (arith, same, fits)
