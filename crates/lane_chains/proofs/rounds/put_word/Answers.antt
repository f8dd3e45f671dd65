-- In each lane the word is the sum of two mixed and two plain words before it, which is the next word of the
-- message schedule. No other place changes.
use Rattle.std.proofs.Common.{◌∙◌, ◌-◌, ap, refl, slice_set}
use Rattle.lane_chains.specs.Lanes.{column}
use Rattle.lane_chains.specs.Lanes.{column}
use Rattle.lane_chains.proofs.LanesOneByOne.{column_at, column-set}
use Rattle.lane_chains.proofs.rounds.put_word.Goals as goal

pub returns : goal.returns
returns c j lt =
    let r = c.args.room.now in
    let t = c.args.t in
    column-set r t j c.add-3.result
    ∙ ap (λ x. slice_set (column j r) t x)
    (rw (
      c.add-3.ensures j lt,
      c.add-2.ensures j lt,
      c.add.ensures j lt,
      c.small_sigma1.ensures j lt,
      c.small_sigma0.ensures j lt,
      column_at r (t - 2) j,
      column_at r (t - 7) j,
      column_at r (t - 15) j,
      column_at r (t - 16) j,
    ) refl)
