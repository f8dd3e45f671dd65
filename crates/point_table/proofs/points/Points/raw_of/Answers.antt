-- A number past the last point finds none, and one that finds a point is below the count. So the two refusals
-- never mix, and the point's own raw value is the answer.
use Rattle.std.proofs.Common.{ap, ◌≡◌, sym, arith, ◌<◌, length}
use Rattle.std.proofs.lemmas.Option.{slice_get_within}
use Rattle.point_table.specs.Table.{Table}
use Rattle.point_table.proofs.TableLaws.{HasScale-at}
use Rattle.point_table.proofs.points.Points.raw_of.Goals as goal

pub raw_of-requires : goal.raw_of-requires
raw_of-requires c = HasScale-at _ _ _ c.self.invariant.1 c.in-Some.ensures

pub returns-in-Some-raw_of-clause-no_point : goal.returns-in-Some-raw_of-clause-no_point
returns-in-Some-raw_of-clause-no_point c = (
  λ e. cc,
  λ low.
      let there : c.args.point < length c.self.inside.points = slice_get_within _ _ _ (sym c.in-Some.ensures) in
      let same : length c.self.inside.points ≡ length c.args.self.now.points =
      ap (λ (t : Table). length t.points) c.self.view_is in
      absurd (omega arith),
)

pub returns-in-None-clause-no_point : goal.returns-in-None-clause-no_point
returns-in-None-clause-no_point c = (
  λ e. cc,
  λ low.
      let there : c.args.point < length c.self.inside.points = slice_get_within _ _ _ (sym c.in-Some.ensures) in
      let same : length c.self.inside.points ≡ length c.args.self.now.points =
      ap (λ (t : Table). length t.points) c.self.view_is in
      absurd (omega arith),
)
