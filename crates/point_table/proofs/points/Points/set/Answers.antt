-- There are as many values as points, so a point that is there has a value to replace. A value that passed the
-- bounds keeps the table's values all within theirs.
use Rattle.std.proofs.Common.{ap, ◌≡◌, ◌<◌, length, sym, arith, w64, true, to_z, of_z}
use Rattle.std.proofs.lemmas.Option.{slice_get_within}
use Rattle.std.proofs.lemmas.Int.{ints, to_z-of_z}
use Rattle.point_table.specs.Point.{is_within}
use Rattle.point_table.specs.Table.{Table}
use Rattle.point_table.proofs.TableLaws.{AreWithin-length, AreWithin-set}
use Rattle.point_table.proofs.points.Points.set.Goals as goal

pub index_mut-requires : goal.index_mut-requires
index_mut-requires c =
    let there : c.args.point < length c.self.inside.points = slice_get_within _ _ _ (sym c.in-Some.ensures) in
    let each : length c.self.inside.values.items ≡ length c.self.inside.points =
    AreWithin-length _ _ c.self.invariant.2 in
    omega (arith, c.self.inside.values.ok)

pub invariant_of-self : goal.invariant_of-self
invariant_of-self c =
    let same : to_z w64 (of_z w64 c.args.value) ≡ c.args.value = to_z-of_z w64 c.args.value c.ranges.value in
    let within : is_within c.in-Some.found.now c.args.value ≡ true = grind (arith, ints, to_z-of_z) in (
      c.self.invariant.0,
      c.self.invariant.1,
      rw same (AreWithin-set _ _ _ _ _ (sym c.in-Some.ensures) within c.self.invariant.2),
    )

pub returns-clause-no_point : goal.returns-clause-no_point
returns-clause-no_point c = (
  λ e. cc,
  λ low.
      let there : c.args.point < length c.self.inside.points = slice_get_within _ _ _ (sym c.in-Some.ensures) in
      let same : length c.self.inside.points ≡ length c.args.self.now.points =
      ap (λ (t : Table). length t.points) c.self.view_is in
      absurd (omega arith),
)
