use Rattle.std.proofs.Common.{◌≡◌, arith}
use Rattle.std.proofs.lemmas.Grind.{common_steps}
use Rattle.point_table.specs.Table.{start_values}
use Rattle.point_table.proofs.TableLaws.{AreWithin-start}
use Rattle.point_table.proofs.points.Points.make.Goals as goal

pub invariant_of-result : goal.invariant_of-result
invariant_of-result c =
    let copies : c.from_vec.result ≡ c.args.points.now = grind (arith, common_steps) in
    let values : c.in_ok-values.values.items ≡ start_values c.args.points.now = c.in_ok-values.ensures in
    rw copies (rw values (c.requires.few, c.requires.usable, AreWithin-start _ c.requires.usable))
