use Rattle.point_table.proofs.TableLaws.{HasScale-at}
use Rattle.point_table.proofs.points.Points.point.Goals as goal

pub returns-in-Some-clause-scaled : goal.returns-in-Some-clause-scaled
returns-in-Some-clause-scaled c = HasScale-at _ _ _ c.self.invariant.1 c.in-Some.ensures
