-- Each limit of a plant by the counts of what was made; each point's device is there, since two were made.
use Rattle.std.proofs.Common.{sym, subst, arith}
use Rattle.master_points.specs.Orders.{AreOwned}
use Rattle.plant_tests.proofs.plants.plant.Goals as goal

pub returns : goal.returns
returns c = record {
  devices = omega (arith, c.in_ok-devices.ensures);
  points = omega (arith, c.in_ok-points.ensures.many);
  usable = c.in_ok-points.ensures.usable;
  owned = subst (λ n. AreOwned n c.in_ok-points.points) (sym c.in_ok-devices.ensures) c.in_ok-points.ensures.owned;
  alarms = omega (arith, c.in_ok-alarms.ensures);
  interlocks = omega (arith, c.in_ok-interlocks.ensures);
  shown = omega arith;
}
