-- Devices, points, alarms and interlocks are read in this order, each with what the ones before allow. What was
-- read is few and usable, so table and board can be made of it.
use Rattle.std.proofs.Common.{◌≤◌, length, arith}
use Rattle.scenario_file.proofs.PlantLaws.{devices_of-few, points_of-few, points_of-usable, alarms_of-few}
use Rattle.scenario_file.proofs.plant.plant.Goals as goal

pub overflow_cast-len : goal.overflow_cast-len
overflow_cast-len c =
    let few : length c.in_ok-devices.devices ≤ 8 = devices_of-few _ _ c.in_ok-devices.ensures in
    let same = c.len.ensures in omega arith

pub make-requires-clause-few : goal.make-requires-clause-few
make-requires-clause-few c = rw c.as_slice.ensures (points_of-few _ _ _ c.in_ok-points.ensures)

pub make-requires-clause-usable : goal.make-requires-clause-usable
make-requires-clause-usable c = rw c.as_slice.ensures (points_of-usable _ _ _ c.in_ok-points.ensures)

pub make-requires-2 : goal.make-requires-2
make-requires-2 c = rw c.as_slice-2.ensures (alarms_of-few _ _ _ c.in_ok-alarms.ensures)

pub returns-clause-few : goal.returns-clause-few
returns-clause-few c = devices_of-few _ _ c.in_ok-devices.ensures
