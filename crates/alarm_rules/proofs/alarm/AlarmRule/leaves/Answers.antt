-- The limit and its band as numbers of 128 bits can't overflow, so that the comparison in the code is that of
-- the integers, for an alarm above as for one below.
use Rattle.std.proofs.Common.{arith, to_z, of_z, ◌-ℤ◌, ◌+ℤ◌, ℤ}
use Rattle.std.specs.Int.{w128}
use Rattle.std.proofs.lemmas.Int.{ints}
use Rattle.alarm_rules.proofs.AlarmLaws.{leaves-High, leaves-Low}
use Rattle.alarm_rules.proofs.alarm.AlarmRule.leaves.Goals as goal

pub returns-in-High : goal.returns-in-High
returns-in-High c =
    let value : ℤ = to_z w128 (of_z w128 c.from-value.result) in
    let bound : ℤ = to_z w128
    (of_z w128 (to_z w128 (of_z w128 c.from-limit.result) -ℤ to_z w128 (of_z w128 c.from-band.result))) in
    leaves-High c.args.self.now c.args.value value bound (omega (arith, ints)) (omega (arith, ints)) c.in-High.is

pub returns-in-Low : goal.returns-in-Low
returns-in-Low c =
    let value : ℤ = to_z w128 (of_z w128 c.from-value.result) in
    let bound : ℤ = to_z w128
    (of_z w128 (to_z w128 (of_z w128 c.from-limit.result) +ℤ to_z w128 (of_z w128 c.from-band.result))) in
    leaves-Low c.args.self.now c.args.value value bound (omega (arith, ints)) (omega (arith, ints)) c.in-Low.is
