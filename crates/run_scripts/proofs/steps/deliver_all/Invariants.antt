-- What is left is still due at the present making, as entries only grow in number. From there the deliveries
-- left go where all of them go from the first making.
use Rattle.std.proofs.Common.{◌≡◌, true, drop}
use Rattle.std.specs.List.{list_all}
use Rattle.scenario_file.specs.Reading.{contents}
use Rattle.run_scripts.specs.Making.{deliver_all}
use Rattle.run_scripts.specs.Playing.{given_in, is_due}
use Rattle.run_scripts.proofs.DoneAndLeft.{Underway}
use Rattle.run_scripts.proofs.steps.deliver_all.Given as goal

-- those delivered are done, with the rest left, and the rest is due
abbrev pub invariant-loop-delivery : goal.invariant-loop-delivery
invariant-loop-delivery l =
    (list_all (is_due (contents l.world.scenario.now) l.playing.entries) (drop l.delivery-index l.waiting) ≡ true)
    × Underway (given_in l.world) (deliver_all (given_in l.world) (drop l.delivery-index l.waiting))
    (deliver_all (given_in l.world) l.waiting) l.initial.playing l.playing
