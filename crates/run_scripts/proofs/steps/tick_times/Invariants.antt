use Rattle.std.proofs.Common.{◌-◌}
use Rattle.run_scripts.specs.Making.{all_tick, times_over}
use Rattle.run_scripts.specs.Playing.{given_in}
use Rattle.run_scripts.proofs.DoneAndLeft.{Underway}
use Rattle.run_scripts.proofs.steps.tick_times.Given as goal

-- so many times are done, with the rest left
abbrev pub invariant-loop-time : goal.invariant-loop-time
invariant-loop-time l =
    Underway (given_in l.world) (times_over (l.times - l._time) (all_tick (given_in l.world) l.actors))
    (times_over l.times (all_tick (given_in l.world) l.actors)) l.initial.playing l.playing
