use Rattle.std.proofs.Common.{◌-◌}
use Rattle.run_scripts.specs.Making.{cries, times_over}
use Rattle.run_scripts.specs.Playing.{given_in}
use Rattle.run_scripts.proofs.DoneAndLeft.{Underway}
use Rattle.run_scripts.proofs.crying.cry_times.Given as goal

-- so many times are done, with the rest left
abbrev pub invariant-loop-said : goal.invariant-loop-said
invariant-loop-said l =
    Underway (given_in l.world) (times_over (l.times - l._said) (cries (given_in l.world) l.master))
    (times_over l.times (cries (given_in l.world) l.master)) l.initial.playing l.playing
