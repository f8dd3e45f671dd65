use Rattle.std.proofs.Common.{◌-◌}
use Rattle.run_scripts.specs.Making.{round, times_over}
use Rattle.run_scripts.specs.Playing.{given_in}
use Rattle.run_scripts.proofs.DoneAndLeft.{Underway}
use Rattle.run_scripts.proofs.steps.flow.Given as goal

-- so many times are done, with the rest left
abbrev pub invariant-loop-round : goal.invariant-loop-round
invariant-loop-round l =
    Underway (given_in l.world) (times_over (l.rounds - l._round) (round (given_in l.world)))
    (times_over l.rounds (round (given_in l.world))) l.initial.playing l.playing
