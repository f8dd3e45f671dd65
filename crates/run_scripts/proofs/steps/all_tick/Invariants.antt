use Rattle.std.proofs.Common.{drop}
use Rattle.run_scripts.specs.Making.{all_tick}
use Rattle.run_scripts.specs.Playing.{given_in}
use Rattle.run_scripts.proofs.DoneAndLeft.{Underway}
use Rattle.run_scripts.proofs.steps.all_tick.Given as goal

-- those that ticked are done, with the rest left
abbrev pub invariant-loop-actor : goal.invariant-loop-actor
invariant-loop-actor l =
    Underway (given_in l.world) (all_tick (given_in l.world) (drop l.actor-index l.actors))
    (all_tick (given_in l.world) l.actors) l.initial.playing l.playing
