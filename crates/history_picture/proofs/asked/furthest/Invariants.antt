use Rattle.std.proofs.Common.{◌≡◌, [], drop, map}
use Rattle.world_history.specs.State.{executions_shown}
use Rattle.history_picture.specs.Pictures.{furthest_from}
use Rattle.history_picture.proofs.asked.furthest.Given as goal

-- the longest so far, and the rest, have the longest of all
abbrev pub invariant-loop-bench : goal.invariant-loop-bench
invariant-loop-bench l =
    furthest_from l.best (map executions_shown (drop l.bench-index l.benches))
    ≡ furthest_from [] (map executions_shown l.benches)
