use Rattle.std.proofs.Common.{◌≡◌, ◌++◌, map, take}
use Rattle.run_questions.specs.DelaysText.{happening_at, execution_of}
use Rattle.run_questions.proofs.delays.happened.add_executed.Given as goal

-- those so far happened
abbrev pub invariant-loop-update : goal.invariant-loop-update
invariant-loop-update l =
    l.happened.items ≡ l.initial.happened.items
    ++ map (happening_at l.place.stamp l.place.actor) (map execution_of (take l.update-index l.updates))
