use Rattle.std.proofs.Common.{◌≡◌, ◌++◌, map, take}
use Rattle.run_questions.specs.DelaysText.{happening_at, shown_of}
use Rattle.run_questions.proofs.delays.happened.add_shown.Given as goal

-- those so far happened
abbrev pub invariant-loop-notice : goal.invariant-loop-notice
invariant-loop-notice l =
    l.happened.items ≡ l.initial.happened.items
    ++ map (happening_at l.place.stamp l.place.actor) (map shown_of (take l.notice-index l.notices))
