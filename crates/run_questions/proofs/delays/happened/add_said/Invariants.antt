use Rattle.std.proofs.Common.{◌≡◌, ◌++◌, map, take}
use Rattle.std.specs.List.{filter_map}
use Rattle.run_questions.specs.DelaysText.{happening_at, spoken_in}
use Rattle.run_questions.proofs.delays.happened.add_said.Given as goal

-- what the words so far tell
abbrev pub invariant-loop-body : goal.invariant-loop-body
invariant-loop-body l =
    l.happened.items ≡ l.initial.happened.items
    ++ map (happening_at l.place.stamp l.place.actor) (filter_map spoken_in (take l.body-index l.said))
