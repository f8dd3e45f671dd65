-- What each actor of a run is given from outside, in the order of a script's lines. (This project's own.)
use Rattle.std.specs.Prelude.{ℕ, nat_eq, if◌then◌else◌, List, [], ◌∷◌, ◌++◌, map, filter, take, drop}
use Rattle.play_words.specs.declared.input.Input.{Input}
use Rattle.play_words.specs.declared.input.Input.TheVariants as input
use Rattle.quorum_sets.specs.Masters.{numbers_below}
use Rattle.scenario_file.specs.declared.actors.Cast.{Cast}
use Rattle.scenario_file.specs.Actors.{actors_of}
use Rattle.script_lines.specs.declared.saying.Saying.{Saying}
use Rattle.script_lines.specs.declared.script.Line.{Line}
use Rattle.script_lines.specs.declared.step.Step.{Step}
use Rattle.script_lines.specs.declared.step.Step.TheVariants as step

-- the words of one master
abbrev pub own_words : ℕ → List Saying → List Saying
own_words master words = filter (λ s. nat_eq s.speaker master) words

abbrev pub say : Saying → Input
say s = input.Say s.to s.word

abbrev pub where_same : ℕ → ℕ → Input → List Input
where_same a b i = if nat_eq a b then i ∷ [] else []

-- what a step other than a cry gives an actor
abbrev pub plain_at : ℕ → Step → List Input
plain_at actor (step.Command screen op) = where_same screen actor (input.Command op)
plain_at actor (step.Field proxy area place value) = where_same proxy actor (input.Field area place value)
plain_at actor (step.Poll proxy) = where_same proxy actor input.Poll
plain_at actor (step.Restart other) = where_same other actor input.Restart
plain_at actor _ = []

-- what a step gives an actor that has these words left: a cry past the last of them is passed over
abbrev pub given_at : ℕ → Step → List Saying → List Input
given_at actor (step.Cry master times) left = if nat_eq master actor then map say (take times left) else []
given_at actor other left = plain_at actor other

abbrev pub left_after : ℕ → Step → List Saying → List Saying
left_after actor (step.Cry master times) left = if nat_eq master actor then drop times left else left
left_after actor _ left = left

-- what lines give an actor
abbrev pub given : ℕ → List Line → List Saying → List Input
given actor [] left = []
given actor (line ∷ lines) left = given_at actor line.step left ++ given actor lines (left_after actor line.step left)

-- one list for each actor, in number order
unfoldable pub inputs_of : Cast → List Line → List Saying → List (List Input)
inputs_of cast script words = map (λ a. given a script (own_words a words)) (numbers_below (actors_of cast))
