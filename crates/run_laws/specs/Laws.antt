-- For what there is a run in threads: for all that the actors of a scenario can be given. (This project's own.)
use Rattle.std.specs.Prelude.{◌≡◌, ℕ, true, List}
use Rattle.play_words.specs.declared.input.Input.{Input}
use Rattle.scenario_file.specs.Reading.{Contents}
use Rattle.history_rules.specs.Events.{Entry}
use Rattle.script_lines.specs.declared.saying.Saying.{Saying}
use Rattle.script_lines.specs.declared.script.Line.{Line}
use Rattle.script_laws.specs.Accepted.{are_lines_of, are_sayings_of}
use Rattle.replica_threads.specs.Ended.{IsHistoryOf}
use Rattle.replica_threads.specs.Courses.{AreFit, inputs_given}

-- where each actor is given what it can be given, there is a run of so many turns
abbrev pub RunsExist : Type 0
RunsExist = (c : Contents) (inputs : List (List Input)) (turns : ℕ) → AreFit c inputs →
    (history : List Entry) × IsHistoryOf c inputs turns history

-- where whom a script and words name are there, and can do what these say, there is a run of them
abbrev pub ScriptsHaveRuns : Type 0
ScriptsHaveRuns = (c : Contents) (lines : List Line) (sayings : List Saying) (turns : ℕ) → are_lines_of c lines ≡ true →
    are_sayings_of c sayings ≡ true
    → (history : List Entry) × IsHistoryOf c (inputs_given c lines sayings) turns history
