-- The steps of commands once more, with what a text of a whole run is besides: it is read again as the history that it is
-- the text of. Completeness goes by the steps of `Course`, which don't ask for it. (This project's own.)
use Rattle.std.specs.Prelude.{◌≡◌, ℕ, Bool, true, false, List, ◌∷◌, Option, None, Some, length}
use Rattle.scenario_file.specs.Reading.{Contents}
use Rattle.history_rules.specs.Events.{Entry}
use Rattle.script_lines.specs.declared.script.Line.{Line}
use Rattle.script_lines.specs.declared.saying.Saying.{Saying}
use Rattle.command_words.specs.Wanted.{Wanted, play, run, replay, merge, is_command, wanted_in}
use Rattle.command_ends.specs.Steps.{Step}
use Rattle.command_ends.specs.Steps.Step.{Gives, Refuses}
use Rattle.command_ends.specs.declared.refusal.LineFault.{LineFault}
use Rattle.command_ends.specs.declared.refusal.Refusal.TheVariants as refusal
use Rattle.run_commands.specs.Readers.{Readers, Tells, are_few, are_in_range}
use Rattle.command_files.specs.Scenarios.{scenario_at, scenario_refusal}
use Rattle.run_commands.specs.Course.{Accepted, ScriptedCourse, RunStep, MergeStep, CommandStep, replay_step}

-- the text of a history, which tells it
abbrev pub GivesTold : Readers → Contents → List Entry → Step → Type 0
GivesTold r c history step = (step ≡ Gives (r.text_of c history)) × Tells r c history

-- of a play: the text of its history, or why it stops
abbrev pub PlayEnds : Readers → Contents → List Line → List Saying → Step → Type 0
PlayEnds r c lines sayings step =
    Accepted (λ (e : LineFault × ℕ). refusal.Script e.0 e.1) (r.played c lines sayings) (GivesTold r c) step

-- of a replay: the text of the history that the second file tells, or why it tells none
abbrev pub ReplayEnds : Readers → List ℕ → Contents → Step → Type 0
ReplayEnds r text c step =
    Accepted (λ (e : LineFault × ℕ). refusal.History e.0 e.1) (r.history_in c text) (GivesTold r c) step

abbrev pub ReplayCourse : Readers → List ℕ → List ℕ → List (List ℕ) → Step → Type 0
ReplayCourse r scenario history (a ∷ b ∷ more) step =
    Accepted scenario_refusal (scenario_at a) (ReplayEnds r b) step
ReplayCourse r scenario history contents step = step ≡ replay_step r scenario history contents

-- runs in threads whose text tells their history
abbrev pub told_runs : Readers → Readers
told_runs r = record r {
  may_run = λ c lines sayings turns history. r.may_run c lines sayings turns history × Tells r c history;
}

-- merges whose text tells their history
abbrev pub told_merges : Readers → Readers
told_merges r = record r { may_join = λ c kept history. r.may_join c kept history × Tells r c history }

-- what may come next in a command
abbrev pub ToldStep : Readers → Wanted → List (List ℕ) → Step → Type 0
ToldStep r (play scenario script words) contents step =
    ScriptedCourse r (PlayEnds r) scenario script words contents step
ToldStep r (replay scenario history) contents step = ReplayCourse r scenario history contents step
ToldStep r (run scenario script words hands turns) contents step =
    RunStep (told_runs r) (are_in_range hands turns) scenario script words turns contents step
ToldStep r (merge scenario keeps) contents step =
    MergeStep (told_merges r) (are_few (length keeps)) scenario keeps contents step
ToldStep r wanted contents step = CommandStep r wanted contents step

-- the same of words
abbrev pub ToldAsked : Readers → Bool → Option Wanted → List (List ℕ) → Step → Type 0
ToldAsked r false asked contents step = step ≡ Refuses refusal.Usage
ToldAsked r true None contents step = ⊥
ToldAsked r true (Some wanted) contents step = ToldStep r wanted contents step

abbrev pub ToldNext : Readers → List (List ℕ) → List (List ℕ) → Step → Type 0
ToldNext r words contents step = ToldAsked r (is_command words) (wanted_in words) contents step
