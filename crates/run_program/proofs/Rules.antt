-- What holds of the definitions that plays and replays go by.
use Rattle.std.proofs.Common.{◌≡◌, ℕ, List, Result, Ok, Err, ap}
use Rattle.history_rules.specs.Events.{Entry}
use Rattle.script_laws.specs.Laws.{ReadLinesAreOfScenario, ReadWordsAreOfScenario}
use Rattle.run_scripts.specs.declared.answer.StepRefusal.{StepRefusal}
use Rattle.run_scripts.specs.Laws as plays
use Rattle.run_lines.specs.declared.refusal.HistoryRefusal.{HistoryRefusal}
use Rattle.printed_history.specs.Histories.{history_in}
use Rattle.replica_threads.specs.Courses.{inputs_given}
use Rattle.replica_threads.specs.Ended.{HistoriesAreLegal}
use Rattle.printed_laws.specs.PlayLaws.{PlayedIsTold}
use Rattle.run_laws.specs.Laws.{ScriptsHaveRuns}
use Rattle.run_commands.specs.Readers.{KeepsRules}
use Rattle.run_program.specs.Faults.{played_or_fault, history_or_fault}
use Rattle.run_program.specs.Whole.{program_readers}
use Rattle.run_program.proofs.Legality.{read_is_legal}

-- a fault is no history
played_of : (told : Result (List Entry) (ℕ × StepRefusal)) (history : List Entry) →
    played_or_fault told ≡ Ok history → told ≡ Ok history
played_of (Ok made) history is = let same : made ≡ history = cc in ap Ok same
played_of (Err at) history is = absurd (cc)

read_of : (told : Result (List Entry) HistoryRefusal) (history : List Entry) → history_or_fault told ≡ Ok history →
    told ≡ Ok history
read_of (Ok made) history is = let same : made ≡ history = cc in ap Ok same
read_of (Err why) history is = absurd (cc)

pub keeps : ReadLinesAreOfScenario → ReadWordsAreOfScenario → plays.PlayedIsLegal →
    plays.PlayedIsUnforged → PlayedIsTold → HistoriesAreLegal → ScriptsHaveRuns → KeepsRules program_readers
keeps lines_read words_read legal unforged told runs there = record {
  played_legal = λ c lines sayings history valid script words is.
      (legal (record { scenario = c; sayings = sayings }) lines history valid
      (lines_read c script.0 lines valid script.1) (words_read c words.0 sayings valid words.1)
      (played_of _ history is)).legal;
  played_unforged = λ c lines sayings history valid script words is raw.
      unforged (record { scenario = c; sayings = sayings }) lines history valid
      (lines_read c script.0 lines valid script.1) (words_read c words.0 sayings valid words.1)
      raw (played_of _ history is);
  played_told = λ c lines sayings history valid script words is.
      told (record { scenario = c; sayings = sayings }) lines history valid
      (lines_read c script.0 lines valid script.1) (words_read c words.0 sayings valid words.1)
      (played_of _ history is);
  run_legal = λ c lines sayings turns history run. runs c (inputs_given c lines sayings) turns history run;
  run_there = λ c lines sayings turns valid script words.
      there c lines sayings turns (lines_read c script.0 lines valid script.1)
      (words_read c words.0 sayings valid words.1);
  merged_legal = λ c kept history joins. joins.joint.legal;
  read_legal = λ c text history valid is. read_is_legal c text history (read_of (history_in c text) history is);
}
