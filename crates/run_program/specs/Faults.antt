-- Why there is no run, as the program tells it. (This project's own.)
use Rattle.std.specs.Prelude.{ℕ, List, Result, Ok, Err}
use Rattle.history_rules.specs.Events.{Entry}
use Rattle.run_scripts.specs.declared.answer.StepRefusal.{StepRefusal}
use Rattle.run_scripts.specs.declared.answer.StepRefusal.TheVariants as stop
use Rattle.run_scripts.specs.declared.answer.PlayAnswer.{PlayAnswer}
use Rattle.run_scripts.specs.declared.answer.PlayAnswer.TheVariants as answer
use Rattle.run_lines.specs.declared.refusal.HistoryRefusal.{HistoryRefusal}
use Rattle.run_lines.specs.declared.refusal.HistoryRefusal.TheVariants as history
use Rattle.command_ends.specs.declared.refusal.LineFault.{LineFault}
use Rattle.command_ends.specs.declared.refusal.LineFault.TheVariants as line
use Rattle.command_ends.specs.declared.refusal.Refusal.{Refusal}
use Rattle.command_ends.specs.declared.refusal.Refusal.TheVariants as refusal

-- what a play answers that stops, as a refusal
abbrev pub play_refusal : PlayAnswer → Refusal
play_refusal (answer.NoFrame number) = refusal.Script line.NoFrame number
play_refusal (answer.TooMany number) = refusal.Script line.TooMany number
play_refusal answer.Want = refusal.Memory

-- why a text isn't read as a history, as a refusal
abbrev pub history_refusal : HistoryRefusal → Refusal
history_refusal (history.BadLine number) = refusal.History line.BadLine number
history_refusal (history.NotLegal stamp) = refusal.History line.NotLegal stamp
history_refusal history.Want = refusal.Memory

-- Why a play stops at a line. No play is defined to want memory, so that case may be told as either.
abbrev pub stop_fault : StepRefusal → LineFault
stop_fault stop.NoFrame = line.NoFrame
stop_fault stop.TooMany = line.TooMany
stop_fault stop.Want = line.TooMany

-- the history of a play, or the fault at a line of its script
abbrev pub played_or_fault : Result (List Entry) (ℕ × StepRefusal) → Result (List Entry) (LineFault × ℕ)
played_or_fault (Ok history) = Ok history
played_or_fault (Err at) = Err (stop_fault at.1, at.0)

-- Where a text stops being a history's. No text is defined to want memory, so that case may be told as either.
abbrev pub history_fault : HistoryRefusal → LineFault × ℕ
history_fault (history.BadLine number) = (line.BadLine, number)
history_fault (history.NotLegal stamp) = (line.NotLegal, stamp)
history_fault history.Want = (line.NotLegal, 0)

-- the history that a text tells, or its fault
abbrev pub history_or_fault : Result (List Entry) HistoryRefusal → Result (List Entry) (LineFault × ℕ)
history_or_fault (Ok history) = Ok history
history_or_fault (Err why) = Err (history_fault why)
