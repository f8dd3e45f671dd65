-- What a call of `delays` puts that ends well: the text of the delays of one legal history.
use Rattle.std.specs.Prelude.{◌≡◌, ℕ, List, Some}
use Rattle.outside.specs.Piece.{with_piece}
use Rattle.scenario_file.specs.Reading.{Contents}
use Rattle.history_rules.specs.Events.{Entry}
use Rattle.run_questions.specs.DelaysText.{delays_in}
use Rattle.command_ends.specs.Calls.{Call}
use Rattle.run_commands.specs.declared.questions.Question.TheVariants as question
use Rattle.run_commands.specs.Answered.{asked_by, Spells}
use Rattle.run_program.specs.Whole.{program_readers}

pub record TellsDelays (call : Call) : Type 0 where
  pub scenario : Contents
  pub history : List Entry
  pub spells : Spells program_readers call question.Delays scenario history
  pub put : call.put_after ≡ with_piece call.put_before (delays_in scenario history)

-- Each call of `delays` that ends well.
abbrev pub KeepsDelays : Call → ℕ → Type 0
KeepsDelays call status = status ≡ 0 → asked_by call.words ≡ Some question.Delays → TellsDelays call
