-- What calls of `picture`, `plot` and `chart` put that end well: the drawn text of one legal history.
use Rattle.std.specs.Prelude.{◌≡◌, ℕ, List, Option, Some, Ok}
use Rattle.outside.specs.Piece.{with_piece}
use Rattle.scenario_file.specs.Reading.{Contents}
use Rattle.history_rules.specs.Events.{Entry}
use Rattle.history_picture.specs.Pictures.{chart_in, picture_in, plot_in}
use Rattle.command_ends.specs.Calls.{Call}
use Rattle.run_commands.specs.declared.questions.Question.{Question}
use Rattle.run_commands.specs.declared.questions.Question.TheVariants as question
use Rattle.run_commands.specs.Answered.{asked_by, Spells}
use Rattle.run_program.specs.Whole.{program_readers}

-- the entries of the history that the files spell, from one stamp to another where these are told
pub record DrawsEntries (call : Call) (first last : Option ℕ) (width : ℕ) : Type 0 where
  pub scenario : Contents
  pub history : List Entry
  pub spells : Spells program_readers call (question.Picture first last width) scenario history
  pub text : List ℕ
  pub drawn : picture_in scenario history first last width ≡ Ok text
  pub put : call.put_after ≡ with_piece call.put_before text

-- a point over the executions of the correct master that executed most
pub record DrawsPoint (call : Call) (point width : ℕ) : Type 0 where
  pub scenario : Contents
  pub history : List Entry
  pub spells : Spells program_readers call (question.Plot point width) scenario history
  pub text : List ℕ
  pub drawn : plot_in scenario history point width ≡ Ok text
  pub put : call.put_after ≡ with_piece call.put_before text

-- how long updates took
pub record DrawsDelays (call : Call) (width : ℕ) : Type 0 where
  pub scenario : Contents
  pub history : List Entry
  pub spells : Spells program_readers call (question.Chart width) scenario history
  pub put : call.put_after ≡ with_piece call.put_before (chart_in scenario history width)

-- Each call of the three that ends well.
pub record KeepsPictures (call : Call) (status : ℕ) : Type 0 where
  pub entries : status ≡ 0 → (first last : Option ℕ) (width : ℕ)
      → asked_by call.words ≡ Some (question.Picture first last width) → DrawsEntries call first last width
  pub points : status ≡ 0 → (point width : ℕ) → asked_by call.words ≡ Some (question.Plot point width) →
      DrawsPoint call point width
  pub delays : status ≡ 0 → (width : ℕ) → asked_by call.words ≡ Some (question.Chart width) → DrawsDelays call width
