-- What a call of `trend` puts that ends well: a point's changes in a correct master's executions, of one legal history.
-- Where the headline's premises hold, they are those in the executions of every correct master that reach so far, and
-- it never comes that too few answers are equal.
use Rattle.std.specs.Prelude.{◌≡◌, ℕ, List, Some}
use Rattle.outside.specs.Piece.{with_piece}
use Rattle.scenario_file.specs.Reading.{Contents}
use Rattle.history_rules.specs.Events.{Entry}
use Rattle.world_rules.specs.Headline.{Premises}
use Rattle.world_rules.specs.Scenarios.{setup_of}
use Rattle.run_questions.specs.TrendAnswers.{changes_by}
use Rattle.run_questions.specs.TrendLaws.{Reaches}
use Rattle.run_questions.specs.TrendText.{changes_text}
use Rattle.command_ends.specs.Calls.{Call}
use Rattle.command_ends.specs.Ended.{ErrorSink, Told}
use Rattle.command_ends.specs.declared.refusal.NoAnswer.{NoAnswer}
use Rattle.command_ends.specs.declared.refusal.NoAnswer.TheVariants as none
use Rattle.command_ends.specs.declared.refusal.Refusal.TheVariants as refusal
use Rattle.run_commands.specs.declared.questions.Question.TheVariants as question
use Rattle.run_commands.specs.Answered.{asked_by, Spells}
use Rattle.run_program.specs.Whole.{program_readers}

pub record ShowsTrend (call : Call) (point first last : ℕ) : Type 0 where
  pub scenario : Contents
  pub history : List Entry
  pub spells : Spells program_readers call (question.Trend point first last) scenario history
  pub master : ℕ
  pub reaches : Reaches scenario history last master
  pub put : call.put_after ≡ with_piece call.put_before
      (changes_text (changes_by scenario history point first last master))
  pub is_of_all : Premises (setup_of scenario) history → (other : ℕ) → Reaches scenario history last other
      → call.put_after ≡ with_piece call.put_before (changes_text (changes_by scenario history point first last other))

-- no trend is shown, for this cause
pub record ShowsNoTrend (call : Call) (err : ErrorSink) (status point first last : ℕ) : Type 0 where
  pub scenario : Contents
  pub history : List Entry
  pub spells : Spells program_readers call (question.Trend point first last) scenario history
  pub why : NoAnswer
  pub told : Told (refusal.NoAnswer why) err status
  pub matches : Premises (setup_of scenario) history → why ≡ none.NoMatch → ⊥

-- Each call of `trend` that ends well, and each with status 9.
pub record KeepsTrend (call : Call) (err : ErrorSink) (status : ℕ) : Type 0 where
  pub shows : status ≡ 0 → (point first last : ℕ) → asked_by call.words ≡ Some (question.Trend point first last) →
      ShowsTrend call point first last
  pub lacks : status ≡ 9 → (point first last : ℕ) → asked_by call.words ≡ Some (question.Trend point first last)
      → ShowsNoTrend call err status point first last
