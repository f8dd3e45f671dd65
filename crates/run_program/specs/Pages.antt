-- What a call of `page` puts that ends well: the page of one legal history. The three texts that stand in it are escaped,
-- so nothing in them begins or ends an element of it.
use Rattle.std.specs.Prelude.{◌≡◌, ℕ, true, List, Some}
use Rattle.outside.specs.Piece.{with_piece}
use Rattle.scenario_file.specs.Reading.{Contents}
use Rattle.history_rules.specs.Events.{Entry}
use Rattle.page_text.specs.Escaping.{escaped, is_plain}
use Rattle.page_text.specs.Page.{page_text}
use Rattle.printed_run.specs.Printed.{text_of}
use Rattle.run_page.specs.Details.{details_in}
use Rattle.run_page.specs.Plant.{plant_text}
use Rattle.command_ends.specs.Calls.{Call}
use Rattle.run_commands.specs.declared.questions.Question.TheVariants as question
use Rattle.run_commands.specs.Answered.{asked_by, Spells}
use Rattle.run_program.specs.Whole.{program_readers}

pub record ShowsRun (call : Call) : Type 0 where
  pub scenario : Contents
  pub history : List Entry
  pub spells : Spells program_readers call question.Page scenario history
  pub put : call.put_after ≡ with_piece call.put_before
      (page_text (plant_text scenario) (text_of scenario history) (details_in scenario history))
  pub texts_are_plain : (text : List ℕ) → is_plain (escaped text) ≡ true

-- Each call of `page` that ends well.
abbrev pub KeepsPage : Call → ℕ → Type 0
KeepsPage call status = status ≡ 0 → asked_by call.words ≡ Some question.Page → ShowsRun call
