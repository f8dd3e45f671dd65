-- What each call of `page` puts that ends well.
use Rattle.std.proofs.Common.{◌≡◌, ℕ, List, Result, Ok, refl, ◌∙◌, ap}
use Rattle.outside.specs.Piece.{with_piece}
use Rattle.page_text.specs.Escaping.{EscapedIsPlain}
use Rattle.page_text.specs.Page.{page_text}
use Rattle.printed_run.specs.Printed.{text_of}
use Rattle.run_page.specs.Details.{details_in}
use Rattle.run_page.specs.Page.{page_in}
use Rattle.run_page.specs.Plant.{plant_text}
use Rattle.scenario_file.specs.Reading.{Contents}
use Rattle.history_rules.specs.Events.{Entry}
use Rattle.command_ends.specs.Calls.{Call}
use Rattle.command_ends.specs.Ended.{ErrorSink}
use Rattle.command_ends.specs.declared.refusal.NoAnswer.{NoAnswer}
use Rattle.run_commands.specs.declared.questions.Question.TheVariants as question
use Rattle.run_commands.specs.Answered.{Answered, KeepsAnswers}
use Rattle.run_program.specs.Pages.{ShowsRun, KeepsPage}
use Rattle.run_program.specs.Whole.{program_readers}

same_text : (a b : List ℕ) → (let one : Result (List ℕ) NoAnswer = Ok a in one ≡ Ok b) → b ≡ a
same_text a b is = cc

page_is : (c : Contents) (history : List Entry)
    → page_in c history ≡ page_text (plant_text c) (text_of c history) (details_in c history)
unfolding page_in
page_is c history = refl

shows_run : EscapedIsPlain → (call : Call) → Answered program_readers call question.Page → ShowsRun call
shows_run plain call a = record {
  scenario = a.scenario;
  history = a.history;
  spells = a.spells;
  put = a.put ∙ ap (with_piece call.put_before)
      (same_text (page_in a.scenario a.history) a.text a.answered ∙ page_is a.scenario a.history);
  texts_are_plain = plain;
}

pub keeps_page : EscapedIsPlain → (call : Call) (err : ErrorSink) (status : ℕ)
    → KeepsAnswers program_readers call err status → KeepsPage call status
keeps_page plain call err status keeps zero asked = shows_run plain call (keeps.answers zero question.Page asked)
