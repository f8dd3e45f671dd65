-- What each call of `picture`, `plot` and `chart` puts that ends well.
use Rattle.std.proofs.Common.{◌≡◌, ℕ, List, Option, Result, Ok, Err, ◌∙◌, ap}
use Rattle.outside.specs.Piece.{with_piece}
use Rattle.history_picture.specs.Pictures.{chart_in, picture_in, plot_in}
use Rattle.history_picture.specs.declared.fault.PictureRefusal.{PictureRefusal}
use Rattle.command_ends.specs.Calls.{Call}
use Rattle.command_ends.specs.Ended.{ErrorSink}
use Rattle.command_ends.specs.declared.refusal.NoAnswer.{NoAnswer}
use Rattle.run_commands.specs.declared.questions.Question.TheVariants as question
use Rattle.run_commands.specs.Answered.{Answered, KeepsAnswers}
use Rattle.run_program.specs.Asked.{picture_or_lack}
use Rattle.run_program.specs.Pictures.{DrawsDelays, DrawsEntries, DrawsPoint, KeepsPictures}
use Rattle.run_program.specs.Whole.{program_readers}

same_text : (a b : List ℕ) → (let one : Result (List ℕ) NoAnswer = Ok a in one ≡ Ok b) → b ≡ a
same_text a b is = cc

picture_of : (told : Result (List ℕ) PictureRefusal) (text : List ℕ) → picture_or_lack told ≡ Ok text → told ≡ Ok text
picture_of (Ok made) text is = let same : made ≡ text = cc in ap Ok same
picture_of (Err why) text is = absurd (cc)

draws_entries : (call : Call) (first last : Option ℕ) (width : ℕ) →
    Answered program_readers call (question.Picture first last width) → DrawsEntries call first last width
draws_entries call first last width a = record {
  scenario = a.scenario;
  history = a.history;
  spells = a.spells;
  text = a.text;
  drawn = picture_of (picture_in a.scenario a.history first last width) a.text a.answered;
  put = a.put;
}

draws_point : (call : Call) (point width : ℕ) → Answered program_readers call (question.Plot point width) →
    DrawsPoint call point width
draws_point call point width a = record {
  scenario = a.scenario;
  history = a.history;
  spells = a.spells;
  text = a.text;
  drawn = picture_of (plot_in a.scenario a.history point width) a.text a.answered;
  put = a.put;
}

draws_delays : (call : Call) (width : ℕ) → Answered program_readers call (question.Chart width) →
    DrawsDelays call width
draws_delays call width a = record {
  scenario = a.scenario;
  history = a.history;
  spells = a.spells;
  put = a.put ∙ ap (with_piece call.put_before) (same_text (chart_in a.scenario a.history width) a.text a.answered);
}

pub keeps_pictures : (call : Call) (err : ErrorSink) (status : ℕ) → KeepsAnswers program_readers call err status →
    KeepsPictures call status
keeps_pictures call err status keeps = record {
  entries = λ zero first last width asked. draws_entries call first last width
      (keeps.answers zero (question.Picture first last width) asked);
  points = λ zero point width asked. draws_point call point width (keeps.answers zero (question.Plot point width) asked);
  delays = λ zero width asked. draws_delays call width (keeps.answers zero (question.Chart width) asked);
}
