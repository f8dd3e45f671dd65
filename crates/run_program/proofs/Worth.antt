-- What blame, delays and trends are worth, of each call that puts one.
use Rattle.std.proofs.Common.{◌≡◌, ℕ, List, Result, Ok, Err, refl, ◌∙◌, ap}
use Rattle.outside.specs.Piece.{with_piece}
use Rattle.scenario_file.specs.Reading.{Contents}
use Rattle.history_rules.specs.Events.{Entry}
use Rattle.run_questions.specs.BlameLaws.{BlamedAreProved, QuorumsAreBlamed, CorrectAreNotBlamed}
use Rattle.run_questions.specs.BlameText.{blame_text}
use Rattle.run_questions.specs.DelaysText.{delays_in}
use Rattle.run_questions.specs.TrendAnswers.{trend_in}
use Rattle.run_questions.specs.TrendLaws.{PrintsTheChangesOfOne, PrintsTheChangesOfAll, AlwaysMatches}
use Rattle.run_questions.specs.declared.trend.fault.TrendRefusal.{TrendRefusal}
use Rattle.run_questions.specs.declared.trend.fault.TrendRefusal.TheVariants as trend
use Rattle.command_ends.specs.Calls.{Call}
use Rattle.command_ends.specs.Ended.{ErrorSink}
use Rattle.command_ends.specs.declared.refusal.NoAnswer.{NoAnswer}
use Rattle.command_ends.specs.declared.refusal.NoAnswer.TheVariants as none
use Rattle.run_commands.specs.declared.questions.Question.TheVariants as question
use Rattle.run_commands.specs.Answered.{Answered, Unanswered, KeepsAnswers}
use Rattle.run_program.specs.Asked.{trend_lack, trend_or_lack}
use Rattle.run_program.specs.Blame.{Blames, KeepsBlame}
use Rattle.run_program.specs.Delays.{TellsDelays, KeepsDelays}
use Rattle.run_program.specs.Trends.{ShowsTrend, ShowsNoTrend, KeepsTrend}
use Rattle.run_program.specs.Whole.{program_readers}

same_text : (a b : List ℕ) → (let one : Result (List ℕ) NoAnswer = Ok a in one ≡ Ok b) → b ≡ a
same_text a b is = cc

blames : BlamedAreProved → QuorumsAreBlamed → CorrectAreNotBlamed → (call : Call) →
    Answered program_readers call question.Blame → Blames call
blames proved many intruded call a = record {
  scenario = a.scenario;
  history = a.history;
  spells = a.spells;
  put = a.put ∙ ap (with_piece call.put_before) (same_text (blame_text a.scenario a.history) a.text a.answered);
  each_with_evidence = proved a.scenario a.history a.spells.legal;
  two_quorums_name_many = many a.scenario a.history a.spells.valid;
  none_correct_unless_forged = intruded a.scenario a.history a.spells.legal;
}

-- whom each call of `blame` names that ends well
pub keeps_blame : BlamedAreProved → QuorumsAreBlamed → CorrectAreNotBlamed →
    (call : Call) (err : ErrorSink) (status : ℕ)
    → KeepsAnswers program_readers call err status → KeepsBlame call status
keeps_blame proved many intruded call err status keeps zero asked =
    blames proved many intruded call (keeps.answers zero question.Blame asked)

tells_delays : (call : Call) → Answered program_readers call question.Delays → TellsDelays call
tells_delays call a = record {
  scenario = a.scenario;
  history = a.history;
  spells = a.spells;
  put = a.put ∙ ap (with_piece call.put_before) (same_text (delays_in a.scenario a.history) a.text a.answered);
}

-- what each call of `delays` tells that ends well
pub keeps_delays : (call : Call) (err : ErrorSink) (status : ℕ) → KeepsAnswers program_readers call err status →
    KeepsDelays call status
keeps_delays call err status keeps zero asked = tells_delays call (keeps.answers zero question.Delays asked)

trend_of : (told : Result (List ℕ) TrendRefusal) (text : List ℕ) → trend_or_lack told ≡ Ok text → told ≡ Ok text
trend_of (Ok made) text is = let same : made ≡ text = cc in ap Ok same
trend_of (Err why) text is = absurd (cc)

unmatched : (why : TrendRefusal) → trend_lack why ≡ none.NoMatch → why ≡ trend.NoMatch
unmatched trend.NoMatch is = refl
unmatched trend.NoPoint is = absurd (cc)
unmatched trend.BadRange is = absurd (cc)
unmatched (trend.NotReached executed) is = absurd (cc)
unmatched trend.Want is = absurd (cc)

unmatched_of : (told : Result (List ℕ) TrendRefusal) → trend_or_lack told ≡ Err none.NoMatch → told ≡ Err trend.NoMatch
unmatched_of (Ok made) is = absurd (cc)
unmatched_of (Err why) is = let same : trend_lack why ≡ none.NoMatch = cc in ap Err (unmatched why same)

shows : PrintsTheChangesOfOne → PrintsTheChangesOfAll → (call : Call) (point first last : ℕ) →
    Answered program_readers call (question.Trend point first last)
    → ShowsTrend call point first last
shows one all call point first last a =
    let c : Contents = a.scenario in
    let history : List Entry = a.history in
    let is : trend_in c history point first last ≡ Ok a.text =
    trend_of (trend_in c history point first last) a.text a.answered in
    let by = one c history point first last a.text is in
    record {
      scenario = c;
      history = history;
      spells = a.spells;
      master = by.0;
      reaches = by.1;
      put = a.put ∙ ap (with_piece call.put_before) by.2;
      is_of_all = λ premises other reaches. a.put ∙ ap (with_piece call.put_before)
          (all c history point first last a.text
          (record { scenario = a.spells.valid; legal = a.spells.legal; premises = premises }) is other reaches);
    }

lacks : AlwaysMatches → (call : Call) (err : ErrorSink) (status point first last : ℕ) →
    Unanswered program_readers call err status (question.Trend point first last)
    → ShowsNoTrend call err status point first last
lacks matches call err status point first last u = record {
  scenario = u.scenario;
  history = u.history;
  spells = u.spells;
  why = u.why;
  told = u.told;
  matches = λ premises is. matches u.scenario u.history point first last
      (record { scenario = u.spells.valid; legal = u.spells.legal; premises = premises })
      (unmatched_of (trend_in u.scenario u.history point first last) (u.answered ∙ ap Err is));
}

-- which trend each call of `trend` shows, or why none
pub keeps_trend : PrintsTheChangesOfOne → PrintsTheChangesOfAll → AlwaysMatches →
    (call : Call) (err : ErrorSink) (status : ℕ)
    → KeepsAnswers program_readers call err status → KeepsTrend call err status
keeps_trend one all matches call err status keeps = record {
  shows = λ zero point first last asked. shows one all call point first last
      (keeps.answers zero (question.Trend point first last) asked);
  lacks = λ nine point first last asked. lacks matches call err status point first last
      (keeps.lacks nine (question.Trend point first last) asked);
}
