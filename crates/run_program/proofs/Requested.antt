-- What parts and rebuilt requests are worth, of each call that puts some.
use Rattle.std.proofs.Common.{◌≡◌, ℕ, List, Option, None, Some, Result, Ok, Err, ap}
use Rattle.scenario_file.specs.Reading.{Contents}
use Rattle.scenario_file.specs.Valid.{IsScenario}
use Rattle.parity_parts.specs.Rebuilding.{wrong_masters}
use Rattle.part_lines.specs.Laws.{EnoughLinesRebuild, IsRebuilt}
use Rattle.part_lines.specs.Rebuilding.{told_for, rebuilt_in}
use Rattle.part_lines.specs.Texts.{rebuilt_lines}
use Rattle.part_lines.specs.declared.fault.RebuildRefusal.{RebuildRefusal}
use Rattle.part_lines.specs.declared.told.Told.{Told}
use Rattle.run_questions.specs.PartsLaws.{CertifiedHaveOwnDigests, PartsArePrinted, PrintedLinesRebuild}
use Rattle.run_questions.specs.PartsText.{parts_in}
use Rattle.command_ends.specs.Calls.{Call}
use Rattle.command_ends.specs.Ended.{ErrorSink}
use Rattle.run_commands.specs.declared.questions.Question.TheVariants as question
use Rattle.run_commands.specs.Answered.{Answered, KeepsAnswers, KeepsRequests, Rebuilt, NotRebuilt}
use Rattle.run_commands.specs.Readers.{NoRequest}
use Rattle.run_program.specs.Asked.{certified_or_lack, request_or_lack}
use Rattle.run_program.specs.Requests.{PrintsParts, KeepsParts, HasEnough, Rebuilds, RebuildsNone, KeepsRebuild}
use Rattle.run_program.specs.Whole.{program_readers}

-- ---- Parts.

certified_of : (told : Option (List ℕ)) (text : List ℕ) → certified_or_lack told ≡ Ok text → told ≡ Some text
certified_of (Some made) text is = let same : made ≡ text = cc in ap Some same
certified_of None text is = absurd (cc)

prints : PartsArePrinted → PrintedLinesRebuild → CertifiedHaveOwnDigests → (call : Call) (j k : ℕ) →
    Answered program_readers call (question.Parts j k) → PrintsParts call j k
prints law from_lines own call j k a =
    let defined = certified_of (parts_in a.scenario a.history j k) a.text a.answered in
    record {
      scenario = a.scenario;
      history = a.history;
      spells = a.spells;
      printed = a.text;
      put = a.put;
      defined = defined;
      are_parts = law a.scenario a.history j k a.text a.spells.valid.group defined;
      rebuild = λ unlike bytes told tells has. from_lines a.scenario a.history j k a.text bytes told a.spells.valid
          unlike defined tells has;
      own_digests = own a.scenario a.history j k a.spells.valid a.spells.legal;
    }

-- which parts each call of `parts` puts that ends well
pub keeps_parts : PartsArePrinted → PrintedLinesRebuild → CertifiedHaveOwnDigests → (call : Call) (err : ErrorSink)
    (status : ℕ) → KeepsAnswers program_readers call err status → KeepsParts call status
keeps_parts law from_lines own call err status keeps zero j k asked =
    prints law from_lines own call j k (keeps.answers zero (question.Parts j k) asked)

-- ---- A request from its parts.

request_of : (told : Result (List ℕ) RebuildRefusal) (text : List ℕ) → request_or_lack told ≡ Ok text → told ≡ Ok text
request_of (Ok made) text is = let same : made ≡ text = cc in ap Ok same
request_of (Err why) text is = absurd (cc)

none_of : (told : Result (List ℕ) RebuildRefusal) → request_or_lack told ≡ Err NoRequest.NoText →
    (text : List ℕ) → told ≡ Ok text → ⊥
none_of (Ok made) is text gives = absurd (cc)
none_of (Err why) is text gives = absurd (cc)

same_request : (a b : List ℕ) (told : Result (List ℕ) RebuildRefusal) → told ≡ Ok a → told ≡ Ok b → a ≡ b
same_request a b told one other = cc

rebuilt_from : EnoughLinesRebuild → (c : Contents) (lines : List ℕ) → IsScenario c → (told : Told) →
    told_for c lines ≡ Ok told → (text : List ℕ)
    → HasEnough c lines told.digest text → IsRebuilt c lines told
rebuilt_from law c lines valid told tells text has =
    law c lines text told valid.group tells has.bytes has.some has.fits has.of_digest has.enough

rebuilds : EnoughLinesRebuild → (call : Call) (scenario pieces : List ℕ) → Rebuilt program_readers call scenario pieces →
    Rebuilds call scenario pieces
rebuilds law call scenario pieces made = record {
  contents = made.contents;
  lines = made.lines;
  has = made.has;
  printed = made.text;
  put = made.put;
  from_enough = λ told tells text has.
      let is = rebuilt_from law made.contents made.lines made.has.valid told tells text has in
      record {
        text = is.text;
        of_digest = is.digest;
        is = same_request made.text
            (rebuilt_lines is.text (wrong_masters made.contents.settings.f is.text told.parts))
            (rebuilt_in made.contents made.lines)
            (request_of (rebuilt_in made.contents made.lines) made.text made.rebuilt) is.printed;
      };
}

rebuilds_none : EnoughLinesRebuild → (call : Call) (err : ErrorSink) (status : ℕ) (scenario pieces : List ℕ)
    → NotRebuilt program_readers call err status scenario pieces → RebuildsNone call scenario pieces
rebuilds_none law call err status scenario pieces made = record {
  contents = made.contents;
  lines = made.lines;
  has = made.has;
  too_few = λ told tells text has.
      let is = rebuilt_from law made.contents made.lines made.has.valid told tells text has in
      none_of (rebuilt_in made.contents made.lines) made.rebuilt
      (rebuilt_lines is.text (wrong_masters made.contents.settings.f is.text told.parts)) is.printed;
}

-- which request each call of `rebuild` puts, or why none
pub keeps_rebuild : EnoughLinesRebuild → (call : Call) (err : ErrorSink) (status : ℕ) →
    KeepsRequests program_readers call err status → KeepsRebuild call status
keeps_rebuild law call err status keeps = record {
  rebuilds = λ zero scenario pieces asked. rebuilds law call scenario pieces
      (keeps.rebuilds zero scenario pieces asked);
  lacks = λ nine scenario pieces asked. rebuilds_none law call err status scenario pieces
      (keeps.lacks nine scenario pieces asked);
}
