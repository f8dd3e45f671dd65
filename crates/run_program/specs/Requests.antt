-- What a call of `parts` puts that ends well: the digest of an update that a correct master has certified in one legal
-- history, and masters' parts of texts of that digest, in the form that `rebuild` reads. Where no two updates certified
-- as that request have one digest, any f + 1 of these lines rebuild a text of the digest, whatever the other lines are;
-- so it is where the headline's premises hold. Of lines with parts of one
-- text of the digest, f + 1 suffice for a call of `rebuild` without any premise: it puts a text of the digest and names
-- exactly the masters whose parts aren't that text's, and never ends for want of one.
use Rattle.std.specs.Prelude.{◌≡◌, ◌≤◌, ℕ, List, Some, Ok, length}
use Rattle.outside.specs.Piece.{with_piece}
use Rattle.sha2.specs.Sha256.{sha256}
use Rattle.scenario_file.specs.Reading.{Contents}
use Rattle.history_rules.specs.Events.{Entry}
use Rattle.parity_parts.specs.declared.limits.TheConstants.{MOST_TEXT_BYTES}
use Rattle.parity_parts.specs.Parts.{AreBytes}
use Rattle.parity_parts.specs.Rebuilding.{wrong_masters}
use Rattle.world_rules.specs.Headline.{Premises}
use Rattle.world_rules.specs.Scenarios.{setup_of}
use Rattle.part_lines.specs.Laws.{HasEnoughLines, IsRebuilt}
use Rattle.part_lines.specs.Rebuilding.{told_for}
use Rattle.part_lines.specs.Texts.{rebuilt_lines}
use Rattle.part_lines.specs.declared.told.Told.{Told}
use Rattle.run_questions.specs.PartsLaws.{ArePrinted, HasPrintedLines, HaveOwnDigests}
use Rattle.run_questions.specs.PartsText.{parts_in}
use Rattle.command_words.specs.Wanted.{rebuild, wanted_in}
use Rattle.command_ends.specs.Calls.{Call}
use Rattle.run_commands.specs.declared.questions.Question.TheVariants as question
use Rattle.run_commands.specs.Answered.{HasPieces, Spells, asked_by}
use Rattle.run_program.specs.Whole.{program_readers}

pub record PrintsParts (call : Call) (originator number : ℕ) : Type 0 where
  pub scenario : Contents
  pub history : List Entry
  pub spells : Spells program_readers call (question.Parts originator number) scenario history
  pub printed : List ℕ
  pub put : call.put_after ≡ with_piece call.put_before printed
  pub defined : parts_in scenario history originator number ≡ Some printed
  pub are_parts : ArePrinted scenario printed
  pub rebuild : HaveOwnDigests (setup_of scenario) history originator number → (bytes : List ℕ) (told : Told) →
      told_for scenario bytes ≡ Ok told
      → HasPrintedLines scenario printed bytes → IsRebuilt scenario bytes told
  pub own_digests : Premises (setup_of scenario) history →
      HaveOwnDigests (setup_of scenario) history originator number

-- Each call of `parts` that ends well.
abbrev pub KeepsParts : Call → ℕ → Type 0
KeepsParts call status =
    status ≡ 0 → (originator number : ℕ) → asked_by call.words ≡ Some (question.Parts originator number) →
    PrintsParts call originator number

-- a text of the digest that has parts, at least f + 1 of which are lines of a text of parts
pub record HasEnough (c : Contents) (lines digest text : List ℕ) : Type 0 where
  pub bytes : AreBytes text
  pub some : 1 ≤ length text
  pub fits : length text ≤ MOST_TEXT_BYTES
  pub of_digest : sha256 text ≡ digest
  pub enough : HasEnoughLines c text lines

-- what is printed is a text of the digest, and exactly the masters whose parts aren't that text's
pub record IsRequest (c : Contents) (told : Told) (printed : List ℕ) : Type 0 where
  pub text : List ℕ
  pub of_digest : sha256 text ≡ told.digest
  pub is : printed ≡ rebuilt_lines text (wrong_masters c.settings.f text told.parts)

pub record Rebuilds (call : Call) (scenario pieces : List ℕ) : Type 0 where
  pub contents : Contents
  pub lines : List ℕ
  pub has : HasPieces call scenario pieces contents lines
  pub printed : List ℕ
  pub put : call.put_after ≡ with_piece call.put_before printed
  pub from_enough : (told : Told) → told_for contents lines ≡ Ok told → (text : List ℕ) →
      HasEnough contents lines told.digest text
      → IsRequest contents told printed

-- no text is rebuilt, and so the lines aren't enough
pub record RebuildsNone (call : Call) (scenario pieces : List ℕ) : Type 0 where
  pub contents : Contents
  pub lines : List ℕ
  pub has : HasPieces call scenario pieces contents lines
  pub too_few : (told : Told) → told_for contents lines ≡ Ok told → (text : List ℕ) →
      HasEnough contents lines told.digest text → ⊥

-- Each call of `rebuild` that ends well, and each with status 9.
pub record KeepsRebuild (call : Call) (status : ℕ) : Type 0 where
  pub rebuilds : status ≡ 0 → (scenario pieces : List ℕ) → wanted_in call.words ≡ Some (rebuild scenario pieces) →
      Rebuilds call scenario pieces
  pub lacks : status ≡ 9 → (scenario pieces : List ℕ) → wanted_in call.words ≡ Some (rebuild scenario pieces) →
      RebuildsNone call scenario pieces
