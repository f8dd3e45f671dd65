-- What a call of `blame` puts that ends well: whom one legal history blames, with evidence. Where two digests were
-- committed as one number of a view, more than f masters are named; where nothing is forged, none that is named is
-- correct.
use Rattle.std.specs.Prelude.{◌≡◌, ℕ, ◌+◌, ◌≤◌, true, List, Some, length}
use Rattle.plain_lists.specs.Lists.{IsIn}
use Rattle.outside.specs.Piece.{with_piece}
use Rattle.quorum_sets.specs.Masters.{has_master}
use Rattle.scenario_file.specs.Reading.{Contents}
use Rattle.history_rules.specs.Events.{Entry}
use Rattle.history_rules.specs.Counts.{forged}
use Rattle.world_rules.specs.Scenarios.{setup_of}
use Rattle.blame_check.specs.declared.pairs.Named.{Named}
use Rattle.blame_check.specs.Laws.{blamed}
use Rattle.run_questions.specs.BlameLaws.{IsEvidence, IsCommitted}
use Rattle.run_questions.specs.BlameText.{blame_text}
use Rattle.command_ends.specs.Calls.{Call}
use Rattle.run_commands.specs.declared.questions.Question.TheVariants as question
use Rattle.run_commands.specs.Answered.{asked_by, Spells}
use Rattle.run_program.specs.Whole.{program_readers}

pub record Blames (call : Call) : Type 0 where
  pub scenario : Contents
  pub history : List Entry
  pub spells : Spells program_readers call question.Blame scenario history
  pub put : call.put_after ≡ with_piece call.put_before (blame_text scenario history)
  pub each_with_evidence : (pair : Named) → IsIn pair (blamed (setup_of scenario) history) → IsEvidence scenario pair
  pub two_quorums_name_many : (v s : ℕ) (a b : List ℕ) → (a ≡ b → ⊥) → IsCommitted scenario history v s a
      → IsCommitted scenario history v s b → scenario.settings.f + 1 ≤ length (blamed (setup_of scenario) history)
  pub none_correct_unless_forged : forged (setup_of scenario) history ≡ 0
      → (pair : Named) → IsIn pair (blamed (setup_of scenario) history) →
      has_master scenario.settings.intruded pair.master ≡ true

-- Each call of `blame` that ends well.
abbrev pub KeepsBlame : Call → ℕ → Type 0
KeepsBlame call status = status ≡ 0 → asked_by call.words ≡ Some question.Blame → Blames call
