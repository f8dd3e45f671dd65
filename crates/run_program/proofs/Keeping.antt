-- What a call keeps, from what the commands keep and the laws of what is asked over a history.
use Rattle.std.proofs.Common.{ℕ}
use Rattle.run_questions.specs.BlameLaws.{BlamedAreProved, QuorumsAreBlamed, CorrectAreNotBlamed}
use Rattle.run_questions.specs.TrendLaws.{PrintsTheChangesOfOne, PrintsTheChangesOfAll, AlwaysMatches}
use Rattle.part_lines.specs.Laws.{EnoughLinesRebuild}
use Rattle.page_text.specs.Escaping.{EscapedIsPlain}
use Rattle.run_questions.specs.PartsLaws.{CertifiedHaveOwnDigests, PartsArePrinted, PrintedLinesRebuild}
use Rattle.command_ends.specs.Calls.{Call}
use Rattle.command_ends.specs.Ended.{ErrorSink}
use Rattle.run_commands.specs.Keeps.{KeepsCommands}
use Rattle.run_program.specs.Keeps.{Keeps}
use Rattle.run_program.specs.Whole.{program_readers}
use Rattle.run_program.proofs.Drawn.{keeps_pictures}
use Rattle.run_program.proofs.Requested.{keeps_parts, keeps_rebuild}
use Rattle.run_program.proofs.Shown.{keeps_page}
use Rattle.run_program.proofs.Worth.{keeps_blame, keeps_delays, keeps_trend}

-- the laws of what is asked over a history
pub record Laws : Type 0 where
  pub proved : BlamedAreProved
  pub quorums : QuorumsAreBlamed
  pub correct : CorrectAreNotBlamed
  pub one : PrintsTheChangesOfOne
  pub all : PrintsTheChangesOfAll
  pub matches : AlwaysMatches
  pub printed : PartsArePrinted
  pub rebuild : PrintedLinesRebuild
  pub own : CertifiedHaveOwnDigests
  pub enough : EnoughLinesRebuild
  pub plain : EscapedIsPlain

pub keeps : Laws → (call : Call) (err : ErrorSink) (status : ℕ) → KeepsCommands program_readers call err status →
    Keeps call err status
keeps laws call err status kept = record {
  ends = kept.ends;
  complete = kept.complete;
  headline = kept.headline;
  blame = keeps_blame laws.proved laws.quorums laws.correct call err status kept.answers;
  trend = keeps_trend laws.one laws.all laws.matches call err status kept.answers;
  delays = keeps_delays call err status kept.answers;
  page = keeps_page laws.plain call err status kept.answers;
  pictures = keeps_pictures call err status kept.answers;
  parts = keeps_parts laws.printed laws.rebuild laws.own call err status kept.answers;
  rebuild = keeps_rebuild laws.enough call err status kept.requests;
}
