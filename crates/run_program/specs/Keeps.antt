-- What a call of the program keeps.
use Rattle.std.specs.Prelude.{ℕ}
use Rattle.command_ends.specs.Calls.{Call}
use Rattle.command_ends.specs.Ended.{ErrorSink, Ends}
use Rattle.run_commands.specs.Course.{NextStep}
use Rattle.run_commands.specs.Headline.{KeepsHeadline}
use Rattle.run_commands.specs.Keeps.{KeepsComplete}
use Rattle.run_program.specs.Blame.{KeepsBlame}
use Rattle.run_program.specs.Delays.{KeepsDelays}
use Rattle.run_program.specs.Pages.{KeepsPage}
use Rattle.run_program.specs.Pictures.{KeepsPictures}
use Rattle.run_program.specs.Requests.{KeepsParts, KeepsRebuild}
use Rattle.run_program.specs.Trends.{KeepsTrend}
use Rattle.run_program.specs.Whole.{program_readers}

-- It ends in one way, for its cause, with its status and line, and no other fault came; where nothing is in its way it
-- ends as its words and files have it; the headline holds of what is played, run or replayed; and what is asked over a
-- history or rebuilt of parts is what that history or those parts give.
pub record Keeps (call : Call) (err : ErrorSink) (status : ℕ) : Type 0 where
  pub ends : Ends (NextStep program_readers) call err status
  pub complete : KeepsComplete program_readers call err status
  pub headline : KeepsHeadline program_readers call status
  pub blame : KeepsBlame call status
  pub trend : KeepsTrend call err status
  pub delays : KeepsDelays call status
  pub page : KeepsPage call status
  pub pictures : KeepsPictures call status
  pub parts : KeepsParts call status
  pub rebuild : KeepsRebuild call status
