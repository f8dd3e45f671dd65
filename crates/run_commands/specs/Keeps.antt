-- What the call keeps that runs the commands, over whatever plays, runs in threads and prints by the rules.
use Rattle.std.specs.Prelude.{◌≡◌, ℕ, Bool, true, false, List, Option, Some}
use Rattle.command_words.specs.Wanted.{Wanted, run, merge, wanted_in}
use Rattle.command_ends.specs.Steps.{Step}
use Rattle.command_ends.specs.Calls.{Call}
use Rattle.command_ends.specs.Complete.{Completes, IsUntroubled, IsDueOrWant, IsFree, EndsFreely}
use Rattle.command_ends.specs.Ended.{ErrorSink, Ends}
use Rattle.run_commands.specs.Readers.{Readers}
use Rattle.run_commands.specs.Course.{NextStep}
use Rattle.run_commands.specs.Headline.{KeepsHeadline}
use Rattle.run_commands.specs.Answered.{KeepsAnswers, KeepsRequests}

-- words that ask for a run in threads or a merge, of which several texts may come
abbrev pub asks_for_several : Option Wanted → Bool
asks_for_several (Some (run scenario script words hands turns)) = true
asks_for_several (Some (merge scenario keeps)) = true
asks_for_several _ = false

-- Where nothing is in the way of a call that loaded these files, it ends with a step that may come of them, or for want of
-- memory; and there is such a step.
abbrev pub HasEnd : Readers → Call → ErrorSink → ℕ → Type 0
HasEnd r call err status =
    (contents : List (List ℕ)) → IsFree (NextStep r) call contents → (end : Step) × NextStep r call.words contents end
    × IsDueOrWant call err status end

-- Every call completes: of a run in threads and of a merge the text is that of some history, of all other commands it is
-- determined. `all` and `single` tell how a call ends where a step is known that may come; `freely` doesn't ask for one; and of
-- a run in threads there always is one (`runs`), since each scenario, script and words have a run.
pub record KeepsComplete (r : Readers) (call : Call) (err : ErrorSink) (status : ℕ) : Type 0 where
  pub all : Completes (NextStep r) call err status
  pub single : asks_for_several (wanted_in call.words) ≡ false → (last : Step) → IsUntroubled (NextStep r) call last →
      IsDueOrWant call err status last
  pub freely : EndsFreely (NextStep r) call err status
  pub runs : (scenario script words : List ℕ) (hands turns : ℕ)
      → wanted_in call.words ≡ Some (run scenario script words hands turns) → HasEnd r call err status

-- the end with its cause, completeness, the headline, and what is asked over a history or rebuilt of parts
pub record KeepsCommands (r : Readers) (call : Call) (err : ErrorSink) (status : ℕ) : Type 0 where
  pub ends : Ends (NextStep r) call err status
  pub complete : KeepsComplete r call err status
  pub headline : KeepsHeadline r call status
  pub answers : KeepsAnswers r call err status
  pub requests : KeepsRequests r call err status
