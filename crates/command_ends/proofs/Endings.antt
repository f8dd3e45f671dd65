-- What a load tells, and what is put of the text.
use Rattle.std.proofs.Common.{ℕ, List, [], Result, Ok, Err}
use Rattle.command_ends.specs.Steps.{Step}
use Rattle.command_ends.specs.Steps.Step.{Gives}
use Rattle.command_ends.specs.Calls.{Call, Comes, NothingOrBegun, PutsInMemory}
use Rattle.command_ends.specs.Loaded.{PutCause}
use Rattle.command_ends.specs.declared.refusal.Refusal.{Refusal}
use Rattle.command_ends.specs.declared.refusal.Refusal.TheVariants as refusal

-- where memory was wanted for the rest of the text, a beginning of it was put
pub puts_in_memory : (next : List (List ℕ) → List (List ℕ) → Step → Type 0) (call : Call) (text : List ℕ)
    (result : Result (Unit {0}) Refusal)
    → Comes (next call.words) call.held [] (Gives text)
    → PutCause call.out_faults_before call.out_faults_after call.put_before call.put_after text result →
    PutsInMemory next call result
puts_in_memory next call text (Ok done) comes put = tt
puts_in_memory next call text (Err refusal.Memory) comes put = NothingOrBegun.begun text comes put
puts_in_memory next call text (Err refusal.Output) comes put = tt
puts_in_memory next call text (Err refusal.Usage) comes put = tt
puts_in_memory next call text (Err (refusal.Fault name)) comes put = tt
puts_in_memory next call text (Err (refusal.TooLong name)) comes put = tt
puts_in_memory next call text (Err (refusal.Scenario fault)) comes put = tt
puts_in_memory next call text (Err (refusal.Script fault number)) comes put = tt
puts_in_memory next call text (Err (refusal.Words fault number)) comes put = tt
puts_in_memory next call text (Err (refusal.History fault number)) comes put = tt
puts_in_memory next call text (Err refusal.NotVerified) comes put = tt
puts_in_memory next call text (Err (refusal.NoAnswer lack)) comes put = tt
puts_in_memory next call text (Err (refusal.Pieces at)) comes put = tt
puts_in_memory next call text (Err (refusal.Keep kept_name kept_fault)) comes put = tt
