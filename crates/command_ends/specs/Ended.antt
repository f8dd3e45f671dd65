-- What the error output and the status are at the end of a call.
use Rattle.std.specs.Prelude.{◌≡◌, ℕ, List, Option, Result, Ok, Err, codes}
use Rattle.outside.specs.Faults.{HasRisen}
use Rattle.outside.specs.Piece.{with_piece}
use Rattle.command_ends.specs.Output.{PutsBeginning}
use Rattle.command_ends.specs.Refusals.{status_of, line_text}
use Rattle.command_ends.specs.Steps.{Step}
use Rattle.command_ends.specs.Calls.{Call, CauseOf, PutsInMemory, FaultsOfFiles, FaultsOfOut}
use Rattle.command_ends.specs.declared.refusal.Refusal.{Refusal}
use Rattle.command_ends.specs.declared.refusal.Refusal.TheVariants as refusal
use Rattle.command_ends.specs.declared.no_words.WordsRefusal.{WordsRefusal}
use Rattle.command_ends.specs.declared.no_words.WordsRefusal.TheVariants as no_words

-- the error output before and after
pub record ErrorSink : Type 0 where
  pub faults_before : ℕ
  pub faults_after : ℕ
  pub put_before : Option (List ℕ)
  pub put_after : Option (List ℕ)

-- the same by its count of faults and by what was put to it, each before and after
abbrev pub sink_of : ℕ → ℕ → Option (List ℕ) → Option (List ℕ) → ErrorSink
sink_of faults_before faults_after put_before put_after = record {
  faults_before = faults_before;
  faults_after = faults_after;
  put_before = put_before;
  put_after = put_after;
}

-- A refusal's whole line was put and no fault came, or a beginning of it where the error output failed, or the status
-- tells of want of memory.
pub data Told (refused : Refusal) (err : ErrorSink) (status : ℕ) : Type 0 where
  whole : status ≡ status_of refused → err.faults_after ≡ err.faults_before →
      err.put_after ≡ with_piece err.put_before (line_text refused) → Told refused err status
  begun : status ≡ status_of refused → HasRisen err.faults_before err.faults_after →
      PutsBeginning err.put_before (line_text refused) err.put_after → Told refused err status
  memory : status ≡ 7 → PutsBeginning err.put_before (codes "spire: memory\n") err.put_after → Told refused err status

abbrev pub Finishes : Result (Unit {0}) Refusal → ErrorSink → ℕ → Type 0
Finishes (Ok _) err status = (status ≡ 0) × (err.put_after ≡ err.put_before) × (err.faults_after ≡ err.faults_before)
Finishes (Err refused) err status = Told refused err status

-- The call ended in one way, for its cause, with its status and line, and no other fault came.
pub record Ends (next : List (List ℕ) → List (List ℕ) → Step → Type 0) (call : Call) (err : ErrorSink)
    (status : ℕ) : Type 0 where
  pub result : Result (Unit {0}) Refusal
  pub cause : CauseOf next call result
  pub memory : PutsInMemory next call result
  pub file_faults : FaultsOfFiles result call.faults_before call.faults_after
  pub out_faults : FaultsOfOut result call.out_faults_before call.out_faults_after
  pub finish : Finishes result err status

-- What a program without words is refused for: words that are no text are no command.
abbrev pub refusal_without : WordsRefusal → Refusal
refusal_without no_words.NotText = refusal.Usage
refusal_without no_words.Want = refusal.Memory
