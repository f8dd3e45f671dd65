-- What a command gives that loads no file.
use Rattle.std.specs.Prelude.{◌≡◌, ℕ, List, Result, Ok, Err}
use Rattle.std.specs.declared.vec.Vec.{Vec}
use Rattle.std.specs.declared.alloc.Global.{Global}
use Rattle.hash_signatures.specs.Verification.{Verifies}
use Rattle.run_commands.specs.Verifying.{verified_text}
use Rattle.scenario_file.specs.Reading.{Contents}
use Rattle.history_rules.specs.Events.{Entry}
use Rattle.command_ends.specs.Steps.{Step}
use Rattle.command_ends.specs.Steps.Step.{Gives, Refuses}
use Rattle.command_ends.specs.declared.refusal.Refusal.{Refusal}
use Rattle.command_ends.specs.declared.refusal.Refusal.TheVariants as refusal
use Rattle.run_commands.specs.Readers.{Readers}
use Rattle.run_commands.specs.Course.{made_history}

-- the text or the refusal of a step, unless memory ran out
abbrev pub Makes : Step → Result (Vec ℕ Global) Refusal → Type 0
Makes step (Ok text) = step ≡ Gives text.items
Makes step (Err refusal.Memory) = Unit {0}
Makes step (Err (refusal.Fault name)) = ⊥
Makes step (Err (refusal.TooLong name)) = ⊥
Makes step (Err refusal.Output) = ⊥
Makes step (Err why) = step ≡ Refuses why

-- the text of the run that a number makes, or why there is none
abbrev pub MakesRun : Readers → Contents → ℕ → Result (Vec ℕ Global) Refusal → Type 0
MakesRun r c number (Ok text) = (history : List Entry)
    × ((onward : List Entry → Step) → made_history r c number onward ≡ onward history)
    × (text.items ≡ r.text_of c history)
MakesRun r c number (Err refusal.Memory) = Unit {0}
MakesRun r c number (Err (refusal.Fault name)) = ⊥
MakesRun r c number (Err (refusal.TooLong name)) = ⊥
MakesRun r c number (Err refusal.Output) = ⊥
MakesRun r c number (Err why) = (onward : List Entry → Step) → made_history r c number onward ≡ Refuses why

-- whether a signature is verified, unless memory ran out
abbrev pub VerifyMakes : List ℕ → List ℕ → List ℕ → Result (Vec ℕ Global) Refusal → Type 0
VerifyMakes public message sig (Ok text) = Verifies public message sig × (text.items ≡ verified_text)
VerifyMakes public message sig (Err refusal.NotVerified) = Verifies public message sig → ⊥
VerifyMakes public message sig (Err refusal.Memory) = Unit {0}
VerifyMakes public message sig (Err _) = ⊥
