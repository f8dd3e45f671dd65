-- Two steps of a call: loading a file, and putting the text.
use Rattle.std.specs.Prelude.{◌≡◌, ℕ, ◌≤◌, List, Option, Result, Ok, Err, length}
use Rattle.std.specs.declared.vec.Vec.{Vec}
use Rattle.std.specs.declared.alloc.Global.{Global}
use Rattle.outside.specs.Faults.{HasRisen}
use Rattle.outside.specs.Piece.{with_piece}
use Rattle.command_ends.specs.Output.{PutsBeginning}
use Rattle.command_ends.specs.Calls.{IsContent, IsTooLong}
use Rattle.command_ends.specs.declared.refusal.Refusal.{Refusal}
use Rattle.command_ends.specs.declared.refusal.Refusal.TheVariants as refusal

-- what a load of a file gives that may have so many bytes, and why
abbrev pub LoadCause : ℕ → Option (List ℕ) → ℕ → ℕ → List ℕ → Result (Vec ℕ Global) Refusal → Type 0
LoadCause most held before after name (Ok loaded) = IsContent held loaded.items × (length loaded.items ≤ most)
LoadCause most held before after name (Err (refusal.Fault named)) = (named ≡ name) × HasRisen before after
LoadCause most held before after name (Err (refusal.TooLong named)) = (named ≡ name) × IsTooLong most held
LoadCause most held before after name (Err refusal.Memory) = Unit {0}
LoadCause most held before after name (Err _) = ⊥

-- what a text that is put leaves, and why
abbrev pub PutCause : ℕ → ℕ → Option (List ℕ) → Option (List ℕ) → List ℕ → Result (Unit {0}) Refusal → Type 0
PutCause faults_before faults_after before after text (Ok _) = after ≡ with_piece before text
PutCause faults_before faults_after before after text (Err refusal.Output) = HasRisen faults_before faults_after
    × PutsBeginning before text after
PutCause faults_before faults_after before after text (Err refusal.Memory) = PutsBeginning before text after
PutCause faults_before faults_after before after text (Err _) = ⊥
