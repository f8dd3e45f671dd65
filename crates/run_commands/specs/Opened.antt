-- What a file gives that is loaded and read.
use Rattle.std.specs.Prelude.{◌≡◌, ◌≤◌, ℕ, List, Option, Result, Ok, Err, length}
use Rattle.outside.specs.Faults.{HasRisen}
use Rattle.command_ends.specs.Steps.{Step}
use Rattle.command_ends.specs.Steps.Step.{Refuses}
use Rattle.command_ends.specs.Calls.{IsContent, IsTooLong}
use Rattle.command_ends.specs.declared.limits.TheConstants.{MOST_BYTES}
use Rattle.command_ends.specs.declared.refusal.Refusal.{Refusal}
use Rattle.command_ends.specs.declared.refusal.Refusal.TheVariants as refusal

-- a content leads to what a value leads to, whatever that is
abbrev pub LeadsTo : {V : Type 0} → (List ℕ → (V → Step) → Step) → List ℕ → V → Type 0
LeadsTo {V} reads content value = (onward : V → Step) → reads content onward ≡ onward value

-- a value that is read from a content, or the refusal that the content leads to
abbrev pub Leads : {A V : Type 0} → (List ℕ → (V → Step) → Step) → (A → V) → List ℕ → Result A Refusal → Type 0
Leads reads shown content (Ok value) = LeadsTo reads content (shown value)
Leads reads shown content (Err refusal.Memory) = Unit {0}
Leads reads shown content (Err (refusal.Fault name)) = ⊥
Leads reads shown content (Err (refusal.TooLong name)) = ⊥
Leads reads shown content (Err refusal.Output) = ⊥
Leads {A} {V} reads shown content (Err why) = (onward : V → Step) → reads content onward ≡ Refuses why

-- the content of a file that isn't too long and was read, with what it leads to
abbrev pub IsRead : {A V : Type 0} → (List ℕ → (V → Step) → Step) → (A → V) → Option (List ℕ) →
    Result A Refusal → Type 0
IsRead reads shown held result =
    (content : List ℕ) × IsContent held content × (length content ≤ MOST_BYTES) × Leads reads shown content result

-- the file's content, which isn't too long, and of which this holds
abbrev pub IsOf : Option (List ℕ) → (List ℕ → Type 0) → Type 0
IsOf held Holds = (content : List ℕ) × IsContent held content × (length content ≤ MOST_BYTES) × Holds content

-- Why a file of that name gave a value, or none. Want of memory alone is free.
abbrev pub OpenCause : {A V : Type 0} → (List ℕ → (V → Step) → Step) → (A → V) → Option (List ℕ) → ℕ → ℕ →
    List ℕ → Result A Refusal → Type 0
OpenCause reads shown held before after name (Ok value) = IsRead reads shown held (Ok value)
OpenCause reads shown held before after name (Err refusal.Memory) = Unit {0}
OpenCause reads shown held before after name (Err (refusal.Fault named)) = (named ≡ name) × HasRisen before after
OpenCause reads shown held before after name (Err (refusal.TooLong named)) = (named ≡ name) × IsTooLong MOST_BYTES held
OpenCause reads shown held before after name (Err why) = IsRead reads shown held (Err why)
