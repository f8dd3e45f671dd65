-- What is printed of a text that is rebuilt from a text of parts. (This project's own.)
use Rattle.std.specs.Prelude.{◌≡◌, ℕ, Bool, true, false, List, Option, Some, None, Result, Ok, Err}
use Rattle.plain_lists.specs.Answers.{IsRight, IsRightRefusal}
use Rattle.quorum_sets.specs.Quorum.{group_size}
use Rattle.scenario_file.specs.Reading.{Contents}
use Rattle.parity_parts.specs.declared.part.Part.{Part}
use Rattle.parity_parts.specs.Rebuilding.{rebuilt, wrong_masters}
use Rattle.script_grammar.specs.declared.fault.LineRefusal.{LineRefusal}
use Rattle.script_grammar.specs.declared.fault.LineRefusal.TheVariants as line
use Rattle.part_lines.specs.declared.fault.RebuildRefusal.{RebuildRefusal}
use Rattle.part_lines.specs.declared.fault.RebuildRefusal.TheVariants as fault
use Rattle.part_lines.specs.declared.told.Told.{Told}
use Rattle.part_lines.specs.Reading.{Reading, told_in}
use Rattle.part_lines.specs.Texts.{rebuilt_lines}

-- the text of the digest, and the masters whose parts aren't its
abbrev pub or_no_text : ℕ → List Part → Option (List ℕ) → Reading (List ℕ)
or_no_text f parts None = Err fault.NoText
or_no_text f parts (Some text) = Ok (rebuilt_lines text (wrong_masters f text parts))

abbrev pub rebuilt_of : ℕ → Reading Told → Reading (List ℕ)
rebuilt_of f (Ok told) = or_no_text f told.parts (rebuilt f told.digest told.parts)
rebuilt_of f (Err e) = Err e

-- what a text of parts tells in a scenario
unfoldable pub told_for : Contents → List ℕ → Reading Told
told_for c bytes = told_in (group_size c.settings.f c.settings.k) c.settings.f bytes

-- what is printed for a text of parts, or why nothing is
unfoldable pub rebuilt_in : Contents → List ℕ → Reading (List ℕ)
rebuilt_in c bytes = rebuilt_of c.settings.f (told_for c bytes)

-- the fault of a text whose line of that number has a fault
abbrev pub fault_at : ℕ → LineRefusal → RebuildRefusal
fault_at number line.Want = fault.Want
fault_at number other = fault.BadLine number

-- whether it is want of memory that is told
abbrev pub is_want : RebuildRefusal → Bool
is_want fault.Want = true
is_want other = false

-- a fault is the right answer, unless memory ran out
abbrev pub RefusesText : {A : Type 0} → RebuildRefusal → Reading A → Type 0
RefusesText why right = IsRightRefusal is_want why right

-- an answer is the right one, unless memory ran out
abbrev pub ReadsText : {A : Type 0} → Reading A → Reading A → Type 0
ReadsText answer right = IsRight is_want answer right
