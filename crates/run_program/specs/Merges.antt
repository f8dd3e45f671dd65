-- What merges go by: the histories that join what stations kept, and why there is none, as the program tells it.
use Rattle.std.specs.Prelude.{◌≡◌, ℕ, List, [], Option, None, Some, Result, Ok, Err}
use Rattle.std.specs.List.{slice_index_or}
use Rattle.std.specs.Result.{IfOk}
use Rattle.plain_lists.specs.declared.want.Want.{Want}
use Rattle.joined_histories.specs.declared.refusal.JoinRefusal.{JoinRefusal}
use Rattle.joined_histories.specs.declared.refusal.JoinRefusal.TheVariants as join
use Rattle.joined_histories.specs.Files.{Answered}
use Rattle.command_ends.specs.declared.refusal.KeepFault.{KeepFault}
use Rattle.command_ends.specs.declared.refusal.KeepFault.TheVariants as keep
use Rattle.command_ends.specs.declared.refusal.Refusal.{Refusal}
use Rattle.command_ends.specs.declared.refusal.Refusal.TheVariants as refusal
use Rattle.run_commands.specs.Readers.{keep_refusal}

-- the place of the file, and what is wrong with it; no file is defined to want memory
abbrev pub fault_of : JoinRefusal → Option (ℕ × KeepFault)
fault_of (join.BadLine file line) = Some (file, keep.BadLine line)
fault_of (join.NotLegal file stamp) = Some (file, keep.NotLegal stamp)
fault_of (join.OtherWords file stamp) = Some (file, keep.OtherWords stamp)
fault_of (join.Twice file) = Some (file, keep.Twice)
fault_of join.Want = None

-- the first file that isn't what a station kept
abbrev pub first_fault : Answered → Option (ℕ × KeepFault)
first_fault (Ok given) = None
first_fault (Err why) = fault_of why

-- the refusal tells the fault with the file's name, unless memory ran out
abbrev pub TellsFault : List (List ℕ) → JoinRefusal → Refusal → Type 0
TellsFault names why refusal.Memory = Unit {0}
TellsFault names why told = (fault : ℕ × KeepFault) × (fault_of why ≡ Some fault) × (told ≡ keep_refusal names fault)

-- the name at a place
abbrev pub ToldName : List (List ℕ) → ℕ → Result (List ℕ) Want → Type 0
ToldName names file result = IfOk result (λ name. name ≡ slice_index_or names file [])
