-- What the files of stations tell, one after another. Each is of the actor that its first line names, and of each actor there
-- is one at most. (This project's own.)
use Rattle.std.specs.Prelude.{◌≡◌, ◌≤◌, ◌<◌, ℕ, ◌+◌, ◌*◌, ◌^◌, Bool, true, false, List, [], ◌∷◌, Option, Some, None, Result, Ok, Err, length}
use Rattle.std.specs.Prelude.{replicate, set, slice_get}
use Rattle.plain_lists.specs.Answers.{IsRightRefusal, IsRightSeen}
use Rattle.scenario_file.specs.declared.actors.Cast.{Cast}
use Rattle.scenario_file.specs.Reading.{Contents, cast_of}
use Rattle.script_grammar.specs.Faults.{Answer}
use Rattle.history_rules.specs.Events.{Entry}
use Rattle.world_rules.specs.Scenarios.{actors_in}
use Rattle.run_lines.specs.declared.entry_line.EntryLine.{EntryLine}
use Rattle.run_lines.specs.Reading.{entry_line_in}
use Rattle.run_lines.specs.Runs.{pieces}
use Rattle.joint_lists.specs.Joint.{AreStations, count}
use Rattle.kept_lines.specs.declared.refusal.KeptRefusal.{KeptRefusal}
use Rattle.kept_lines.specs.declared.refusal.KeptRefusal.TheVariants as kept
use Rattle.kept_lines.specs.Reading.{Reading, entry_part, kept_in}
use Rattle.joined_histories.specs.declared.refusal.JoinRefusal.{JoinRefusal}
use Rattle.joined_histories.specs.declared.refusal.JoinRefusal.TheVariants as refusal
use Rattle.joined_histories.specs.declared.files.Kept.{Kept}

-- of each actor what its file has, the empty list where it gave none, and whether it gave one
pub record Given : Type 0 where
  pub lists : List (List Entry)
  pub gave : List Bool

abbrev pub none_given : Contents → Given
none_given c = record { lists = replicate (actors_in c) []; gave = replicate (actors_in c) false }

abbrev pub with_list : Given → ℕ → List Entry → Given
with_list given actor list = record { lists = set given.lists actor list; gave = set given.gave actor true }

-- ---- Whose file it is.

abbrev pub there : Option ℕ → Reading (Option ℕ)
there None = Err (kept.NotLegal 0)
there (Some actor) = Ok (Some actor)

abbrev pub named_on : Answer EntryLine → Reading (Option ℕ)
named_on (Ok l) = there l.actor
named_on (Err e) = Err (kept.BadLine 1)

abbrev pub owner_by : Cast → List (List ℕ) → Reading (Option ℕ)
owner_by cast [] = Ok None
owner_by cast (torn ∷ []) = Ok None
owner_by cast (line ∷ next ∷ more) = named_on (entry_line_in cast (entry_part line))

-- the actor that the first line names; a file without a whole line is nobody's
abbrev pub owner_in : Contents → List ℕ → Reading (Option ℕ)
owner_in c bytes = owner_by (cast_of c.settings c.plant) (pieces bytes)

-- ---- The files in turn, each with its place from 0.

-- the refusal of a file
abbrev pub refusal_of : ℕ → KeptRefusal → JoinRefusal
refusal_of file (kept.BadLine line) = refusal.BadLine file line
refusal_of file (kept.NotLegal stamp) = refusal.NotLegal file stamp
refusal_of file (kept.OtherWords stamp) = refusal.OtherWords file stamp
refusal_of file kept.Want = refusal.Want

abbrev pub Answered : Type 0
Answered = Result Given JoinRefusal

abbrev pub with_read : Given → ℕ → ℕ → Reading (List Entry) → Answered
with_read given file actor (Ok list) = Ok (with_list given actor list)
with_read given file actor (Err why) = Err (refusal_of file why)

-- another file of this actor, which gave one or none, or isn't there
abbrev pub with_more : Contents → Given → ℕ → ℕ → List ℕ → Option Bool → Answered
with_more c given file actor bytes (Some false) = with_read given file actor (kept_in c actor bytes)
with_more c given file actor bytes (Some true) = Err (refusal.Twice file)
with_more c given file actor bytes None = Err (refusal.NotLegal file 0)

abbrev pub with_owner : Contents → Given → ℕ → List ℕ → Reading (Option ℕ) → Answered
with_owner c given file bytes (Ok None) = Ok given
with_owner c given file bytes (Ok (Some actor)) = with_more c given file actor bytes (slice_get given.gave actor)
with_owner c given file bytes (Err why) = Err (refusal_of file why)

abbrev pub with_file : Contents → Given → ℕ → List ℕ → Answered
with_file c given file bytes = with_owner c given file bytes (owner_in c bytes)

abbrev pub files_from : Contents → Given → ℕ → List (List ℕ) → Answered
files_from c given file [] = Ok given
files_from c given file (bytes ∷ rest) =
    elim (with_file c given file bytes) [ Err e ↦ Err e | Ok more ↦ files_from c more (file + 1) rest ]

-- What files tell, or the first fault, with the place of its file.
unfoldable pub files_in : Contents → List (List ℕ) → Answered
files_in c files = files_from c (none_given c) 0 files

-- ---- Answers.

-- whether it is want of memory that is told
abbrev pub is_want : JoinRefusal → Bool
is_want refusal.Want = true
is_want other = false

-- a refusal is the right answer, unless memory ran out
abbrev pub Refuses : {A : Type 0} → JoinRefusal → Result A JoinRefusal → Type 0
Refuses why right = IsRightRefusal is_want why right

-- what was read of files
abbrev pub given_of : Kept → Given
given_of read = record { lists = read.lists.items; gave = read.gave.items }

abbrev pub ReadsFiles : Result Kept JoinRefusal → Answered → Type 0
ReadsFiles answer right = IsRightSeen is_want given_of answer right

-- one file more was read, or is refused
abbrev pub AddsFile : Answered → Result (Unit {0}) JoinRefusal → Kept → Type 0
AddsFile right (Ok done) new = right ≡ Ok (given_of new)
AddsFile right (Err why) new = Refuses why right

-- how many bytes files have
abbrev pub bytes_in : List (List ℕ) → ℕ
bytes_in [] = 0
bytes_in (bytes ∷ rest) = length bytes + bytes_in rest

-- a file that a station could read again
abbrev pub IsShort : List ℕ → Type 0
IsShort bytes = length bytes < 2 ^ 32

-- Lists of stations stay such with one file's more, and each entry took a line, whose digest alone has 72 bytes.
pub record AreKept (c : Contents) (bytes : ℕ) (read : Kept) : Type 0 where
  pub stations : AreStations c read.lists.items
  pub alike : length read.lists.items ≡ length read.gave.items
  pub few : count read.lists.items * 72 ≤ bytes

abbrev pub KeepsStations : Contents → ℕ → Kept → Kept → Type 0
KeepsStations c more old new = (bytes : ℕ) → AreKept c bytes old → AreKept c (bytes + more) new
