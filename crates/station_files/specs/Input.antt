-- Input line by line. (This project's own.)
use Rattle.std.specs.Prelude.{◌≡◌, ◌≢◌, ℕ, ◌≤◌, ◌<◌, Bool, true, false, List, [], ◌∷◌, ◌++◌, Option, Some, None, Result, Ok}
use Rattle.std.specs.Prelude.{Err, length, nat_lt, if◌then◌else◌}
use Rattle.std.specs.declared.vec.Vec.{Vec}
use Rattle.std.specs.declared.alloc.Global.{Global}
use Rattle.std.specs.Io.KnownBytes.{Consumes, Keeps, IsAtEnd, prepend_known}
use Rattle.station_files.specs.WholeLines.{has_no_feed}
use Rattle.station_files.specs.declared.lines.Came.{Came}
use Rattle.station_files.specs.declared.lines.Came.TheVariants as came
use Rattle.station_files.specs.declared.lines.LineAnswer.{LineAnswer}
use Rattle.station_files.specs.declared.lines.LineAnswer.TheVariants as answer

-- The first line of the bytes, without the line feed that ends it, and what stands behind that.
pub record IsFirst (bytes line after : List ℕ) : Type 0 where
  pub whole : bytes ≡ line ++ 10 ∷ after
  pub one : has_no_feed line ≡ true

-- What comes next of the bytes that wait: their first line, or that it is longer than the room; that no line feed ends
-- them; or their end. Each line is taken whole, the ones that are too long too.
abbrev pub Comes : ℕ → List ℕ → Came → List ℕ → Type 0
Comes room bytes (came.Line line) after = IsFirst bytes line.items after × (length line.items ≤ room)
Comes room bytes came.TooLong after = (line : List ℕ) × IsFirst bytes line after × (room < length line)
Comes room bytes came.Unended after = (has_no_feed bytes ≡ true) × (bytes ≢ []) × (after ≡ [])
Comes room bytes came.End after = (bytes ≡ []) × (after ≡ [])

-- the same where the bytes that wait are told, before and behind it
abbrev pub ComesOf : ℕ → Option (List ℕ) → Came → Option (List ℕ) → Type 0
ComesOf room None came after = Unit {0}
ComesOf room (Some bytes) came None = ⊥
ComesOf room (Some bytes) came (Some after) = Comes room bytes came after

-- The count of faults rises only where a fault is answered.
abbrev pub LineCounts : {V : Type 0} → Result V LineAnswer → ℕ → ℕ → Type 0
LineCounts (Ok _) before after = after ≡ before
LineCounts (Err answer.Failed) before after = Unit {0}
LineCounts (Err answer.Want) before after = after ≡ before

-- One byte of what waits, or none at its end. After a fault all waits as before.
abbrev pub GivesByte : Option (List ℕ) → Result (Option ℕ) LineAnswer → Option (List ℕ) → Type 0
GivesByte before (Ok None) after = IsAtEnd before × IsAtEnd after × Keeps before after
GivesByte before (Ok (Some b)) after = Consumes before after (b ∷ [])
GivesByte before (Err _) after = Keeps before after

-- A reader: its faults so far, what was read ahead of it, and what it will still give, where that is told.
pub record Inlet : Type 0 where
  pub faults : ℕ
  pub ahead : List ℕ
  pub rest : Option (List ℕ)

-- what was read ahead waits, and behind it what the reader will give
abbrev pub waiting_of : Inlet → Option (List ℕ)
waiting_of inlet = prepend_known inlet.ahead inlet.rest

-- the first of what was read ahead is taken
abbrev pub TakesAhead : Inlet → Option ℕ → Inlet → Type 0
TakesAhead before None after = (before.ahead ≡ []) × (after ≡ before)
TakesAhead before (Some b) after =
    (before.ahead ≡ b ∷ after.ahead) × (after.rest ≡ before.rest) × (after.faults ≡ before.faults)

-- something is read ahead, nothing only at the end
abbrev pub Fills : Inlet → Result (Unit {0}) LineAnswer → Inlet → Type 0
Fills before (Ok _) after = Consumes before.rest after.rest after.ahead × (after.ahead ≡ [] → IsAtEnd after.rest)
Fills before (Err _) after = (after.ahead ≡ []) × Keeps before.rest after.rest

-- What is known of a line of which these bytes were read, by its bytes that have room, whether it has begun, and whether
-- it has no room.
pub record IsRead (room : ℕ) (seen line : List ℕ) (is_begun is_long : Bool) : Type 0 where
  pub one : has_no_feed seen ≡ true
  pub begun : is_begun ≡ nat_lt 0 (length seen)
  pub fits : length line ≤ room
  pub short : is_long ≡ false → line ≡ seen
  pub long : is_long ≡ true → room < length seen

-- what a line that isn't ended comes to, and one that is
abbrev pub at_end : Bool → Came
at_end is_begun = if is_begun then came.Unended else came.End

abbrev pub at_feed : Vec ℕ Global → Bool → Came
at_feed line is_long = if is_long then came.TooLong else came.Line line
