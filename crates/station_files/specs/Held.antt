-- What a file that is kept holds, and what each call does to it. (This project's own.)
use Rattle.std.specs.Prelude.{◌≡◌, ℕ, ◌≤◌, ◌<◌, ◌⊎◌, List, ◌++◌, Option, None, Some, Result, Ok, Err, length, min, take}
use Rattle.std.specs.declared.vec.Vec.{Vec}
use Rattle.std.specs.declared.alloc.Global.{Global}
use Rattle.outside.specs.declared.files.LoadAnswer.{LoadAnswer}
use Rattle.outside.specs.declared.files.LoadAnswer.TheVariants as load
use Rattle.outside.specs.declared.keepers.KeepAnswer.{KeepAnswer}
use Rattle.outside.specs.declared.keepers.KeepAnswer.TheVariants as answer
use Rattle.station_files.specs.WholeLines.{whole_lines}

-- The bytes of the file, and how many of them, from the first on, are durable: these are still there after the machine
-- stopped. Of the others some may be.
pub record Held : Type 0 where
  pub bytes : List ℕ
  pub durable : ℕ

-- what was appended, to a file that tells what it holds
abbrev pub with_piece : Option Held → List ℕ → Option Held
with_piece None piece = None
with_piece (Some h) piece = Some (record { bytes = h.bytes ++ piece; durable = h.durable })

-- An append adds the whole piece, after a fault some beginning of it, and nothing where there was no memory.
abbrev pub AppendGives : Option Held → List ℕ → Result (Unit {0}) KeepAnswer → Option Held → Type 0
AppendGives before piece (Ok _) after = after ≡ with_piece before piece
AppendGives before piece (Err answer.Failed) after = (count : ℕ) × (after ≡ with_piece before (take count piece))
AppendGives before piece (Err answer.Want) after = after ≡ before

-- all bytes are durable
abbrev pub all_durable : Option Held → Option Held
all_durable None = None
all_durable (Some h) = Some (record { bytes = h.bytes; durable = length h.bytes })

-- Settling makes all durable. After a fault nothing more is known to be.
abbrev pub SettleGives : Option Held → Result (Unit {0}) KeepAnswer → Option Held → Type 0
SettleGives before (Ok _) after = after ≡ all_durable before
SettleGives before (Err answer.Failed) after = after ≡ before
SettleGives before (Err answer.Want) after = after ≡ before

-- the file without a torn line at its end
abbrev pub without_torn : Held → Held
without_torn h = record { bytes = whole_lines h.bytes; durable = min h.durable (length (whole_lines h.bytes)) }

-- What is recovered of a file that tells what it holds: its whole lines, which are then all that it holds, and durable.
-- It is too long just where its bytes have no room. After a fault the torn line may be cut off or not.
abbrev pub Recovers : Held → ℕ → Result (Vec ℕ Global) LoadAnswer → Option Held → Type 0
Recovers h room (Ok text) after =
    (text.items ≡ whole_lines h.bytes) × (length h.bytes ≤ room) × (after ≡ all_durable (Some (without_torn h)))
Recovers h room (Err load.TooLong) after = (room < length h.bytes) × (after ≡ Some h)
Recovers h room (Err load.Failed) after = (after ≡ Some h) ⊎ (after ≡ Some (without_torn h))
Recovers h room (Err load.Want) after = after ≡ Some h

abbrev pub RecoverGives : Option Held → ℕ → Result (Vec ℕ Global) LoadAnswer → Option Held → Type 0
RecoverGives None room result after = after ≡ None
RecoverGives (Some h) room result after = Recovers h room result after

-- The count of faults rises only where a fault is answered.
abbrev pub RecoverCounts : Result (Vec ℕ Global) LoadAnswer → ℕ → ℕ → Type 0
RecoverCounts (Ok _) before after = after ≡ before
RecoverCounts (Err load.TooLong) before after = after ≡ before
RecoverCounts (Err load.Want) before after = after ≡ before
RecoverCounts (Err load.Failed) before after = Unit {0}
