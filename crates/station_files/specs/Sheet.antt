-- A kept file in memory. (This project's own.)
use Rattle.std.specs.Prelude.{◌≡◌, ℕ, ◌<◌, ◌≤◌, ◌++◌, Bool, true, false, List, Option, Some, Result, Ok, Err, length, min}
use Rattle.std.specs.Prelude.{nat_eq, take}
use Rattle.std.specs.List.{list_any}
use Rattle.std.specs.declared.vec.Vec.{Vec}
use Rattle.std.specs.declared.alloc.Global.{Global}
use Rattle.outside.specs.Shelf.{next_call}
use Rattle.outside.specs.declared.files.LoadAnswer.{LoadAnswer}
use Rattle.outside.specs.declared.files.LoadAnswer.TheVariants as load
use Rattle.outside.specs.declared.keepers.KeepAnswer.{KeepAnswer}
use Rattle.outside.specs.declared.keepers.KeepAnswer.TheVariants as answer
use Rattle.station_files.specs.Held.{Held}
use Rattle.station_files.specs.WholeLines.{whole_lines}

-- What it holds and how much of it is durable; which of its calls are to fail (counted from 1), how many bytes of its piece
-- an append that fails still takes, how many calls there were, and how many failed.
pub record Sheet : Type 0 where
  pub bytes : List ℕ
  pub durable : ℕ
  pub failing : List ℕ
  pub torn : ℕ
  pub calls : ℕ
  pub faults : ℕ

-- whether the next call is to fail
abbrev pub call_fails : Sheet → Bool
call_fails sheet = list_any (nat_eq (next_call sheet.calls)) sheet.failing

-- what each call does to the counts
abbrev pub after_call : Sheet → Sheet
after_call sheet = record sheet { calls = next_call sheet.calls }

abbrev pub after_fault : Sheet → Sheet
after_fault sheet = record sheet { calls = next_call sheet.calls; faults = next_call sheet.faults }

-- A call fails exactly where it is listed: an append then takes the beginning of its piece, the others change nothing.
abbrev pub SheetAppends : Sheet → List ℕ → Result (Unit {0}) KeepAnswer → Sheet → Type 0
SheetAppends before piece (Ok _) after =
    (call_fails before ≡ false) × (after ≡ record (after_call before) { bytes = before.bytes ++ piece })
SheetAppends before piece (Err answer.Failed) after =
    (call_fails before ≡ true)
    × (after ≡ record (after_fault before) { bytes = before.bytes ++ take (min before.torn (length piece)) piece })
SheetAppends before piece (Err answer.Want) after = after ≡ before

abbrev pub SheetSettles : Sheet → Result (Unit {0}) KeepAnswer → Sheet → Type 0
SheetSettles before (Ok _) after =
    (call_fails before ≡ false) × (after ≡ record (after_call before) { durable = length before.bytes })
SheetSettles before (Err answer.Failed) after = (call_fails before ≡ true) × (after ≡ after_fault before)
SheetSettles before (Err answer.Want) after = ⊥

abbrev pub SheetRecovers : Sheet → ℕ → Result (Vec ℕ Global) LoadAnswer → Sheet → Type 0
SheetRecovers before room (Ok text) after =
    (call_fails before ≡ false) × (length before.bytes ≤ room)
    × (after ≡ record (after_call before) {
      bytes = whole_lines before.bytes;
      durable = length (whole_lines before.bytes);
    })
SheetRecovers before room (Err load.TooLong) after =
    (call_fails before ≡ false) × (room < length before.bytes) × (after ≡ after_call before)
SheetRecovers before room (Err load.Failed) after = (call_fails before ≡ true) × (after ≡ after_fault before)
SheetRecovers before room (Err load.Want) after = after ≡ before

-- what the file in memory tells
abbrev pub held_by : Sheet → Option Held
held_by sheet = Some (record { bytes = sheet.bytes; durable = sheet.durable })
