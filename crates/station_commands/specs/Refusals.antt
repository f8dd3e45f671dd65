-- The status of what ends a station alone, the line that tells of it, and how a station that ended so tells it. (This
-- project's own.)
use Rattle.std.specs.Prelude.{◌≡◌, ℕ, List, ◌++◌, codes, decimal, Result, Ok, Err}
use Rattle.outside.specs.Faults.{HasRisen}
use Rattle.outside.specs.Piece.{with_piece}
use Rattle.command_ends.specs.Output.{PutsBeginning}
use Rattle.command_ends.specs.Refusals.{keep_fault_text}
use Rattle.command_ends.specs.Ended.{ErrorSink, Told}
use Rattle.station_commands.specs.declared.refusal.StationFault.{StationFault}
use Rattle.station_commands.specs.declared.refusal.StationFault.TheVariants as fault
use Rattle.station_commands.specs.declared.refusal.StationRefusal.{StationRefusal}
use Rattle.station_commands.specs.declared.refusal.StationRefusal.TheVariants as refusal

abbrev pub status_of : StationFault → ℕ
status_of fault.InUse = 3
status_of (fault.NotKept why) = 5
status_of (fault.BadRing line) = 5
status_of (fault.BadKey line) = 5
status_of fault.OtherKey = 5
status_of fault.Input = 11
status_of fault.Keep = 10
status_of fault.Full = 10

abbrev pub line_text : StationFault → List ℕ
line_text fault.InUse = codes "spire: keep InUse\n"
line_text (fault.NotKept why) = codes "spire: keep " ++ keep_fault_text why ++ codes "\n"
line_text (fault.BadRing line) = codes "spire: ring BadLine " ++ decimal line ++ codes "\n"
line_text (fault.BadKey line) = codes "spire: key BadLine " ++ decimal line ++ codes "\n"
line_text fault.OtherKey = codes "spire: key OtherKey\n"
line_text fault.Input = codes "spire: input fault\n"
line_text fault.Keep = codes "spire: keep fault\n"
line_text fault.Full = codes "spire: keep full\n"

-- As other commands tell theirs: the whole line was put and no fault came, or a beginning of it where the error output
-- failed, or the status tells of want of memory.
pub data ToldOwn (why : StationFault) (err : ErrorSink) (status : ℕ) : Type 0 where
  whole : status ≡ status_of why → err.faults_after ≡ err.faults_before →
      err.put_after ≡ with_piece err.put_before (line_text why) → ToldOwn why err status
  begun : status ≡ status_of why → HasRisen err.faults_before err.faults_after →
      PutsBeginning err.put_before (line_text why) err.put_after → ToldOwn why err status
  memory : status ≡ 7 → PutsBeginning err.put_before (codes "spire: memory\n") err.put_after → ToldOwn why err status

abbrev pub ToldSo : StationRefusal → ErrorSink → ℕ → Type 0
ToldSo (refusal.Known known) err status = Told known err status
ToldSo (refusal.Own why) err status = ToldOwn why err status

-- where it lived until its input ended nothing is told
abbrev pub Finishes : Result (Unit {0}) StationRefusal → ErrorSink → ℕ → Type 0
Finishes (Ok _) err status = (status ≡ 0) × (err.put_after ≡ err.put_before) × (err.faults_after ≡ err.faults_before)
Finishes (Err refused) err status = ToldSo refused err status
