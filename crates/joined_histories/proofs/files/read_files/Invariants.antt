use Rattle.std.proofs.Common.{◌-◌, length}
use Rattle.scenario_file.specs.Reading.{contents}
use Rattle.joined_histories.proofs.Reading.{IsAmidFiles}
use Rattle.joined_histories.proofs.files.read_files.Given as goal

-- the files that are left tell the rest of what all tell
abbrev pub invariant-loop-bytes : goal.invariant-loop-bytes
invariant-loop-bytes l = IsAmidFiles (contents l.scenario) l.files l.rest (length l.files - length l.rest) l.kept

abbrev pub decreases-loop-bytes : goal.decreases-loop-bytes
decreases-loop-bytes l = length l.rest
