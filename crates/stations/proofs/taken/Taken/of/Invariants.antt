use Rattle.std.proofs.Common.{map, take}
use Rattle.world_entries.specs.Entries.{entry_of}
use Rattle.stations.specs.Taken.{AreTaken}
use Rattle.stations.proofs.taken.Taken.of.Given as goal

-- the frames of the entries so far are counted
abbrev pub invariant-loop-entry : goal.invariant-loop-entry
invariant-loop-entry l = AreTaken (map entry_of (take l.entry-index l.entries)) l.taken
