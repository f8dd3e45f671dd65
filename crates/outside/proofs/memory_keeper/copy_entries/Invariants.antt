use Rattle.std.proofs.Common.{◌≡◌, take}
use Rattle.outside.specs.Keepers.{lists_of}
use Rattle.outside.proofs.memory_keeper.copy_entries.Given as goal

-- the entries so far are copied
abbrev pub invariant-loop-entry : goal.invariant-loop-entry
invariant-loop-entry l = lists_of l.given.items ≡ lists_of (take l.entry-index l.entries)
