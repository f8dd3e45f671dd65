use Rattle.std.proofs.Common.{◌≡◌, ◌≤◌, ◌*◌, length, map, take}
use Rattle.history_rules.specs.Keeping.{keeper_calls}
use Rattle.world_entries.specs.Entries.{entry_of}
use Rattle.world_history.proofs.halting.calls_of.Given as goal

-- the calls of the entries so far, at most two an entry
abbrev pub invariant-loop-entry : goal.invariant-loop-entry
invariant-loop-entry l =
    (l.calls ≡ length (keeper_calls (map entry_of (take l.entry-index l.entries)))) × (l.calls ≤ 2 * l.entry-index)
