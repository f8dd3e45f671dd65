use Rattle.std.proofs.Common.{◌≡◌, length, map}
use Rattle.std.specs.List.{list_any}
use Rattle.world_entries.specs.Entries.{entry_of}
use Rattle.joined_histories.specs.Order.{says}
use Rattle.joined_histories.proofs.waits.was_said.Given as goal

-- it is said among all just where it is among those left
abbrev pub invariant-loop-last : goal.invariant-loop-last
invariant-loop-last l = list_any (says l.body) (map entry_of l.entries) ≡ list_any (says l.body) (map entry_of l.rest)

abbrev pub decreases-loop-last : goal.decreases-loop-last
decreases-loop-last l = length l.rest
