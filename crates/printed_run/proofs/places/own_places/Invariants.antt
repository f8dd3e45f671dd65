use Rattle.std.proofs.Common.{◌≡◌, [], map, take}
use Rattle.quorum_sets.specs.Masters.{numbers_below}
use Rattle.world_entries.specs.Entries.{entry_of}
use Rattle.printed_run.specs.Places.{places_from}
use Rattle.printed_run.proofs.FramesOfEntries.{count_of}
use Rattle.printed_run.proofs.places.own_places.Given as goal

-- the places of the entries so far, and how many each actor has of them
abbrev pub invariant-loop-entry : goal.invariant-loop-entry
invariant-loop-entry l =
    (l.places.items ≡ places_from [] (map entry_of (take l.entry-index l.entries)))
    × (l.counts.items ≡ map (count_of (map entry_of (take l.entry-index l.entries))) (numbers_below l.actors))
