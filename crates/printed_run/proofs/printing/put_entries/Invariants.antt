-- The entries so far have their lines, and can be told.
use Rattle.std.proofs.Common.{◌≡◌, ◌++◌, map, take}
use Rattle.std.specs.Prelude.{string_bytes}
use Rattle.std.specs.List.{flat_map}
use Rattle.scenario_file.specs.Reading.{contents}
use Rattle.world_entries.specs.Entries.{entry_of}
use Rattle.printed_run.specs.Printed.{entry_line}
use Rattle.printed_run.proofs.LookedAt.{AreTold}
use Rattle.printed_run.proofs.printing.put_entries.Given as goal

abbrev pub invariant-loop-entry : goal.invariant-loop-entry
invariant-loop-entry l =
    (string_bytes l.text ≡ string_bytes l.initial.text ++ flat_map (entry_line (contents l.scenario) l.history)
    (map entry_of (take l.entry-index l.entries)))
    × AreTold (contents l.scenario) l.history (map entry_of (take l.entry-index l.entries))
