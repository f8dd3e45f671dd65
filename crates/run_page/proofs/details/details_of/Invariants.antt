use Rattle.std.proofs.Common.{◌≡◌, ◌++◌, take, drop}
use Rattle.std.specs.Prelude.{string_bytes}
use Rattle.scenario_file.specs.Reading.{contents}
use Rattle.world_history.specs.Benches.{benches_of}
use Rattle.run_page.specs.Details.{details_from, details_in}
use Rattle.run_page.proofs.details.details_of.Given as goal

-- the benches are those of the entries so far, and with the details of the rest all would be told
abbrev pub invariant-loop-entry : goal.invariant-loop-entry
invariant-loop-entry l =
    (l.benches.items ≡ benches_of (contents l.scenario) (take l.entry-index l.history))
    × (string_bytes l.text ++ details_from (contents l.scenario) (take l.entry-index l.history)
    (drop l.entry-index l.history) ≡ details_in (contents l.scenario) l.history)
