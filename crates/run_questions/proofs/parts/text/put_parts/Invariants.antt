-- The lines so far are those of the masters gone over, for each history that the benches tell. Which update
-- each has certified doesn't change while they are printed.
use Rattle.std.proofs.Common.{◌≡◌, ◌++◌, List}
use Rattle.std.specs.Prelude.{string_bytes}
use Rattle.std.specs.List.{flat_map}
use Rattle.quorum_sets.specs.Masters.{numbers_below}
use Rattle.scenario_file.specs.Reading.{Contents}
use Rattle.history_rules.specs.Events.{Entry}
use Rattle.world_rules.specs.Scenarios.{masters_in, setup_of}
use Rattle.world_history.specs.Benches.{AreBenches}
use Rattle.run_questions.specs.PartsText.{certified_by, part_if}
use Rattle.run_questions.proofs.PartsInOrder.{lines_of}
use Rattle.run_questions.proofs.parts.text.put_parts.Given as goal

-- the masters so far have their lines
abbrev pub invariant-loop-master : goal.invariant-loop-master
invariant-loop-master l =
    (c : Contents) (history : List Entry) → AreBenches c history l.benches → l.sizes.n ≡ masters_in c
    → string_bytes l.text ≡ string_bytes l.initial.text
    ++ lines_of (flat_map (λ master. part_if l.sizes.f l.digest master
    (certified_by (setup_of c) history l.request.originator l.request.number master)) (numbers_below l.master))
