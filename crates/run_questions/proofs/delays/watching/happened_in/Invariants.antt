use Rattle.std.proofs.Common.{◌≡◌, ◌++◌, take, drop}
use Rattle.scenario_file.specs.Reading.{contents}
use Rattle.world_history.specs.Benches.{benches_of}
use Rattle.run_questions.specs.DelaysText.{happened_from, happened_in}
use Rattle.run_questions.proofs.delays.watching.happened_in.Given as goal

-- the benches are those of the entries so far, and with what happens at the rest all would have happened
abbrev pub invariant-loop-entry : goal.invariant-loop-entry
invariant-loop-entry l =
    (l.benches.items ≡ benches_of (contents l.scenario) (take l.entry-index l.history))
    × (l.happened.items ++ happened_from (contents l.scenario) (take l.entry-index l.history)
    (drop l.entry-index l.history) ≡ happened_in (contents l.scenario) l.history)
