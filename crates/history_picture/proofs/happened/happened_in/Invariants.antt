use Rattle.std.proofs.Common.{◌≡◌, ◌++◌, take, drop}
use Rattle.scenario_file.specs.Reading.{contents}
use Rattle.world_history.specs.Benches.{benches_of}
use Rattle.history_picture.specs.Marks.{marks_from, marks_in}
use Rattle.history_picture.proofs.happened.happened_in.Given as goal

-- the benches are those of the entries so far, and with the marks of the rest all would be marked
abbrev pub invariant-loop-entry : goal.invariant-loop-entry
invariant-loop-entry l =
    (l.benches.items ≡ benches_of (contents l.scenario) (take l.entry-index l.history))
    × (l.marks.items ++ marks_from (contents l.scenario) l.history (take l.entry-index l.history)
    (drop l.entry-index l.history) ≡ marks_in (contents l.scenario) l.history)
