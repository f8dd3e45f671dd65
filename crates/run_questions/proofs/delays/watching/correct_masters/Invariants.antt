use Rattle.std.proofs.Common.{◌≡◌, filter}
use Rattle.quorum_sets.specs.Masters.{numbers_below}
use Rattle.scenario_file.specs.Reading.{contents}
use Rattle.history_rules.specs.Setup.{is_correct_master}
use Rattle.world_rules.specs.Scenarios.{setup_of}
use Rattle.run_questions.proofs.delays.watching.correct_masters.Given as goal

-- the correct ones so far
abbrev pub invariant-loop-master : goal.invariant-loop-master
invariant-loop-master l =
    l.masters.items ≡ filter (is_correct_master (setup_of (contents l.scenario))) (numbers_below l.master)
