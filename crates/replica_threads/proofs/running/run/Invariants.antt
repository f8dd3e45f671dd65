-- The name stands for the run of these inputs, turns and stamps.
use Rattle.std.proofs.Common.{map}
use Rattle.scenario_file.specs.Reading.{contents}
use Rattle.replica_threads.proofs.running.run.Given as goal

abbrev pub ghosts-run_named : goal.ghosts-run_named
ghosts-run_named g a = record {
  name = record {
    scenario = contents a.course.now.scenario.now;
    inputs =
        map (λ list. list.items) a.inputs.items;
    turns = a.course.now.turns;
    source = a.stamps;
  };
}
