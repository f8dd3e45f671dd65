use Rattle.std.proofs.Common.{◌≡◌, map, take}
use Rattle.scenario_file.specs.Reading.{contents}
use Rattle.history_picture.specs.Marks.{lane_of}
use Rattle.history_picture.proofs.happened.lanes_of.Given as goal

-- those of the benches so far
abbrev pub invariant-loop-bench : goal.invariant-loop-bench
invariant-loop-bench l = l.lanes.items ≡ map (lane_of (contents l.scenario)) (take l.bench-index l.benches)
