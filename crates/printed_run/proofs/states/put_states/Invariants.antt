use Rattle.std.proofs.Common.{◌≡◌, ◌++◌, take}
use Rattle.std.specs.Prelude.{string_bytes}
use Rattle.std.specs.List.{flat_map}
use Rattle.scenario_file.specs.Reading.{contents}
use Rattle.printed_run.specs.Printed.{bench_lines}
use Rattle.printed_run.proofs.states.put_states.Given as goal

-- the benches so far have their lines
abbrev pub invariant-loop-bench : goal.invariant-loop-bench
invariant-loop-bench l =
    string_bytes l.text ≡ string_bytes l.initial.text ++ flat_map (bench_lines (contents l.scenario))
    (take l.bench-index l.benches)
