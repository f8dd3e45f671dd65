use Rattle.std.proofs.Common.{◌≡◌, take}
use Rattle.scenario_file.proofs.keepers.widened.Given as goal

abbrev pub invariant-loop-call : goal.invariant-loop-call
invariant-loop-call l = l.wide ≡ take l.call-index l.calls
