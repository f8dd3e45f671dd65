use Rattle.std.proofs.Common.{◌≡◌}
use Rattle.quorum_sets.specs.Masters.{numbers_below}
use Rattle.run_scripts.proofs.steps.numbers_below.Given as goal

abbrev pub invariant-loop-number : goal.invariant-loop-number
invariant-loop-number l = l.numbers.items ≡ numbers_below l.number
