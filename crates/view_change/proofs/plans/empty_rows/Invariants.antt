use Rattle.std.proofs.Common.{◌≡◌, map}
use Rattle.quorum_sets.specs.Masters.{numbers_below}
use Rattle.view_change.proofs.Best.{no_row}
use Rattle.view_change.proofs.plans.empty_rows.Given as goal

abbrev pub invariant-loop-master : goal.invariant-loop-master
invariant-loop-master l = l.rows ≡ map no_row (numbers_below l._master)
