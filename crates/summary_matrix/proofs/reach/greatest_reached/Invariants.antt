use Rattle.std.proofs.Common.{◌≡◌, take}
use Rattle.summary_matrix.proofs.Greatest.{reached}
use Rattle.summary_matrix.proofs.reach.greatest_reached.Given as goal

abbrev pub invariant-loop-number : goal.invariant-loop-number
invariant-loop-number l = l.greatest ≡ reached l.q l.numbers (take l.number-index l.numbers)
