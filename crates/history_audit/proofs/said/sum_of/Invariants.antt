use Rattle.std.proofs.Common.{◌≡◌, take}
use Rattle.history_audit.specs.Said.{sum_of}
use Rattle.history_audit.proofs.said.sum_of.Given as goal

abbrev pub invariant-loop-number : goal.invariant-loop-number
invariant-loop-number l = l.sum ≡ sum_of (take l.number-index l.numbers)
