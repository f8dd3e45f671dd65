use Rattle.std.proofs.Common.{◌≡◌, take}
use Rattle.reconcile.specs.Giving.{numbers_in}
use Rattle.reconcile.proofs.giving.numbers_wanted.Given as goal

-- those of what was gone over so far are there
abbrev pub invariant-loop-one : goal.invariant-loop-one
invariant-loop-one l = l.numbers.items ≡ numbers_in (take l.one-index l.wanted)
