use Rattle.std.proofs.Common.{◌≡◌, ◌-◌, ◌≤◌}
use Rattle.interlocks.specs.Formula.{formula, negated}
use Rattle.interlocks.proofs.tree.not.Given as goal

abbrev pub invariant-loop : goal.invariant-loop
invariant-loop l = (negated (l.nots - l.counter) (formula l.tree) ≡ negated l.nots (formula l.fn.part))
    × (l.counter ≤ l.nots)
