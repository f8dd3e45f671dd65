-- The chosen parts so far.
use Rattle.std.proofs.Common.{◌≡◌, take}
use Rattle.parity_parts.proofs.rebuilding.followed_by.Given as goal

abbrev pub invariant-loop-other : goal.invariant-loop-other
invariant-loop-other l = l.all.items ≡ take l.other-index l.chosen
