use Rattle.std.proofs.Common.{◌≡◌, ◌≤◌, ◌*◌}
use Rattle.ots_keys.specs.Digits.{sum_below, missing}
use Rattle.ots_keys.proofs.digits.checksum.Given as goal

abbrev pub invariant-loop-i : goal.invariant-loop-i
invariant-loop-i l = (l.sum ≡ sum_below (missing l.ots l.hash) l.i) × (l.sum ≤ 255 * l.i)
