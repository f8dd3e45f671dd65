use Rattle.std.proofs.Common.{◌≡◌, false, take}
use Rattle.std.specs.List.{list_any}
use Rattle.blame_check.proofs.Rising.{is_of}
use Rattle.blame_check.proofs.pairs.is_named.Given as goal

-- none so far is the master's
abbrev pub invariant-loop-pair : goal.invariant-loop-pair
invariant-loop-pair l = list_any (is_of l.fn.master) (take l.pair-index l.pairs) ≡ false
