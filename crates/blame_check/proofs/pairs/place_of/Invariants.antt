use Rattle.std.proofs.Common.{◌≡◌, false, take}
use Rattle.std.specs.List.{list_any}
use Rattle.blame_check.proofs.Rising.{above}
use Rattle.blame_check.proofs.pairs.place_of.Given as goal

-- none so far is of a later master
abbrev pub invariant-loop-place : goal.invariant-loop-place
invariant-loop-place l = list_any (above l.fn.master) (take l.place l.pairs) ≡ false
