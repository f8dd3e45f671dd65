use Rattle.std.proofs.Common.{◌≡◌, map}
use Rattle.quorum_sets.specs.Masters.{numbers_below}
use Rattle.checked_frames.specs.Heads.{head_through}
use Rattle.checked_frames.proofs.signing.heads_of.Given as goal

abbrev pub invariant-loop-place : goal.invariant-loop-place
invariant-loop-place l = l.heads.items ≡ map (head_through l.levels l.count) (numbers_below l.place)
