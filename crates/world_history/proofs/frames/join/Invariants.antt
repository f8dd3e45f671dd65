use Rattle.std.proofs.Common.{◌≡◌, take}
use Rattle.world_history.specs.Signed.{frames_with}
use Rattle.world_history.proofs.frames.join.Given as goal

abbrev pub invariant-loop-place : goal.invariant-loop-place
invariant-loop-place l = l.frames.items ≡ frames_with l.actor (take l.place l.bodies) (take l.place l.signatures)
