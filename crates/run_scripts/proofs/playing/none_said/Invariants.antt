use Rattle.std.proofs.Common.{◌≡◌, replicate}
use Rattle.run_scripts.proofs.playing.none_said.Given as goal

abbrev pub invariant-loop-actor : goal.invariant-loop-actor
invariant-loop-actor l = l.said.items ≡ replicate l._actor 0
