use Rattle.std.proofs.Common.{◌≡◌, take}
use Rattle.run_scripts.proofs.posting.as_actors.Given as goal

abbrev pub invariant-loop-actor : goal.invariant-loop-actor
invariant-loop-actor l = l.made ≡ take l.actor-index l.to
