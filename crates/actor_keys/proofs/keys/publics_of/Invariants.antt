use Rattle.std.proofs.Common.{◌≡◌}
use Rattle.actor_keys.specs.Keys.{public_keys}
use Rattle.actor_keys.proofs.keys.publics_of.Given as goal

abbrev pub invariant-loop-actor : goal.invariant-loop-actor
invariant-loop-actor l = l.publics.items ≡ public_keys l.seed l.heights l.actor
