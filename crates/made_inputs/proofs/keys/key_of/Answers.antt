use Rattle.made_inputs.proofs.MadeHeights.{five_is_made}
use Rattle.made_inputs.proofs.keys.key_of.Goals as goal

pub actor_key-requires-clause-heights : goal.actor_key-requires-clause-heights
actor_key-requires-clause-heights c = five_is_made
