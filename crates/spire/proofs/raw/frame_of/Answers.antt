use Rattle.spire.proofs.MadeHeights.{five_is_made}
use Rattle.spire.proofs.raw.frame_of.Goals as goal

pub actor_key-requires-clause-heights : goal.actor_key-requires-clause-heights
actor_key-requires-clause-heights c = five_is_made
