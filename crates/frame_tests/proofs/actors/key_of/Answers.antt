use Rattle.frame_tests.proofs.MadeHeights.{five_is_made}
use Rattle.frame_tests.proofs.actors.key_of.Goals as goal

pub actor_key-requires-clause-heights : goal.actor_key-requires-clause-heights
actor_key-requires-clause-heights c = five_is_made
