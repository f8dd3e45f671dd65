use Rattle.frame_tests.proofs.MadeHeights.{five_is_made}
use Rattle.frame_tests.proofs.actors.ring_of_five.Goals as goal

pub ring_of-requires-clause-heights : goal.ring_of-requires-clause-heights
ring_of-requires-clause-heights c = five_is_made
