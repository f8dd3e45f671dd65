use Rattle.made_inputs.proofs.MadeHeights.{five_is_made}
use Rattle.made_inputs.proofs.keys.public_keys.Goals as goal

pub ring_of-requires-clause-heights : goal.ring_of-requires-clause-heights
ring_of-requires-clause-heights c = five_is_made
