use Rattle.spire.proofs.MadeHeights.{five_is_made}
use Rattle.spire.proofs.raw.refusal_of.Goals as goal

pub ring_of-requires-clause-heights : goal.ring_of-requires-clause-heights
ring_of-requires-clause-heights c = five_is_made
