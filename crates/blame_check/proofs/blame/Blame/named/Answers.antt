use Rattle.std.proofs.Common.{◌∙◌}
use Rattle.blame_check.proofs.blame.Blame.named.Goals as goal

pub returns : goal.returns
returns c = λ n words has. c.as_slice.ensures.value ∙ has.pairs
