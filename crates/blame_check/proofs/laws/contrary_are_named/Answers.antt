use Rattle.blame_check.proofs.Worth.{contrary_are_named}
use Rattle.blame_check.proofs.laws.contrary_are_named.Goals as goal

pub returns : goal.returns
returns c = contrary_are_named
