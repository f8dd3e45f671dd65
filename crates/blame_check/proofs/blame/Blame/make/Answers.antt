use Rattle.std.proofs.Common.{refl}
use Rattle.blame_check.proofs.Taken.{none_taken}
use Rattle.blame_check.proofs.blame.Blame.make.Goals as goal

pub returns : goal.returns
returns c = none_taken c.args.sizes.n _ refl c.new.ensures.empty c.new-2.ensures.items
