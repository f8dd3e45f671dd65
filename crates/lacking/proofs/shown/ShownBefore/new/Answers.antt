use Rattle.lacking.proofs.Fourths.{none_shown}
use Rattle.lacking.proofs.shown.ShownBefore.new.Goals as goal

pub returns : goal.returns
returns c g few = none_shown g _ c.none.ensures c.none-2.ensures few
