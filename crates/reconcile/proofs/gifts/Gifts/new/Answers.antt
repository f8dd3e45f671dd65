use Rattle.reconcile.proofs.Keeping.{none_taken}
use Rattle.reconcile.proofs.gifts.Gifts.new.Goals as goal

pub returns : goal.returns
returns c = λ g masters quorum. none_taken g _ masters quorum c.new.ensures.empty c.new-2.ensures.empty
