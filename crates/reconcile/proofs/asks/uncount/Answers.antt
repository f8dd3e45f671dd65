use Rattle.reconcile.proofs.Sets.{one_removed}
use Rattle.reconcile.proofs.asks.uncount.Goals as goal

pub returns-in-Some : goal.returns-in-Some
returns-in-Some c = one_removed c.args.asked.now.keys c.remove.new.self.keys c.args.wanted c.in-Some.wanted
    c.in-Some.is c.remove.ensures.keys
