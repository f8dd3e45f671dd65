use Rattle.reconcile.proofs.Sets.{one_put, one_at}
use Rattle.reconcile.proofs.asks.count.Goals as goal

pub returns-in_ok-insert-clause-ok : goal.returns-in_ok-insert-clause-ok
returns-in_ok-insert-clause-ok c = λ w. one_put c.args.asked.now c.insert.new.self c.args.wanted c.in-Some.wanted w
    c.in-Some.is c.in_ok-insert.ensures.updates

pub returns-in_ok-insert-clause-place : goal.returns-in_ok-insert-clause-place
returns-in_ok-insert-clause-place c =
    one_at c.args.asked.now.keys c.insert.new.self.keys c.args.wanted c.in-Some.wanted c.in-Some.is
    c.in_ok-insert.ensures.keys
