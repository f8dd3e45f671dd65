-- The first counts and then the others. Where memory runs out further on, the first is taken back if it was new, so the set
-- is as before.
use Rattle.std.proofs.Common.{◌||◌, ◌-◌, get_or, length, List, take, drop, ap, sym, ◌∙◌}
use Rattle.std.specs.BTreeMap.{is_at}
use Rattle.std.specs.Set.{remove_key}
use Rattle.reconcile.specs.declared.wanted.Wanted.{Wanted}
use Rattle.reconcile.specs.declared.wanted.Wanted.TheVariants.{Request}
use Rattle.reconcile.specs.Asking.{is_among}
use Rattle.reconcile.specs.Again.{is_one_of}
use Rattle.reconcile.proofs.Order.{order}
use Rattle.reconcile.proofs.Repeated.{opened, counted_more, taken_back}
use Rattle.reconcile.proofs.again.+count_each.Goals as goal

pub returns-in-Ok-clause-ok : goal.returns-in-Ok-clause-ok
returns-in-Ok-clause-ok t c = λ w.
    counted_more c.args.asked.now c.insert.new.self c.count_each.new.asked.keys (get_or c.args.wanted.now 0 (Request 0 0))
    w (take (length c.args.wanted.now - 1) (drop 1 c.args.wanted.now)) c.in_ok-is_new.ensures.updates
    (c.in-Ok.ensures.ok w)
    ∙ ap (λ (l : List Wanted). is_one_of l w || is_among c.args.asked.now.keys w)
    (sym (opened c.args.wanted.now (Request 0 0) c.in-len1-up.len_at_least))

pub returns-then-is_new-clause-err : goal.returns-then-is_new-clause-err
returns-then-is_new-clause-err t c =
    taken_back c.args.asked.now c.insert.new.self.keys c.remove.new.self.keys _ c.in_ok-is_new.is_new
    c.in_ok-is_new.ensures.keys c.in_ok-is_new.ensures.added c.if-is_new.true
    (c.remove.ensures.keys ∙ ap (remove_key (is_at (order _))) c.in-Err.ensures.err)
