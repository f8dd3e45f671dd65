-- An open view is due as far as its window goes, one that isn't open no further than number 0.
use Rattle.std.proofs.Common.{cond, ◌++◌, ◌∙◌, ap}
use Rattle.protocol_rules.specs.Order.{commits_due, marks_due}
use Rattle.global_order.proofs.Saying.{opened-are}
use Rattle.global_order.proofs.order.Order.due.Goals as goal

pub returns-clause-due : goal.returns-clause-due
returns-clause-due c g facts said is =
    c.in_ok-bodies.ensures.due g facts said is
    ∙ ap (λ xs. xs ++ commits_due g facts said c.args.view ++ marks_due g facts said)
    (opened-are g facts said c.args.view c.last_open-last.result c.args.is_open
    (c.last_open-last.ensures ∙ ap (λ n. cond c.args.is_open n 0) (c.window_end.ensures g facts said is)))
