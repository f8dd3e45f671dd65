-- What is worth a prepare is what is due up to the last number worth one.
use Rattle.std.proofs.Common.{◌++◌, ◌∙◌, ap}
use Rattle.protocol_rules.specs.Order.{commits_due, marks_due}
use Rattle.leader_proposals.proofs.worth.due_worthy.Goals as goal

pub returns-clause-due : goal.returns-clause-due
returns-clause-due c = λ g facts said is sizes told.
    c.in_ok-bodies.ensures.due g facts said is
    ∙ ap (λ xs. xs ++ commits_due g facts said c.args.view ++ marks_due g facts said)
    (c.last_worthy-last.ensures g facts said is sizes told)
