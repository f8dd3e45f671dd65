-- The rules of the sizes are those of the group, so each set of rules has its own function.
use Rattle.std.proofs.Common.{sym, ◌∙◌, ap}
use Rattle.std.proofs.lemmas.Result.{IfOk-weaker}
use Rattle.protocol_rules.specs.Group.{is_live}
use Rattle.master_answers.proofs.replica_state.ReplicaState.answer.Goals as goal

pub answer_alive-requires-clause-alive : goal.answer_alive-requires-clause-alive
answer_alive-requires-clause-alive c =
    let k = c.requires.replica.is_replica.knows in
    ap is_live k.preorder.group ∙ sym (c.are_live.ensures c.requires.replica.group k.rules) ∙ c.if-are_live.true

pub answer_first-requires-clause-first : goal.answer_first-requires-clause-first
answer_first-requires-clause-first c =
    let k = c.requires.replica.is_replica.knows in
    ap is_live k.preorder.group ∙ sym (c.are_live.ensures c.requires.replica.group k.rules) ∙ c.if-are_live.false

pub returns-clause-answers : goal.returns-clause-answers
returns-clause-answers c = IfOk-weaker c.answer_first.result _ _
    (λ bodies first g orders me before took asked. first g orders me before took) c.answer_first.ensures.answers

pub returns-clause-is_replica : goal.returns-clause-is_replica
returns-clause-is_replica c = IfOk-weaker c.answer_first.result _ _
    (λ bodies first g orders me before took asked. first g orders me before took) c.answer_first.ensures.is_replica
