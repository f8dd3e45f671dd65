-- Where it is due the acknowledgement pushed is that of the rule.
use Rattle.std.proofs.Common.{◌++◌, [], cond, ◌∙◌, ap, sym}
use Rattle.std.proofs.lemmas.Result.{on_ok_weaker}
use Rattle.protocol_rules.specs.Preorder.{ack_due}
use Rattle.preorder.proofs.lanes.push_ack_if.Goals as goal

pub returns-then-is_due : goal.returns-then-is_due
returns-then-is_due c = λ g known said has. on_ok_weaker c.push_ack.result (λ added.
    added ∙ ap (λ b. c.args.bodies.now.items ++ cond b (ack_due known said c.args.j c.args.k) [])
    (sym c.if-is_due.true)) (c.push_ack.ensures g known said has)
