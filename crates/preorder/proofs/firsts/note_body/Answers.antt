-- An acknowledgement settles the first request of its number, and a body of another kind settles none.
use Rattle.std.proofs.Common.{◌++◌, ◌∷◌, [], sym, ◌∙◌, ap, subst}
use Rattle.message_types.specs.declared.body.Body.{Body}
use Rattle.protocol_rules.specs.Preorder.{acks}
use Rattle.preorder.specs.Index.{HasFirsts}
use Rattle.preorder.proofs.Settling.{firsts-acked, firsts-passed}
use Rattle.preorder.proofs.firsts.note_body.Goals as goal

pub returns-in-PoAck : goal.returns-in-PoAck
returns-in-PoAck c = λ g known said only has.
    subst (λ (word : Body). HasFirsts g known (said ++ word ∷ []) c.note_acked.new.firsts.entries) (sym c.in-PoAck.is)
    (firsts-acked g known said c.in-PoAck.ack c.args.firsts.now.entries c.note_acked.new.firsts.entries
    (λ j k none. ap (acks j k) (sym c.in-PoAck.is) ∙ only j k none) c.note_acked.ensures has)

pub returns-in_default : goal.returns-in_default
returns-in_default c = λ g known said only has. firsts-passed g known said c.args.body.now c.args.firsts.now.entries
    c.in_default.not-PoAck has
