use Rattle.std.proofs.Common.{arith, ap, length, ◌++◌, ◌∙◌, ◌≡◌, ◌≤◌}
use Rattle.modbus_forms.specs.Replies.{reply_pdu_text}
use Rattle.modbus_forms.proofs.ReplyLaws.{reply_few}
use Rattle.modbus_forms.proofs.write.write_reply.Goals as goal

pub in_frame-requires : goal.in_frame-requires
in_frame-requires c =
    let few : length (reply_pdu_text c.args.reply.now.pdu) ≤ 253 = reply_few c.args.reply.now.pdu c.requires in
    let all : c.deref.result.now ≡ reply_pdu_text c.args.reply.now.pdu =
    c.deref.ensures.value ∙ c.in_ok-put_reply_pdu.ensures ∙ ap (λ front. front ++ reply_pdu_text c.args.reply.now.pdu)
    c.new-pdu.ensures.items in
    omega (arith, few, ap length all)
