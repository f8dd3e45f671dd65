use Rattle.std.proofs.Common.{arith, ap, length, ◌++◌, ◌∙◌, ◌≡◌, ◌≤◌}
use Rattle.modbus_forms.specs.Requests.{request_pdu_text}
use Rattle.modbus_forms.proofs.RequestLaws.{request_few}
use Rattle.modbus_forms.proofs.write.write_request.Goals as goal

pub in_frame-requires : goal.in_frame-requires
in_frame-requires c =
    let few : length (request_pdu_text c.args.request.now.pdu) ≤ 253 = request_few c.args.request.now.pdu c.requires in
    let all : c.deref.result.now ≡ request_pdu_text c.args.request.now.pdu =
    c.deref.ensures.value ∙ c.in_ok-put_request_pdu.ensures
    ∙ ap (λ front. front ++ request_pdu_text c.args.request.now.pdu) c.new-pdu.ensures.items in
    omega (arith, few, ap length all)
