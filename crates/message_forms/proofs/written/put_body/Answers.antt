-- Four zeros hold the place of the length, and once the body stands behind them they are replaced by how long
-- it is. So what was appended is the length of the body's text, and the text.
use Rattle.std.proofs.Common.{◌≡◌, length, arith}
use Rattle.wire_parts.specs.FieldLaws.{length-u32_bytes}
use Rattle.message_forms.proofs.FrameLemmas.{filled_is, room_for_length}
use Rattle.message_forms.proofs.written.put_body.Goals as goal

pub set_length-requires : goal.set_length-requires
set_length-requires g c =
    let here : c.len-at.result ≡ length c.args.out.now.items = omega (arith, c.len-at.ensures, c.args.out.now.ok) in
    room_for_length _ _ _ _ _ _ (length-u32_bytes 0) here c.in_ok-put_u32.ensures.ok c.in_ok-put.ensures

pub returns : goal.returns
returns g c =
    let here : c.len-at.result ≡ length c.args.out.now.items = omega (arith, c.len-at.ensures, c.args.out.now.ok) in
    filled_is _ _ _ _ _ _ _ (length-u32_bytes 0) here c.in_ok-put_u32.ensures.ok c.in_ok-put.ensures
    c.in_ok-set_length.ensures
