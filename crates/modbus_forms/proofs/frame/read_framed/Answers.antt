-- Each test in turn is one of the definition's faults, so a refusal is the first fault of the frame. What
-- passes them all is spelled by its header and the bytes behind it.
use Rattle.std.proofs.Common.{arith, refl, ap, length, sym, ◌∙◌, true, false}
use Rattle.std.proofs.lemmas.Bool.{not-true}
use Rattle.std.proofs.Common.{◌≡◌}
use Rattle.modbus_forms.specs.Frame.{is_size}
use Rattle.modbus_forms.proofs.FrameLaws.{Headed, too_short, other_protocol, no_size, cut, left_over, whole}
use Rattle.modbus_forms.proofs.FrameLaws.{framed_is}
use Rattle.modbus_forms.proofs.frame.read_framed.Goals.{In-Some}
use Rattle.modbus_forms.proofs.frame.read_framed.Goals as goal

pub returns-in_default-clause-fault : goal.returns-in_default-clause-fault
returns-in_default-clause-fault c = too_short _ c.in_default.ensures.short

-- the header's fields are at their places in the frame
header_is : (c : In-Some) →
    Headed c.args.bytes.now c.in-Some.header.protocol c.in-Some.header.size c.in-Some.header.rest.now
header_is c = record {
  long = c.in-Some.ensures.long;
  protocol_is = c.in-Some.ensures.protocol;
  size_is = c.in-Some.ensures.size;
  pdu_is = c.in-Some.ensures.rest;
}

pub returns-then-header-ne0-clause-fault : goal.returns-then-header-ne0-clause-fault
returns-then-header-ne0-clause-fault c =
    other_protocol _ _ _ _ (header_is (goal.at.returns-then-header-ne0-clause-fault c).In-Some) c.if-header-ne0.true

pub returns-then-not-is_message_size-clause-fault : goal.returns-then-not-is_message_size-clause-fault
returns-then-not-is_message_size-clause-fault c =
    let wrong : is_size c.in-Some.header.size ≡ false = cc in
    no_size _ _ _ _ (header_is (goal.at.returns-then-not-is_message_size-clause-fault c).In-Some)
    c.if-header-ne0.false wrong

pub returns-then-bytes-size-clause-fault : goal.returns-then-bytes-size-clause-fault
returns-then-bytes-size-clause-fault c =
    let right : is_size c.in-Some.header.size ≡ true = cc in
    cut _ _ _ _ (header_is (goal.at.returns-then-bytes-size-clause-fault c).In-Some)
    c.if-header-ne0.false right (omega arith)

pub returns-then-bytes-size-2-clause-fault : goal.returns-then-bytes-size-2-clause-fault
returns-then-bytes-size-2-clause-fault c =
    let right : is_size c.in-Some.header.size ≡ true = cc in
    left_over _ _ _ _ (header_is (goal.at.returns-then-bytes-size-2-clause-fault c).In-Some)
    c.if-header-ne0.false right (omega arith)

pub returns-clause-spelled : goal.returns-clause-spelled
returns-clause-spelled c = framed_is _ _ _ _ _ _ c.in-Some.ensures.spelled c.if-header-ne0.false
    (omega arith) c.in-Some.ensures.long

pub returns-clause-faultless : goal.returns-clause-faultless
returns-clause-faultless c =
    let right : is_size c.in-Some.header.size ≡ true = cc in (
      whole _ _ _ _ (header_is (goal.at.returns-clause-faultless c).In-Some) c.if-header-ne0.false right (omega arith),
      c.in-Some.ensures.rest,
    )
