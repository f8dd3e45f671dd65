-- Seven bytes hold three numbers of two bytes and one of one, so none of the readings can run short. Each field
-- is the one that the definition finds at its place in the whole frame.
use Rattle.std.proofs.Common.{arith, refl, ap, length, take, drop, ◌++◌, sym, ◌∙◌}
use Rattle.modbus_forms.proofs.FieldsIn.{left_is, header_is}
use Rattle.modbus_forms.proofs.FrameLaws.{Headed, headed}
use Rattle.modbus_forms.proofs.frame.read_header.Goals as goal

fields_are : (c : goal.In-Ok-u8) →
    Headed c.args.bytes.now c.in-Ok-u16.protocol c.in-Ok-u16-2.size c.split_at.result.1.now
fields_are c =
    headed _ _ _ _ _ _ (omega arith) (omega arith)
    (header_is _ _ _ _ _ _ _ _ _ _ _ (c.over-reader.ensures.rest ∙ c.split_at.ensures.front) c.split_at.ensures.back
    (ap length (sym c.split_at.ensures.front) ∙ c.split_at.ensures.front_len)
    c.in-Ok.ensures.taken c.in-Ok-u16.ensures.taken c.in-Ok-u16-2.ensures.taken c.in-Ok-u8.ensures.taken)

pub returns-in_default-u16-clause-short : goal.returns-in_default-u16-clause-short
returns-in_default-u16-clause-short c =
    let a = left_is _ _ _ c.in-Ok.ensures.taken in
    absurd (omega (
      arith,
      a,
      ap length c.over-reader.ensures.rest,
      c.split_at.ensures.front_len,
      c.in_default-u16.ensures.short.0 refl,
    ))

pub returns-in_default-u16-2-clause-short : goal.returns-in_default-u16-2-clause-short
returns-in_default-u16-2-clause-short c =
    let a = left_is _ _ _ c.in-Ok.ensures.taken in
    let b = left_is _ _ _ c.in-Ok-u16.ensures.taken in
    absurd (omega (
      arith,
      a,
      b,
      ap length c.over-reader.ensures.rest,
      c.split_at.ensures.front_len,
      c.in_default-u16-2.ensures.short.0 refl,
    ))

pub returns-in_default-u8-clause-short : goal.returns-in_default-u8-clause-short
returns-in_default-u8-clause-short c =
    let a = left_is _ _ _ c.in-Ok.ensures.taken in
    let b = left_is _ _ _ c.in-Ok-u16.ensures.taken in
    let d = left_is _ _ _ c.in-Ok-u16-2.ensures.taken in
    absurd (omega (
      arith,
      a,
      b,
      d,
      ap length c.over-reader.ensures.rest,
      c.split_at.ensures.front_len,
      c.in_default-u8.ensures.short.0 refl,
    ))

pub returns-clause-spelled : goal.returns-clause-spelled
returns-clause-spelled c =
    header_is _ _ _ _ _ _ _ _ _ _ _ (c.over-reader.ensures.rest ∙ c.split_at.ensures.front) c.split_at.ensures.back
    (ap length (sym c.split_at.ensures.front) ∙ c.split_at.ensures.front_len)
    c.in-Ok.ensures.taken c.in-Ok-u16.ensures.taken c.in-Ok-u16-2.ensures.taken c.in-Ok-u8.ensures.taken

pub returns-clause-protocol : goal.returns-clause-protocol
returns-clause-protocol c = (fields_are c).protocol_is

pub returns-clause-size : goal.returns-clause-size
returns-clause-size c = (fields_are c).size_is

pub returns-clause-rest : goal.returns-clause-rest
returns-clause-rest c = (fields_are c).pdu_is

pub returns-clause-long : goal.returns-clause-long
returns-clause-long c = (fields_are c).long
