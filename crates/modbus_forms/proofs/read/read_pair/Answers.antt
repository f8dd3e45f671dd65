-- Four bytes are two numbers of two bytes, so after the first there is enough for the second. Each is the
-- number that stands at its place.
use Rattle.std.proofs.Common.{arith, refl, ap, length}
use Rattle.modbus_forms.proofs.FieldsIn.{first_is, second_is, pair_is, none_short, left_is}
use Rattle.modbus_forms.proofs.read.read_pair.Goals as goal

pub returns-in_default-u16-clause-fault : goal.returns-in_default-u16-clause-fault
returns-in_default-u16-clause-fault c =
    let four = none_short c.args.rest.now _ _ _ c.over-reader.ensures.rest (omega (arith, c.if-rest-ne4.false))
    c.in-Ok.ensures.taken in
    (refl, absurd (omega (arith, four, c.in_default-u16.ensures.short.0 refl)))

pub returns-clause-spelled : goal.returns-clause-spelled
returns-clause-spelled c = pair_is _ _ _ _ _ _ c.over-reader.ensures.rest c.if-rest-ne4.false c.in-Ok.ensures.taken
    c.in-Ok-u16.ensures.taken

pub returns-clause-first : goal.returns-clause-first
returns-clause-first c = first_is _ _ _ _ c.over-reader.ensures.rest (omega arith) c.in-Ok.ensures.taken

pub returns-clause-second : goal.returns-clause-second
returns-clause-second c = second_is _ _ _ _ _ _ c.over-reader.ensures.rest (omega arith)
    c.in-Ok.ensures.taken c.in-Ok-u16.ensures.taken
