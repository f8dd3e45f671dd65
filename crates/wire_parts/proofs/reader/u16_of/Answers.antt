use Rattle.std.proofs.Common.{ap, ◌∙◌, ◌≡◌}
use Rattle.byteorder.specs.Endian.{big_number}
use Rattle.wire_parts.specs.Fields.{u16_bytes}
use Rattle.wire_parts.specs.FieldLaws.{u16_bytes-big_number}
use Rattle.wire_parts.proofs.reader.u16_of.Goals as goal

-- the number read is the one whose bytes these are
pub returns : goal.returns
returns c =
    let read : c.read_u16.result ≡ big_number 2 c.args.field.now = c.read_u16.ensures in
    ap u16_bytes read ∙ u16_bytes-big_number c.args.field.now c.requires c.type_inv.field
