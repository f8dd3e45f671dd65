use Rattle.std.proofs.Common.{ap, ◌∙◌, ◌≡◌}
use Rattle.byteorder.specs.Endian.{big_number}
use Rattle.wire_parts.specs.Fields.{u64_bytes}
use Rattle.wire_parts.specs.FieldLaws.{u64_bytes-big_number}
use Rattle.wire_parts.proofs.reader.u64_of.Goals as goal

-- the number read is the one whose bytes these are
pub returns : goal.returns
returns c =
    let read : c.read_u64.result ≡ big_number 8 c.args.field.now = c.read_u64.ensures in
    ap u64_bytes read ∙ u64_bytes-big_number c.args.field.now c.requires c.type_inv.field
