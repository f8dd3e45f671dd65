use Rattle.std.proofs.Common.{◌≡◌, ◌∙◌, ap}
use Rattle.byteorder.specs.Endian.{big_number}
use Rattle.wire_parts.specs.Fields.{u32_bytes}
use Rattle.wire_parts.specs.FieldLaws.{u32_bytes-big_number}
use Rattle.tree_keys.proofs.public_key.number_of.Goals as goal

pub returns : goal.returns
returns c =
    let read : c.read_u32.result ≡ big_number 4 c.args.field.now = c.read_u32.ensures in
    ap u32_bytes read ∙ u32_bytes-big_number c.args.field.now c.requires c.type_inv.field
