-- The two copies fill the two parts of the array: the hash, and the two bytes of its checksum behind it.
use Rattle.std.proofs.Common.{refl}
use Rattle.wire_parts.specs.Fields.{u16_bytes}
use Rattle.ots_keys.proofs.digits.checked_hash.Goals as goal

pub returns : goal.returns
unfolding u16_bytes
returns c =
    rw (
      c.copy_from_slice.ensures.after,
      c.copy_from_slice-2.ensures.after,
      c.to_be_bytes.ensures,
      c.checksum-sum.ensures,
    ) refl
