-- A signature is the type code, the randomizer and the elements, one behind the other, each appended as the
-- definition has it.
use Rattle.std.proofs.Common.{refl}
use Rattle.ots_keys.specs.Keys.{signature}
use Rattle.ots_keys.proofs.keys.ots_sign.Goals as goal

pub returns : goal.returns
unfolding signature
returns c =
    rw (
      c.in_ok-put_elements.ensures,
      c.in_ok-put_bytes.ensures.ok,
      c.in_ok-put_u32.ensures.ok,
      c.in_ok-sig.ensures.items,
      c.type_code.ensures,
      c.hash_parts-hash.ensures,
      c.randomizer-c.ensures,
    ) refl
