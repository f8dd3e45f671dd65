-- One signature over several bodies (this project's own, after Merkle): what is signed is a mark that is no
-- body's kind, how many bodies there are, and the root of the tree over their hashes.
use Rattle.std.specs.Prelude.{ℕ, List, ◌++◌}
use Rattle.wire_parts.specs.Fields.{u16_bytes}

unfoldable pub batch_message : ℕ → List ℕ → List ℕ
batch_message count root = u16_bytes 0x00f1 ++ u16_bytes count ++ root
