-- The one form that all hashes of RFC 8554 have, with SHA-256 as H.
use Rattle.std.specs.Prelude.{ℕ, List, ◌++◌}
use Rattle.sha2.specs.Sha256.{sha256}
use Rattle.wire_parts.specs.Fields.{u16_bytes, u32_bytes}

-- H(I || u32str(number) || u16str(tag) || text) under the key pair's identifier I
unfoldable pub hash_under : List ℕ → ℕ → ℕ → List ℕ → List ℕ
hash_under id number tag text = sha256 (id ++ u32_bytes number ++ u16_bytes tag ++ text)
