-- Digests are SHA-256 of texts (FIPS 180-4).
use Rattle.std.specs.Prelude.{ℕ, List}
use Rattle.sha2.specs.Sha256.{sha256}
use Rattle.message_types.specs.declared.updates.Update.{Update}
use Rattle.message_types.specs.Texts.{update_text, rows_text}

-- of an update: the digest of its text
unfoldable pub digest_of_update : Update → List ℕ
digest_of_update u = sha256 (update_text u)

-- of rows: the digest of their text
unfoldable pub digest_of_rows : List (List ℕ) → List ℕ
digest_of_rows rows = sha256 (rows_text rows)
