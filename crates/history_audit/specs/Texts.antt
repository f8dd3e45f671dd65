-- The different texts of a history and their different digests. (SHA-256 of FIPS 180-4.)
use Rattle.std.specs.Prelude.{◌≡◌, ℕ, ◌+◌, List, [], ◌++◌, map}
use Rattle.std.specs.List.{list_any}
use Rattle.std.specs.Str.{bytes_eq}
use Rattle.sha2.specs.Sha256.{sha256}
use Rattle.indexmap.specs.IndexSet.{contains, index_set_len}
use Rattle.history_rules.specs.Counts.{alike_from}
use Rattle.history_audit.specs.declared.texts.Texts.{Texts}

-- the texts kept, in the order in which they first came
abbrev pub different : Texts → List (List ℕ)
different kept = map (λ text. text.items) kept.texts.keys

-- What is kept of these texts: each once, and each digest once. So the texts with an earlier one's digest are as many
-- as there are more texts than digests, whatever comes after.
pub record AreTexts (given : List (List ℕ)) (kept : Texts) : Type 0 where
  pub counted : (rest : List (List ℕ)) → alike_from [] (given ++ rest) + index_set_len kept.digests ≡ index_set_len
      kept.texts + alike_from (different kept) rest
  pub digests : (digest : List ℕ) →
      contains bytes_eq kept.digests digest ≡ list_any (λ other. bytes_eq digest (sha256 other)) (different kept)
