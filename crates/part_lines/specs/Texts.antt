-- A text of parts: the digest of a text, and the parts of it that masters have, a line each; and what is printed of a
-- text that is rebuilt from such lines. (This project's own.)
use Rattle.std.specs.Prelude.{ℕ, List, [], ◌∷◌, ◌++◌, codes, decimal}
use Rattle.std.specs.List.{flat_map}
use Rattle.hex.specs.Hex.{encode_lower}
use Rattle.parity_parts.specs.declared.part.Part.{Part}

-- the words of each kind of line: a digest; a part, by its master, the text's length and the part's bytes; a text; and
-- a master whose part is wrong
abbrev pub digest_words : List ℕ → List (List ℕ)
digest_words digest = codes "digest" ∷ encode_lower digest ∷ []

abbrev pub part_words : Part → List (List ℕ)
part_words part = (codes "m" ++ decimal part.master) ∷ decimal part.length ∷ encode_lower part.bytes ∷ []

abbrev pub text_words : List ℕ → List (List ℕ)
text_words text = codes "text" ∷ encode_lower text ∷ []

abbrev pub wrong_words : ℕ → List (List ℕ)
wrong_words master = codes "wrong" ∷ (codes "m" ++ decimal master) ∷ []

-- words with one space between each two
abbrev pub spaced : List (List ℕ) → List ℕ
spaced [] = []
spaced (word ∷ []) = word
spaced (word ∷ next ∷ more) = word ++ 32 ∷ spaced (next ∷ more)

-- a line ends with a line feed
unfoldable pub line_of : List (List ℕ) → List ℕ
line_of words = spaced words ++ codes "\n"

-- a digest, and parts behind it
abbrev pub parts_text : List ℕ → List Part → List ℕ
parts_text digest parts = line_of (digest_words digest) ++ flat_map (λ part. line_of (part_words part)) parts

-- a text, and the masters whose parts aren't its
abbrev pub rebuilt_lines : List ℕ → List ℕ → List ℕ
rebuilt_lines text wrong = line_of (text_words text) ++ flat_map (λ master. line_of (wrong_words master)) wrong
