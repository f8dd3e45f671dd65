-- What a text of parts tells: a digest, and parts whose masters rise. (This project's own.)
use Rattle.std.specs.Prelude.{◌≡◌, ℕ, ◌+◌, ◌-◌, ◌==◌, codes, Bool, if◌then◌else◌, List, [], ◌∷◌, length, nat_eq}
use Rattle.std.specs.Prelude.{nat_le, Result, Ok, Err}
use Rattle.std.specs.Str.{bytes_eq, is_utf8}
use Rattle.hex.specs.Hex.{decode_of, decode_sized}
use Rattle.parity_parts.specs.declared.part.Part.{Part}
use Rattle.parity_parts.specs.declared.limits.TheConstants.{MOST_TEXT_BYTES}
use Rattle.parity_parts.specs.Parts.{width}
use Rattle.script_grammar.specs.Faults.{Answer, bad, both}
use Rattle.script_grammar.specs.Lines.{words_of}
use Rattle.script_grammar.specs.Numbers.{number_in, hex_bytes}
use Rattle.run_lines.specs.Runs.{pieces, is_empty}
use Rattle.part_lines.specs.declared.fault.RebuildRefusal.{RebuildRefusal}
use Rattle.part_lines.specs.declared.fault.RebuildRefusal.TheVariants as fault
use Rattle.part_lines.specs.declared.told.Told.{Told}

-- what is read of what was read before
abbrev pub and_then : {A B : Type 0} → (A → Answer B) → Answer A → Answer B
and_then next (Ok x) = next x
and_then next (Err e) = Err e

-- bytes as two hex digits each, in either case; and those of a digest
unfoldable pub bytes_of : List ℕ → Answer (List ℕ)
bytes_of digits = hex_bytes (decode_of digits)

unfoldable pub digest_of : List ℕ → Answer (List ℕ)
digest_of digits = hex_bytes (decode_sized digits 32)

-- a master by its name, one of n
unfoldable pub master_in : ℕ → List ℕ → Answer ℕ
master_in n [] = bad
master_in n (letter ∷ digits) = if letter == 109 then number_in 0 (n - 1) digits else bad

-- a part has as many bytes as the parts of a text of its length
abbrev pub fitting : ℕ → ℕ × (ℕ × List ℕ) → Answer Part
fitting f p = if nat_eq (length p.1.1) (width f p.1.0) then Ok
    (record { master = p.0; length = p.1.0; bytes = p.1.1 }) else bad

-- a line is text
unfoldable pub line_words : List ℕ → Answer (List (List ℕ))
line_words line = if is_utf8 line then Ok (words_of line) else bad

abbrev pub digest_of_words : List (List ℕ) → Answer (List ℕ)
digest_of_words (name ∷ digits ∷ []) = if bytes_eq name (codes "digest") then digest_of digits else bad
digest_of_words _ = bad

abbrev pub fields_of_words : ℕ → List (List ℕ) → Answer (ℕ × (ℕ × List ℕ))
fields_of_words n (name ∷ size ∷ digits ∷ []) =
    both (master_in n name) (both (number_in 1 MOST_TEXT_BYTES size) (bytes_of digits))
fields_of_words n _ = bad

-- the digest that a line gives
unfoldable pub digest_in : List ℕ → Answer (List ℕ)
digest_in line = and_then digest_of_words (line_words line)

-- the part that a line gives
unfoldable pub part_in : ℕ → ℕ → List ℕ → Answer Part
part_in n f line = and_then (fitting f) (and_then (fields_of_words n) (line_words line))

-- what each line gives; behind the last line feed nothing is to stand
abbrev pub each_line : {A : Type 0} → (List ℕ → Answer A) → List (List ℕ) → List (Answer A)
each_line read [] = []
each_line read (last ∷ []) = if is_empty last then [] else bad ∷ []
each_line read (line ∷ next ∷ more) = read line ∷ each_line read (next ∷ more)

abbrev pub Reading : Type 0 → Type 0
Reading A = Result A RebuildRefusal

abbrev pub bad_line : {A : Type 0} → ℕ → Reading A
bad_line number = Err (fault.BadLine number)

-- a master below that number is one too many
abbrev pub from_least : ℕ → Part → Answer Part
from_least least part = if nat_le least part.master then Ok part else bad

abbrev pub before : Part → Reading (List Part) → Reading (List Part)
before part (Ok parts) = Ok (part ∷ parts)
before part (Err e) = Err e

-- the parts that lines give, the first line having this number: their masters rise, from `least` on
abbrev pub rising : ℕ → ℕ → List (Answer Part) → Reading (List Part)
rising least number [] = Ok []
rising least number (line ∷ more) = elim (and_then (from_least least) line) [
  | Ok part ↦ before part (rising (part.master + 1) (number + 1) more)
  | Err e ↦ bad_line number
]

abbrev pub told : List ℕ → Reading (List Part) → Reading Told
told digest (Ok parts) = Ok (record { digest = digest; parts = parts })
told digest (Err e) = Err e

abbrev pub behind_digest : ℕ → ℕ → Answer (List ℕ) → List (List ℕ) → Reading Told
behind_digest n f (Ok digest) rest = told digest (rising 0 2 (each_line (part_in n f) rest))
behind_digest n f (Err e) rest = bad_line 1

abbrev pub told_by : ℕ → ℕ → List (List ℕ) → Reading Told
told_by n f [] = bad_line 1
told_by n f (last ∷ []) = bad_line 1
told_by n f (line ∷ next ∷ more) = behind_digest n f (digest_in line) (next ∷ more)

-- the digest and the parts of a whole text for a group of n masters of which f may be intruded, or the number of its
-- first line that isn't of its form
unfoldable pub told_in : ℕ → ℕ → List ℕ → Reading Told
told_in n f bytes = told_by n f (pieces bytes)
