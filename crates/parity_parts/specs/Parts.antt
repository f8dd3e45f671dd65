-- A text in parts, as Reed and Solomon's codes make them: any f + 1 parts of one text give it back.
use Rattle.std.specs.Prelude.{◌≡◌, ◌≢◌, ◌<◌, ◌+◌, ◌/◌, ◌%◌, ℕ, Bool, zero, suc, List, [], ◌∷◌, ◌&&◌}
use Rattle.std.specs.Prelude.{length, map, drop}
use Rattle.std.specs.Prelude.{nat_eq, slice_index}
use Rattle.std.specs.List.{AllByRecursion, range_with_len}
use Rattle.std.specs.Str.{bytes_eq}
use Rattle.parity_parts.specs.Field.{value}
use Rattle.parity_parts.specs.Interpolation.{interpolated}
use Rattle.parity_parts.specs.declared.part.Part.{Part}

abbrev pub AreBytes : List ℕ → Type 0
AreBytes = AllByRecursion (λ x. x < 256)

-- how many bytes a piece has: a text of this length is cut into f + 1 pieces, of which the last is filled up with zeros
abbrev pub width : ℕ → ℕ → ℕ
width f size = (size + f) / (f + 1)

-- `count` bytes of the text, each `step` behind the one before, from the first on; zero past the text's end
abbrev pub column : ℕ → ℕ → List ℕ → List ℕ
column step zero text = []
column step (suc count) text = slice_index text 0 ∷ column step count (drop step text)

-- The byte at a place of a master's part: the value at the master's number of the polynomial whose coefficients are the
-- pieces' bytes at that place.
abbrev pub part_byte : ℕ → ℕ → ℕ → List ℕ → ℕ → ℕ
part_byte f step master text place = value (column step (f + 1) (drop place text)) master

unfoldable pub part_bytes : ℕ → ℕ → List ℕ → List ℕ
part_bytes f master text =
    map (part_byte f (width f (length text)) master text) (range_with_len 0 (width f (length text)))

-- the part is its master's of this text
abbrev pub is_part_of : ℕ → List ℕ → Part → Bool
is_part_of f text part =
    nat_eq part.length (length text) && bytes_eq part.bytes (part_bytes f part.master text)

-- ---- Parts that may be joined.

-- the points of interpolation are below 16
abbrev pub AreSmall : List ℕ → Type 0
AreSmall = AllByRecursion (λ x. x < 16)

abbrev pub DiffersFrom : ℕ → List ℕ → Type 0
DiffersFrom x = AllByRecursion (λ y. x ≢ y)

abbrev pub AreDifferent : List ℕ → Type 0
AreDifferent [] = Unit {0}
AreDifferent (x ∷ xs) = DiffersFrom x xs × AreDifferent xs

-- the part is of a text of this length, and its master is one of n
abbrev pub Fits : ℕ → ℕ → ℕ → Part → Type 0
Fits n f size part = (part.master < n) × (part.length ≡ size) × (length part.bytes ≡ width f size)

abbrev pub first_length : List Part → ℕ
first_length [] = 0
first_length (part ∷ parts) = part.length

-- the part is its master's of this text, as a fact
abbrev pub IsPartOf : ℕ → List ℕ → Part → Type 0
IsPartOf f text part = (part.length ≡ length text) × (part.bytes ≡ part_bytes f part.master text)

-- ---- The joined text: at each place the coefficients of the polynomial that takes the parts' bytes there at their
-- masters' numbers are the pieces' bytes.

abbrev pub masters : List Part → List ℕ
masters = map (λ part. part.master)

abbrev pub symbols : List Part → ℕ → List ℕ
symbols parts place = map (λ part. slice_index part.bytes place) parts

abbrev pub coefficients : List Part → ℕ → List ℕ
coefficients parts place = interpolated (masters parts) (symbols parts place)

abbrev pub joined_byte : ℕ → List Part → ℕ → ℕ
joined_byte step parts place = slice_index (coefficients parts (place % step)) (place / step)

-- the coefficients at a place give the parts' bytes there
abbrev pub Solves : List Part → ℕ → Type 0
Solves parts place = AreBytes (symbols parts place)
    → map (value (coefficients parts place)) (masters parts) ≡ symbols parts place

-- and no others of that number do
abbrev pub OnlySolution : List Part → ℕ → Type 0
OnlySolution parts place = (others : List ℕ) → length others ≡ length parts → AreBytes others
    → map (value others) (masters parts) ≡ symbols parts place → others ≡ coefficients parts place

unfoldable pub joined : ℕ → List Part → List ℕ
joined f parts =
    map (joined_byte (width f (first_length parts)) parts) (range_with_len 0 (first_length parts))
