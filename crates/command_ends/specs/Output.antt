-- What stands at a sink after a text was put piece by piece.
use Rattle.std.specs.Prelude.{◌≡◌, ℕ, List, Option, Result, Ok, Err, take}
use Rattle.outside.specs.Piece.{with_piece}
use Rattle.outside.specs.declared.sinks.PutAnswer.{PutAnswer}

-- output is put in pieces of this length, the last one shorter
abbrev pub piece_length : ℕ
piece_length = 512

-- some beginning of the text was put, and nothing else
abbrev pub PutsBeginning : Option (List ℕ) → List ℕ → Option (List ℕ) → Type 0
PutsBeginning before text after = (count : ℕ) × (after ≡ with_piece before (take count text))

-- the whole text after Ok, else a beginning of it
abbrev pub PutsText : Option (List ℕ) → List ℕ → Result (Unit {0}) PutAnswer → Option (List ℕ) → Type 0
PutsText before text (Ok _) after = after ≡ with_piece before text
PutsText before text (Err _) after = PutsBeginning before text after
