-- What a put does to an output: a piece is there whole, in part or not at all. (This project's own.)
use Rattle.std.specs.Prelude.{◌≡◌, ℕ, List, ◌++◌, Option, None, Some, take, Result, Ok, Err}
use Rattle.std.specs.Io.KnownBytes.{Appends}
use Rattle.outside.specs.declared.sinks.PutAnswer.{PutAnswer}
use Rattle.outside.specs.declared.sinks.PutAnswer.TheVariants as answer

-- The bytes put so far and then this piece, where a sink tells its bytes.
abbrev pub with_piece : Option (List ℕ) → List ℕ → Option (List ℕ)
with_piece None piece = None
with_piece (Some bytes) piece = Some (bytes ++ piece)

-- What a put does to the bytes that a sink tells: the whole piece is there after Ok, some beginning of
-- it after a fault, and nothing of it where there was no memory.
abbrev pub PutGives : Option (List ℕ) → List ℕ → Result (Unit {0}) PutAnswer → Option (List ℕ) → Type 0
PutGives before piece (Ok _) after = after ≡ with_piece before piece
PutGives before piece (Err answer.Failed) after = (count : ℕ) × (after ≡ with_piece before (take count piece))
PutGives before piece (Err answer.Want) after = after ≡ before

-- The count of faults rises only where a fault is answered.
abbrev pub PutCounts : Result (Unit {0}) PutAnswer → ℕ → ℕ → Type 0
PutCounts (Ok _) before after = after ≡ before
PutCounts (Err answer.Failed) before after = Unit {0}
PutCounts (Err answer.Want) before after = after ≡ before

-- A writer as a sink: its errors so far, and the bytes that it holds, where it tells them.
pub record Outlet : Type 0 where
  pub faults : ℕ
  pub written : Option (List ℕ)

-- What a put does to a writer that tells its bytes: it takes the whole piece at Ok, and some beginning of it at a
-- fault. It wants no memory.
abbrev pub WritesPiece : Option (List ℕ) → List ℕ → Result (Unit {0}) PutAnswer → Option (List ℕ) → Type 0
WritesPiece before piece (Ok _) after = Appends before after piece
WritesPiece before piece (Err answer.Failed) after = (count : ℕ) × Appends before after (take count piece)
WritesPiece before piece (Err answer.Want) after = ⊥
