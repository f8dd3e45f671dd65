-- What a command does, one step after another. (This project's own.)
use Rattle.std.specs.Prelude.{ℕ, List}
use Rattle.command_ends.specs.declared.refusal.Refusal.{Refusal}

-- a file is loaded, which may have so many bytes at most, or the text is made, or there is none and this is why
pub data Step : Type 0 where
  Load : (name : List ℕ) (most : ℕ) → Step
  Gives : (text : List ℕ) → Step
  Refuses : (why : Refusal) → Step
