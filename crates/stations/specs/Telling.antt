-- What is added to what is to be put out. (This project's own.)
use Rattle.std.specs.Prelude.{◌≡◌, ℕ, false, List, [], ◌++◌}
use Rattle.scenario_file.specs.Reading.{Contents}
use Rattle.station_files.specs.Batch.{Waiting}
use Rattle.station_lives.specs.Saying.{SaidBy}

-- This is to be told more. Where no words wait then, it is notes, and no words waited before.
pub record Tells (c : Contents) (told : List ℕ) (old new : Waiting) : Type 0 where
  pub lines : new.lines ≡ old.lines
  pub out : new.out ≡ old.out ++ told
  pub notes : new.has_words ≡ false → (old.has_words ≡ false) × SaidBy c [] told
