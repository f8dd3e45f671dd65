-- An intruded master's word and its cry. (This project's own.)
use Rattle.std.specs.Prelude.{◌≡◌, ℕ, ◌+◌, ◌<◌, false, List, ◌∷◌, Option, Some, None, length, drop, slice_index_or}
use Rattle.history_rules.specs.Events.{Cry}
use Rattle.play_words.specs.declared.words.Word.{Word}
use Rattle.script_lines.specs.declared.saying.Saying.{Saying}
use Rattle.script_lines.specs.Given.{own_words}
use Rattle.world_history.specs.State.{after_word, with_entry}
use Rattle.world_history.specs.KeptState.{KeptState}

-- The master's first word from a place on stands at this one.
pub record IsNextWord (words : List Saying) (from master place : ℕ) : Type 0 where
  pub below : place < length words
  pub first : (s : Saying) → s ≡ slice_index_or words place s → own_words master (drop from words) ≡ s
      ∷ own_words master (drop (place + 1) words)

-- A master that said a word has an entry more, and else stands as it did.
abbrev pub HasCried : KeptState → ℕ → Word → Option (List ℕ) → KeptState → Type 0
HasCried old stamp word None new = Unit {0}
HasCried old stamp word (Some bytes) new = (new.bench ≡ with_entry (after_word old.bench word) stamp (Cry bytes))
    × (new.is_spent ≡ false)
