-- What a station puts out: the words of its entries, each with those that it goes to, and notes for this machine alone.
-- Nothing is said before the entry that says it is durable. (This project's own; that a word is kept for good before it is
-- sent is the rule of write-ahead logs.)
use Rattle.std.specs.Prelude.{◌≡◌, ℕ, ◌==◌, true, not, if◌then◌else◌, List, [], ◌∷◌, ◌++◌, codes, nat_le}
use Rattle.std.specs.List.{list_all, flat_map}
use Rattle.plain_lists.specs.Lists.{IsIn, Begins}
use Rattle.message_types.specs.declared.signed.Signed.{Signed}
use Rattle.message_types.specs.declared.body.Body.{Body}
use Rattle.message_types.specs.Texts.{frame_text}
use Rattle.scenario_file.specs.Reading.{Contents, cast_of}
use Rattle.scenario_file.specs.declared.actors.Cast.{Cast}
use Rattle.scenario_file.specs.Actors.{actor_name}
use Rattle.history_rules.specs.Events.{Entry}
use Rattle.history_rules.specs.Legal.{Stands}
use Rattle.world_rules.specs.Frames.{addressees, frames_of}
use Rattle.world_rules.specs.Scenarios.{setup_of, group_in}
use Rattle.run_lines.specs.Texts.{hex_text}

-- names with commas between them, and a dash for none
abbrev pub more_names : Cast → List ℕ → List ℕ
more_names cast [] = []
more_names cast (a ∷ rest) = codes "," ++ actor_name cast a ++ more_names cast rest

abbrev pub names : Cast → List ℕ → List ℕ
names cast [] = codes "-"
names cast (a ∷ rest) = actor_name cast a ++ more_names cast rest

-- a frame that the actor says, with those to whom it goes
abbrev pub word_line : Contents → ℕ → Signed Body → List ℕ
word_line c actor frame =
    codes "say " ++ names (cast_of c.settings c.plant) (addressees (group_in c) actor frame.body) ++ codes " "
    ++ hex_text (frame_text frame) ++ codes "\n"

-- the words of an entry, `before` being the actor's entries before it
abbrev pub word_lines : Contents → List Entry → Entry → List ℕ
word_lines c before e = flat_map (word_line c e.actor) (frames_of (setup_of c) before e)

-- the words of those entries whose stamp isn't below this one, `before` being the entries before them
abbrev pub words_since : Contents → ℕ → List Entry → List Entry → List ℕ
words_since c stamp before [] = []
words_since c stamp before (e ∷ rest) =
    (if nat_le stamp e.stamp then word_lines c before e else []) ++ words_since c stamp (before ++ e ∷ []) rest

-- a note: one line, which is no word
abbrev pub note_line : List ℕ → List ℕ
note_line text = codes "note " ++ text ++ codes "\n"

pub record IsNote (line : List ℕ) : Type 0 where
  pub text : List ℕ
  pub one : list_all (λ b. not (b == 10)) text ≡ true
  pub is : line ≡ note_line text

-- What may have been said where these entries are durable: notes, and words of theirs, in whatever order and as often as
-- may be. `SaidBy c durable out` says so of all that was put out.
pub data SaidBy (c : Contents) (durable : List Entry) : List ℕ → Type 0 where
  nothing : SaidBy c durable []
  note : (out line whole : List ℕ) → SaidBy c durable out → IsNote line → whole ≡ out ++ line → SaidBy c durable whole
  word : (out whole : List ℕ) (before : List Entry) (e : Entry) (frame : Signed Body) → SaidBy c durable out →
      Stands durable before e → IsIn frame (frames_of (setup_of c) before e)
      → whole ≡ out ++ word_line c e.actor frame → SaidBy c durable whole

-- The same of an output that broke off: what was put out is a beginning of that.
pub record BeginsToSay (c : Contents) (durable : List Entry) (out : List ℕ) : Type 0 where
  pub whole : List ℕ
  pub said : SaidBy c durable whole
  pub begins : Begins out whole
