-- The lives of one station's file: a process reads it, adds entries, and ends, at whatever moment. (This project's own.)
use Rattle.std.specs.Prelude.{ℕ, List, [], ◌∷◌, take}
use Rattle.plain_lists.specs.Lists.{Begins}
use Rattle.scenario_file.specs.Reading.{Contents}
use Rattle.history_rules.specs.Events.{Entry}
use Rattle.joint_lists.specs.Stations.{IsStation}
use Rattle.station_lives.specs.Saying.{BeginsToSay}

-- A life: its entries, first those that it read, then those that it made; how many of them, from the first on, were durable
-- when it ended; and all that it put out.
pub record Life : Type 0 where
  pub list : List Entry
  pub durable : ℕ
  pub out : List ℕ

-- the entries that outlived it in any case
abbrev pub kept_by : Life → List Entry
kept_by life = take life.durable life.list

-- It was a station's, and said only what was durable in the end.
pub record IsLife (c : Contents) (actor : ℕ) (life : Life) : Type 0 where
  pub station : IsStation c actor life.list
  pub said : BeginsToSay c (kept_by life) life.out

-- lives of one file, in order: what was durable of one begins what is durable of the next
abbrev pub AreLives : Contents → ℕ → List Life → Type 0
AreLives c actor [] = Unit {0}
AreLives c actor (life ∷ []) = IsLife c actor life
AreLives c actor (life ∷ next ∷ rest) =
    IsLife c actor life × Begins (kept_by life) (kept_by next) × AreLives c actor (next ∷ rest)

-- what is durable in the end
abbrev pub kept_last : List Life → List Entry
kept_last [] = []
kept_last (life ∷ []) = kept_by life
kept_last (life ∷ next ∷ rest) = kept_last (next ∷ rest)
