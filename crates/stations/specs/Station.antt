-- A station as it stands between two lines, and what it makes of one. (This project's own.)
use Rattle.std.specs.Prelude.{◌≡◌, ℕ, ◌<◌, ◌^◌, true, false, List, [], ◌∷◌, ◌++◌, length, codes}
use Rattle.scenario_file.specs.Reading.{Contents}
use Rattle.script_grammar.specs.Names.{is_correct, who_of}
use Rattle.history_rules.specs.Events.{Entry}
use Rattle.world_rules.specs.Scenarios.{HasKey, actors_in}
use Rattle.printed_history.specs.Reading.{IsSoFar, contents_in, is_at_hand}
use Rattle.joint_lists.specs.Stations.{IsStation}
use Rattle.kept_lines.specs.Lines.{kept_line, kept_from, kept_file}
use Rattle.station_files.specs.Batch.{Waiting}
use Rattle.station_lives.specs.Saying.{SaidBy}
use Rattle.station_rules.specs.Answers.{Asked, Outcome, told_at, answer}
use Rattle.station_rules.specs.Notes.{Reached, reached}
use Rattle.world_history.specs.Benches.{bench_in}
use Rattle.world_history.specs.State.{BenchState}
use Rattle.stations.specs.declared.station.Station.{Station}
use Rattle.stations.specs.Taken.{AreTaken}

-- what its actor did
abbrev pub list_of : Station → List Entry
list_of s = s.so_far.history

-- A correct actor of a scenario by itself, which has its key, with what is at hand of its entries. The frames that it took
-- and the bytes that are kept are those of these entries, which are few enough to be read again.
pub record IsReadyFor (counted : List Entry) (s : Station) : Type 0 where
  pub at_hand : IsSoFar s.so_far
  pub own : is_at_hand s.so_far s.actor ≡ true
  pub key : HasKey (contents_in s.so_far) s.actor
  pub station : IsStation (contents_in s.so_far) s.actor s.so_far.history
  pub there : s.actor < actors_in (contents_in s.so_far)
  pub correct : is_correct (who_of (contents_in s.so_far)) s.actor ≡ true
  pub taken : AreTaken counted s.taken
  pub size : s.size ≡ length (kept_file (contents_in s.so_far) counted)
  pub room : s.size < 2 ^ 32

abbrev pub IsReady : Station → Type 0
IsReady s = IsReadyFor (list_of s) s

-- what its actor came to
abbrev pub bench_of : Station → BenchState
bench_of s = bench_in (contents_in s.so_far) (list_of s) s.actor

-- The last of its entries isn't counted yet. Before that its actor was so far.
pub record IsAhead (s : Station) (since : Reached) : Type 0 where
  pub before : List Entry
  pub entry : Entry
  pub whole : list_of s ≡ before ++ entry ∷ []
  pub ready : IsReadyFor before s
  pub since_is : since ≡ reached (bench_in (contents_in s.so_far) before s.actor)

-- what a station makes of what is asked
abbrev pub answer_of : Station → Asked → Outcome
answer_of s asked = answer (contents_in s.so_far) s.actor (list_of s) asked

-- its entries then
abbrev pub list_after : Station → Asked → List Entry
list_after s asked = list_of s ++ (answer_of s asked).entries

-- the same actor of the same scenario
pub record IsTheSame (old new : Station) : Type 0 where
  pub contents : contents_in new.so_far ≡ contents_in old.so_far
  pub actor : new.actor ≡ old.actor

-- A station has answered: its entries are those of the answer behind the others, of which the lines wait to be kept, and
-- what is told waits to be put out. Where no words wait then, what is told is notes, and no words waited before.
pub record HasAnswered (old : Station) (asked : Asked) (waits : Waiting) (new : Station) (after : Waiting) : Type 0 where
  pub ready : IsReady new
  pub same : IsTheSame old new
  pub list : list_of new ≡ list_after old asked
  pub lines : after.lines ≡ waits.lines
      ++ kept_from (contents_in old.so_far) (list_of old) (answer_of old asked).entries
  pub told : after.out ≡ waits.out ++ (answer_of old asked).told
  pub notes : after.has_words ≡ false → (waits.has_words ≡ false)
      × SaidBy (contents_in old.so_far) [] (answer_of old asked).told

-- The last entry is counted: its line waits to be kept, and its words and notes wait to be put out.
pub record Enters (before : List Entry) (e : Entry) (old : Station) (waits : Waiting) (new : Station)
    (after : Waiting) : Type 0 where
  pub ready : IsReady new
  pub same : IsTheSame old new
  pub list : list_of new ≡ list_of old
  pub lines : after.lines ≡ waits.lines ++ (kept_line (contents_in old.so_far) before e ++ codes "\n")
  pub told : after.out ≡ waits.out ++ told_at (contents_in old.so_far) before e
  pub notes : after.has_words ≡ false → (waits.has_words ≡ false)
      × SaidBy (contents_in old.so_far) [] (told_at (contents_in old.so_far) before e)
