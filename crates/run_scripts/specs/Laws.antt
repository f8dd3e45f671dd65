-- What holds of each history that a script and words define, as statements.
use Rattle.std.specs.Prelude.{◌≡◌, ℕ, ◌≤◌, true, not, List, Ok, length}
use Rattle.std.specs.List.{list_all}
use Rattle.scenario_file.specs.Valid.{IsScenario}
use Rattle.history_rules.specs.Events.{Entry}
use Rattle.history_rules.specs.Setup.{own}
use Rattle.history_rules.specs.Legal.{IsLegal}
use Rattle.history_rules.specs.Counts.{forged}
use Rattle.world_rules.specs.Scenarios.{setup_of}
use Rattle.history_laws.specs.BenchLists.{IsBenchList}
use Rattle.script_lines.specs.declared.saying.Saying.{Saying}
use Rattle.script_lines.specs.declared.script.Line.{Line}
use Rattle.script_laws.specs.Accepted.{are_lines_of, are_sayings_of}
use Rattle.play_words.specs.Accepted.{is_raw}
use Rattle.run_scripts.specs.Making.{Given, played, most_entries}

-- It is legal, and has at most 50,000 entries; so each actor's own list is a bench's.
pub record IsPlayed (g : Given) (history : List Entry) : Type 0 where
  pub legal : IsLegal (setup_of g.scenario) history
  pub short : length history ≤ most_entries
  pub lists : (actor : ℕ) → IsBenchList (setup_of g.scenario) actor (own history actor)

-- what a script and words define is legal and short
abbrev pub PlayedIsLegal : Type 0
PlayedIsLegal =
    (g : Given) (lines : List Line) (history : List Entry) → IsScenario g.scenario →
    are_lines_of g.scenario lines ≡ true
    → are_sayings_of g.scenario g.sayings ≡ true → played g lines ≡ Ok history → IsPlayed g history

-- no word of raw bytes is said
abbrev pub AreNotRaw : List Saying → Type 0
AreNotRaw sayings = list_all (λ s. not (is_raw s.word)) sayings ≡ true

-- Without raw words no word in it is forged: what an intruded master puts into its frames under another's name is what
-- it knows, and so what that one said.
abbrev pub PlayedIsUnforged : Type 0
PlayedIsUnforged =
    (g : Given) (lines : List Line) (history : List Entry) → IsScenario g.scenario →
    are_lines_of g.scenario lines ≡ true
    → are_sayings_of g.scenario g.sayings ≡ true → AreNotRaw g.sayings → played g lines ≡ Ok history →
    forged (setup_of g.scenario) history ≡ 0
