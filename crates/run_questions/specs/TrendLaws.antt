-- What holds of the trends of every history. (This project's own, in the manner of Spire, whose screens act on f + 1
-- matching words.)
use Rattle.std.specs.Prelude.{◌≡◌, ◌↔◌, ℕ, ◌<◌, ◌≤◌, true, List, Ok, Err, length}
use Rattle.scenario_file.specs.Reading.{Contents}
use Rattle.scenario_file.specs.Valid.{IsScenario}
use Rattle.history_rules.specs.Events.{Entry}
use Rattle.history_rules.specs.Setup.{is_correct_master}
use Rattle.history_rules.specs.Legal.{IsLegal, executions}
use Rattle.world_rules.specs.Headline.{Premises}
use Rattle.world_rules.specs.Scenarios.{setup_of}
use Rattle.run_questions.specs.declared.trend.fault.TrendRefusal.TheVariants as fault
use Rattle.run_questions.specs.TrendAnswers.{reaching, changes_by, trend_in}
use Rattle.run_questions.specs.TrendText.{changes_text}

-- a correct master that executed up to the last number
pub record Reaches (c : Contents) (history : List Entry) (last i : ℕ) : Type 0 where
  pub correct : is_correct_master (setup_of c) i ≡ true
  pub far : last ≤ length (executions (setup_of c) history i)

-- The premises of the headline, of a legal history of a scenario.
pub record IsHeadlined (c : Contents) (history : List Entry) : Type 0 where
  pub scenario : IsScenario c
  pub legal : IsLegal (setup_of c) history
  pub premises : Premises (setup_of c) history

-- What is printed are the point's changes in some correct master's executions.
abbrev pub PrintsTheChangesOfOne : Type 0
PrintsTheChangesOfOne =
    (c : Contents) (history : List Entry) (p first last : ℕ) (text : List ℕ) → trend_in c history p first last ≡ Ok text
    → (i : ℕ) × Reaches c history last i × (text ≡ changes_text (changes_by c history p first last i))

-- Where the headline's premises hold, they are those in the executions of every correct master that reach so far.
abbrev pub PrintsTheChangesOfAll : Type 0
PrintsTheChangesOfAll =
    (c : Contents) (history : List Entry) (p first last : ℕ) (text : List ℕ) → IsHeadlined c history →
    trend_in c history p first last ≡ Ok text
    → (i : ℕ) → Reaches c history last i → text ≡ changes_text (changes_by c history p first last i)

-- There more than f answers are always equal.
abbrev pub AlwaysMatches : Type 0
AlwaysMatches =
    (c : Contents) (history : List Entry) (p first last : ℕ) → IsHeadlined c history →
    trend_in c history p first last ≡ Err fault.NoMatch → ⊥

-- Of a point that is there and a range, it isn't reached exactly where no more than f correct masters executed up to
-- the last number.
abbrev pub IsNotReachedWhereFew : Type 0
IsNotReachedWhereFew =
    (c : Contents) (history : List Entry) (p first last : ℕ) → p < length c.plant.points → 1 ≤ first → first ≤ last
    → (length (reaching (setup_of c) history last) ≤ c.settings.f) ↔
    ((executed : ℕ) × (trend_in c history p first last ≡ Err (fault.NotReached executed)))
