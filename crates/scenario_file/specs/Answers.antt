-- Answers of a reader of scenarios: a value, or the first fault with the name of its key.
use Rattle.std.specs.Prelude.{◌≡◌, ℕ, List, Bool, true, false, if◌then◌else◌, Option, Some, None, Result, Ok, Err}
use Rattle.plain_lists.specs.Answers.{IsRight, IsRightRefusal, IsRightSeen}
use Rattle.scenario_file.specs.declared.refusal.ScenarioRefusal.{ScenarioRefusal}
use Rattle.scenario_file.specs.declared.refusal.ScenarioRefusal.TheVariants as refusal

abbrev pub Answer : Type 0 → Type 0
Answer A = Result A ScenarioRefusal

-- the first fault is the answer; the next step comes only where there is none
infixl 10 ◌>>=◌
abbrev pub ◌>>=◌ : {A B : Type 0} → Result A ScenarioRefusal → (A → Result B ScenarioRefusal) → Result B ScenarioRefusal
Ok x >>= next = next x
Err e >>= next = Err e

-- a value that is of another type, out of range or names nothing
abbrev pub bad : {A : Type 0} → List ℕ → Result A ScenarioRefusal
bad name = Err (refusal.BadValue name)

-- the value, where it is one that the key may have
abbrev pub kept : {A : Type 0} → List ℕ → Bool → A → Result A ScenarioRefusal
kept name is_allowed x = if is_allowed then Ok x else bad name

-- the value that a text or a number stands for
abbrev pub or_bad : {A : Type 0} → List ℕ → Option A → Result A ScenarioRefusal
or_bad name None = bad name
or_bad name (Some x) = Ok x

-- whether it is want of memory that is told
abbrev pub is_want : ScenarioRefusal → Bool
is_want refusal.Want = true
is_want other = false

-- a refusal is the right answer, unless memory ran out
abbrev pub Refuses : {A : Type 0} → ScenarioRefusal → Result A ScenarioRefusal → Type 0
Refuses why right = IsRightRefusal is_want why right

-- an answer, seen as a value of another type, is the right one, unless memory ran out
abbrev pub Shows : {A B : Type 0} → (A → B) → Result A ScenarioRefusal → Result B ScenarioRefusal → Type 0
Shows show answer right = IsRightSeen is_want show answer right

-- an answer is the right one, unless memory ran out
abbrev pub Answers : {A : Type 0} → Result A ScenarioRefusal → Result A ScenarioRefusal → Type 0
Answers answer right = IsRight is_want answer right
