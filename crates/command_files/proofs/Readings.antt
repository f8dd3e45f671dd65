-- What reading and definition agree on.
use Rattle.std.proofs.Common.{◌≡◌, Bool, true, false, ℕ, List, Result, Ok, Err, refl, sym, ◌∙◌, subst, true≢false}
use Rattle.std.specs.Prelude.{if◌then◌else◌}
use Rattle.std.specs.Str.{IsUtf8, bytes_eq, is_utf8}
use Rattle.std.proofs.lemmas.Str.{IsUtf8-from_is_utf8, is_utf8-from_IsUtf8}
use Rattle.scenario_file.specs.Answers.{Shows, Refuses}
use Rattle.scenario_file.specs.Reading.{Contents, contents, scenario_in}
use Rattle.scenario_file.specs.declared.scenario.Scenario.{Scenario}
use Rattle.scenario_file.specs.declared.refusal.ScenarioRefusal.{ScenarioRefusal}
use Rattle.scenario_file.specs.declared.refusal.ScenarioRefusal.TheVariants as scenario
use Rattle.command_ends.specs.declared.refusal.Refusal.{Refusal}
use Rattle.command_files.specs.Scenarios.{IsUnknownSeed, ReadCause, scenario_at, scenario_refusal, seed_name, without_seed}

-- the answer for bytes that are text or not
abbrev read_if : Bool → List ℕ → Result Contents ScenarioRefusal
read_if is text = if is then scenario_in text else Err scenario.BadToml

shown_if : (is : Bool) (text : List ℕ) (result : Result Scenario ScenarioRefusal) → is_utf8 text ≡ is →
    (IsUtf8 text → Shows contents result (scenario_in text))
    → (¬ IsUtf8 text → result ≡ Err scenario.BadToml) → Shows contents result (read_if is text)
shown_if true text result is reads none = reads (IsUtf8-from_is_utf8 text is)
shown_if false text result is reads none =
    let no_text : ¬ IsUtf8 text = λ utf8. true≢false (sym (is_utf8-from_IsUtf8 text utf8) ∙ is) in
    subst (λ (r : Result Scenario ScenarioRefusal). Shows contents r (Err scenario.BadToml)) (sym (none no_text)) refl

-- what a scenario is read from
pub shown-at : (text : List ℕ) (result : Result Scenario ScenarioRefusal) →
    (IsUtf8 text → Shows contents result (scenario_in text))
    → (¬ IsUtf8 text → result ≡ Err scenario.BadToml) → Shows contents result (scenario_at text)
unfolding scenario_at
shown-at text result reads none = shown_if (is_utf8 text) text result refl reads none

by_fault : (right : Result Contents ScenarioRefusal) (e : ScenarioRefusal) → Refuses e right →
    (let result : Result Scenario Refusal = Err (scenario_refusal e) in ReadCause right result)
by_fault right scenario.BadToml is = (scenario.BadToml, is, refl)
by_fault right (scenario.MissingKey name) is = (scenario.MissingKey name, is, refl)
by_fault right (scenario.BadValue name) is = (scenario.BadValue name, is, refl)
by_fault right (scenario.TooMany name) is = (scenario.TooMany name, is, refl)
by_fault right (scenario.UnknownKey name) is = (scenario.UnknownKey name, is, refl)
by_fault right scenario.Want is = tt

-- a fault is told as its refusal
pub refused_by : (right : Result Contents ScenarioRefusal) (e : ScenarioRefusal) (result : Result Scenario Refusal) →
    result ≡ Err (scenario_refusal e) → Refuses e right → ReadCause right result
refused_by right e result refused is =
    subst (λ (r : Result Scenario Refusal). ReadCause right r) (sym refused) (by_fault right e is)

-- ---- Without a seed.

-- a scenario that could be read as it stands has a seed
pub has_seed : (right zeros : Result Contents ScenarioRefusal) (c : Contents) (e : ScenarioRefusal) → right ≡ Ok c
    → IsUnknownSeed e → Refuses e (without_seed right zeros)
has_seed right zeros c (scenario.UnknownKey name) is named = rw (is, named) refl
has_seed right zeros c scenario.Want is named = tt
has_seed right zeros c scenario.BadToml is named = absurd named
has_seed right zeros c (scenario.MissingKey name) is named = absurd named
has_seed right zeros c (scenario.BadValue name) is named = absurd named
has_seed right zeros c (scenario.TooMany name) is named = absurd named

-- one in which no more than the seed is missing is what it is with zeros
pub seed_missing : (right zeros : Result Contents ScenarioRefusal) (name : List ℕ)
    (result : Result Scenario ScenarioRefusal) → right ≡ Err (scenario.MissingKey name) → bytes_eq name seed_name ≡ true
    → Shows contents result zeros → Shows contents result (without_seed right zeros)
seed_missing right zeros name result is same shows =
    let with_zeros : without_seed right zeros ≡ zeros = rw (is, same) refl in
    subst (λ (r : Result Contents ScenarioRefusal). Shows contents result r) (sym with_zeros) shows

-- one in which another key is missing
pub other_missing : (right zeros : Result Contents ScenarioRefusal) (name : List ℕ) →
    right ≡ Err (scenario.MissingKey name) → bytes_eq name seed_name ≡ false
    → Refuses (scenario.MissingKey name) (without_seed right zeros)
other_missing right zeros name is other = rw (is, other) refl

-- one that has another fault
pub other_fault : (right zeros : Result Contents ScenarioRefusal) (e : ScenarioRefusal) →
    ((name : List ℕ) → e ≡ scenario.MissingKey name → ⊥) → Refuses e right → Refuses e (without_seed right zeros)
other_fault right zeros scenario.BadToml not_missing is = rw is refl
other_fault right zeros (scenario.MissingKey name) not_missing is = absurd (not_missing name refl)
other_fault right zeros (scenario.BadValue name) not_missing is = rw is refl
other_fault right zeros (scenario.TooMany name) not_missing is = rw is refl
other_fault right zeros (scenario.UnknownKey name) not_missing is = rw is refl
other_fault right zeros scenario.Want not_missing is = tt
