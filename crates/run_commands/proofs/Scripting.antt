-- The steps of a play and of a run in threads, file by file: which one comes next is that of a play, up to the last.
use Rattle.std.proofs.Common.{◌≡◌, ℕ, List, [], ◌∷◌, Result, Ok, Err, refl, sym, ◌∙◌, ap, subst, true≢false}
use Rattle.scenario_file.specs.Reading.{Contents}
use Rattle.script_grammar.specs.Names.{who_of}
use Rattle.script_lines.specs.Scripts.{script_in}
use Rattle.script_lines.specs.Sayings.{words_in}
use Rattle.script_lines.specs.declared.script.Line.{Line}
use Rattle.script_lines.specs.declared.saying.Saying.{Saying}
use Rattle.command_ends.specs.Steps.{Step}
use Rattle.command_ends.specs.Steps.Step.{Load, Refuses}
use Rattle.command_ends.specs.declared.limits.TheConstants.{MOST_BYTES}
use Rattle.command_ends.specs.declared.refusal.Refusal.{Refusal}
use Rattle.command_ends.proofs.Completes.{is_load}
use Rattle.run_commands.specs.Readers.{Readers}
use Rattle.command_files.specs.Scenarios.{scenario_at, scenario_refusal}
use Rattle.run_commands.specs.Reading.{accepted, script_refusal, words_refusal}
use Rattle.run_commands.specs.Reading.{with_scenario, with_script, with_words}
use Rattle.run_commands.specs.Course.{Accepted, ScriptedCourse}

-- what comes of a value that is accepted, and of one that isn't
pub accepted-value : {A E : Type 0} (refuse : E → Refusal) (answer : Result A E) (value : A) (After : A → Step → Type 0)
    (step : Step) → answer ≡ Ok value
    → After value step → Accepted refuse answer After step
accepted-value refuse answer value After step is after = subst (λ a. Accepted refuse a After step) (sym is) after

pub accepted-fault : {A E : Type 0} (refuse : E → Refusal) (answer : Result A E) (After : A → Step → Type 0) (w : Refusal)
    → ((onward : A → Step) → accepted refuse answer onward ≡ Refuses w) → Accepted refuse answer After (Refuses w)
accepted-fault refuse (Ok value) After w refused = absurd (true≢false (ap is_load (refused (λ v. Load [] 0))))
accepted-fault refuse (Err e) After w refused = sym (refused (λ v. Load [] 0))

pub accepted-err : {A E : Type 0} (refuse : E → Refusal) (answer : Result A E) (e : E) (After : A → Step → Type 0) →
    answer ≡ Err e → Accepted refuse answer After (Refuses (refuse e))
accepted-err refuse answer e After is = subst (λ a. Accepted refuse a After (Refuses (refuse e))) (sym is) refl

-- what is told of an answer is told of its value
pub accepted-at : {A E : Type 0} (refuse : E → Refusal) (answer : Result A E) (value : A) (After : A → Step → Type 0)
    (step : Step) → answer ≡ Ok value
    → Accepted refuse answer After step → After value step
accepted-at refuse answer value After step is told = subst (λ a. Accepted refuse a After step) is told

module _ (r : Readers) (EndsIn : Contents → List Line → List Saying → Step → Type 0)
    (scenario script words : List ℕ) where
  pub script-first : (first : List ℕ) (c : Contents) → scenario_at first ≡ Ok c →
      ScriptedCourse r EndsIn scenario script words (first ∷ []) (Load script MOST_BYTES)
  script-first first c one = sym (ap (λ a. accepted scenario_refusal a (λ (d : Contents). Load script MOST_BYTES)) one)

  pub script-refused : (first : List ℕ) (w : Refusal) →
      ((onward : Contents → Step) → with_scenario first onward ≡ Refuses w)
      → ScriptedCourse r EndsIn scenario script words (first ∷ []) (Refuses w)
  script-refused first w one = sym (one (λ d. Load script MOST_BYTES))

  pub script-second : (first second : List ℕ) (c : Contents) (lines : List Line) →
      scenario_at first ≡ Ok c
      → script_in (who_of c) second ≡ Ok lines →
      ScriptedCourse r EndsIn scenario script words (first ∷ second ∷ []) (Load words MOST_BYTES)
  script-second first second c lines one two =
      sym (ap (λ a. accepted scenario_refusal a (λ (d : Contents). with_script d second (λ ls. Load words MOST_BYTES))) one
      ∙ ap (λ a. accepted script_refusal a (λ (ls : List Line). Load words MOST_BYTES)) two)

  pub script-second-refused : (first second : List ℕ) (c : Contents) (w : Refusal) →
      scenario_at first ≡ Ok c
      → ((onward : List Line → Step) → with_script c second onward ≡ Refuses w) →
      ScriptedCourse r EndsIn scenario script words (first ∷ second ∷ []) (Refuses w)
  script-second-refused first second c w one two =
      sym (ap (λ a. accepted scenario_refusal a (λ (d : Contents). with_script d second (λ ls. Load words MOST_BYTES))) one
      ∙ two (λ ls. Load words MOST_BYTES))

  pub script-third : (first second third : List ℕ) (c : Contents) (lines : List Line)
      (sayings : List Saying) (step : Step)
      → scenario_at first ≡ Ok c → script_in (who_of c) second ≡ Ok lines → words_in (who_of c) third ≡ Ok sayings
      → EndsIn c lines sayings step →
      ScriptedCourse r EndsIn scenario script words (first ∷ second ∷ third ∷ []) step
  script-third first second third c lines sayings step one two three gives =
      accepted-value scenario_refusal (scenario_at first) c
      (λ d. Accepted script_refusal (script_in (who_of d) second)
      (λ ls. Accepted words_refusal (words_in (who_of d) third) (EndsIn d ls)))
      step one
      (accepted-value script_refusal (script_in (who_of c) second) lines
      (λ ls. Accepted words_refusal (words_in (who_of c) third) (EndsIn c ls)) step two
      (accepted-value words_refusal (words_in (who_of c) third) sayings (EndsIn c lines) step three gives))

  pub script-third-refused : (first second third : List ℕ) (c : Contents) (lines : List Line) (w : Refusal)
      → scenario_at first ≡ Ok c → script_in (who_of c) second ≡ Ok lines
      → ((onward : List Saying → Step) → with_words c third onward ≡ Refuses w) →
      ScriptedCourse r EndsIn scenario script words (first ∷ second ∷ third ∷ []) (Refuses w)
  script-third-refused first second third c lines w one two three =
      accepted-value scenario_refusal (scenario_at first) c
      (λ d. Accepted script_refusal (script_in (who_of d) second)
      (λ ls. Accepted words_refusal (words_in (who_of d) third) (EndsIn d ls)))
      (Refuses w) one
      (accepted-value script_refusal (script_in (who_of c) second) lines
      (λ ls. Accepted words_refusal (words_in (who_of c) third) (EndsIn c ls)) (Refuses w) two
      (accepted-fault words_refusal (words_in (who_of c) third) (EndsIn c lines) w three))
