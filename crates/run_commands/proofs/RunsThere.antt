-- Of a run in threads some step may always come: each scenario, script and words have a run.
use Rattle.std.proofs.Common.{◌≡◌, ℕ, Bool, true, false, List, [], ◌∷◌, Option, Some, Result, Ok, Err, refl, sym, subst}
use Rattle.scenario_file.specs.Reading.{Contents}
use Rattle.scenario_file.specs.Valid.{IsScenario}
use Rattle.script_grammar.specs.Names.{who_of}
use Rattle.script_lines.specs.Scripts.{script_in}
use Rattle.script_lines.specs.Sayings.{words_in}
use Rattle.script_lines.specs.declared.script.Line.{Line}
use Rattle.script_lines.specs.declared.saying.Saying.{Saying}
use Rattle.command_words.specs.Wanted.{Wanted, run, is_command, wanted_in}
use Rattle.command_ends.specs.Steps.{Step}
use Rattle.command_ends.specs.Steps.Step.{Gives, Refuses}
use Rattle.command_ends.specs.Calls.{Call}
use Rattle.command_ends.specs.Complete.{Completes}
use Rattle.command_ends.specs.Ended.{ErrorSink}
use Rattle.command_ends.specs.declared.refusal.Refusal.{Refusal}
use Rattle.command_ends.specs.declared.refusal.Refusal.TheVariants as refusal
use Rattle.run_commands.specs.Readers.{Readers, KeepsRules, IsScriptOf, AreWordsOf, are_in_range}
use Rattle.command_files.specs.Scenarios.{scenario_at, scenario_refusal}
use Rattle.run_commands.specs.Reading.{script_refusal, words_refusal}
use Rattle.run_commands.specs.Course.{Accepted, RunEnds, RunCourse, RunStep, AskedStep, NextStep, play_step}
use Rattle.run_commands.specs.Keeps.{HasEnd}
use Rattle.run_commands.proofs.Headlines.{scenario-valid}

-- some step may come of an answer, where one may of its value
accepted-there : {A E : Type 0} (refuse : E → Refusal) (answer : Result A E) (After : A → Step → Type 0)
    → ((value : A) → answer ≡ Ok value → (step : Step) × After value step) → (step : Step) × Accepted refuse answer After step
accepted-there refuse (Ok value) After there = there value refl
accepted-there refuse (Err e) After there = (Refuses (refuse e), refl)

-- the text of a history, once all three files are read
ends-there : (r : Readers) → KeepsRules r → (turns : ℕ) (c : Contents) (lines : List Line) (sayings : List Saying)
    → IsScenario c → IsScriptOf c lines → AreWordsOf c sayings → (step : Step) × RunEnds r turns c lines sayings step
ends-there r laws turns c lines sayings valid script words =
    let found = laws.run_there c lines sayings turns valid script words in
    (Gives (r.text_of c found.0), (found.0, found.1, refl))

course-there : (r : Readers) → KeepsRules r → (scenario script words : List ℕ) (turns : ℕ) (contents : List (List ℕ))
    → (step : Step) × RunCourse r scenario script words turns contents step
course-there r laws scenario script words turns [] = (play_step r scenario script words [], refl)
course-there r laws scenario script words turns (a ∷ []) = (play_step r scenario script words (a ∷ []), refl)
course-there r laws scenario script words turns (a ∷ b ∷ []) = (play_step r scenario script words (a ∷ b ∷ []), refl)
course-there r laws scenario script words turns (a ∷ b ∷ d ∷ more) =
    accepted-there scenario_refusal (scenario_at a)
    (λ c. Accepted script_refusal (script_in (who_of c) b)
    (λ lines. Accepted words_refusal (words_in (who_of c) d) (RunEnds r turns c lines)))
    (λ c one. accepted-there script_refusal (script_in (who_of c) b)
    (λ lines. Accepted words_refusal (words_in (who_of c) d) (RunEnds r turns c lines))
    (λ lines two. accepted-there words_refusal (words_in (who_of c) d) (RunEnds r turns c lines)
    (λ sayings three. ends-there r laws turns c lines sayings (scenario-valid a c one) (b, two) (d, three))))

step-there : (r : Readers) → KeepsRules r → (ranged : Bool) (scenario script words : List ℕ) (turns : ℕ)
    (contents : List (List ℕ)) → (step : Step) × RunStep r ranged scenario script words turns contents step
step-there r laws true scenario script words turns contents = course-there r laws scenario script words turns contents
step-there r laws false scenario script words turns contents = (Refuses refusal.Usage, refl)

asked-there : (r : Readers) → KeepsRules r → (is : Bool) (scenario script words : List ℕ) (hands turns : ℕ)
    (contents : List (List ℕ)) → (step : Step) × AskedStep r is (Some (run scenario script words hands turns)) contents step
asked-there r laws true scenario script words hands turns contents =
    step-there r laws (are_in_range hands turns) scenario script words turns contents
asked-there r laws false scenario script words hands turns contents = (Refuses refusal.Usage, refl)

next-there : (r : Readers) → KeepsRules r → (asked : List (List ℕ)) (scenario script words : List ℕ) (hands turns : ℕ)
    → wanted_in asked ≡ Some (run scenario script words hands turns) → (contents : List (List ℕ))
    → (step : Step) × NextStep r asked contents step
next-there r laws asked scenario script words hands turns is contents =
    subst (λ (o : Option Wanted). (step : Step) × AskedStep r (is_command asked) o contents step) (sym is)
    (asked-there r laws (is_command asked) scenario script words hands turns contents)

-- So of a run in threads completeness has no premise of its own.
pub runs-end : (r : Readers) → KeepsRules r → (call : Call) (err : ErrorSink) (status : ℕ)
    → Completes (NextStep r) call err status → (scenario script words : List ℕ) (hands turns : ℕ)
    → wanted_in call.words ≡ Some (run scenario script words hands turns) → HasEnd r call err status
runs-end r laws call err status all scenario script words hands turns is contents free =
    let next = next-there r laws call.words scenario script words hands turns is contents in
    let ended = all next.0 (record { contents = contents; files = free.files; comes = next.1; out = free.out }) in
    (ended.0, ended.2, ended.3)
