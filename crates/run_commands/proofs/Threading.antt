-- The last step of a run in threads: the text is that of one of the histories that the run may make. So of two last steps
-- both are texts.
use Rattle.std.proofs.Common.{◌≡◌, ℕ, Bool, true, false, List, [], ◌∷◌, Option, Result, Ok, Err, refl, sym, ◌∙◌, ap, subst}
use Rattle.std.specs.declared.vec.Vec.{Vec}
use Rattle.std.specs.declared.alloc.Global.{Global}
use Rattle.scenario_file.specs.Reading.{Contents}
use Rattle.script_grammar.specs.Names.{who_of}
use Rattle.script_lines.specs.Scripts.{script_in}
use Rattle.script_lines.specs.Sayings.{words_in}
use Rattle.script_lines.specs.declared.script.Line.{Line}
use Rattle.script_lines.specs.declared.saying.Saying.{Saying}
use Rattle.command_ends.specs.Steps.{Step}
use Rattle.command_ends.specs.Steps.Step.{Gives, Refuses}
use Rattle.command_ends.specs.Calls.{TextCause, CountsStay, FaultsOfFiles}
use Rattle.command_ends.specs.Complete.{IsAlike}
use Rattle.command_ends.specs.declared.refusal.Refusal.{Refusal}
use Rattle.command_ends.specs.declared.refusal.Refusal.TheVariants as refusal
use Rattle.command_ends.proofs.Completes.{alike-same}
use Rattle.command_ends.proofs.Courses.{comes-now}
use Rattle.run_commands.specs.Readers.{Readers, RunGives}
use Rattle.command_files.specs.Scenarios.{scenario_at, scenario_refusal}
use Rattle.run_commands.specs.Reading.{script_refusal, words_refusal}
use Rattle.run_commands.specs.Course.{Accepted, RunCourse, RunEnds, RunStep}
use Rattle.run_commands.specs.Told.{told_runs}

-- the text that was made is one that may come now, and tells its history
pub run-now : (next : List (List ℕ) → Step → Type 0) (held : List ℕ → Option (List ℕ)) (first last : List ℕ → ℕ)
    (before : List (List ℕ))
    (r : Readers) (turns : ℕ) (c : Contents) (lines : List Line) (sayings : List Saying)
    (result : Result (Vec ℕ Global) Refusal)
    → ((step : Step) → RunEnds (told_runs r) turns c lines sayings step → next before step) → RunGives r c lines sayings turns result
    → TextCause next held first last before result
run-now next held first last before r turns c lines sayings (Ok text) due (history, may, is, tells) =
    comes-now next held before (Gives text.items) (due (Gives text.items) (history, (may, tells), ap Gives is))
run-now next held first last before r turns c lines sayings (Err refusal.Usage) due makes = absurd makes
run-now next held first last before r turns c lines sayings (Err (refusal.Fault name)) due makes = absurd makes
run-now next held first last before r turns c lines sayings (Err (refusal.TooLong name)) due makes = absurd makes
run-now next held first last before r turns c lines sayings (Err (refusal.Scenario fault)) due makes = absurd makes
run-now next held first last before r turns c lines sayings (Err (refusal.Script fault number)) due makes = absurd makes
run-now next held first last before r turns c lines sayings (Err (refusal.Words fault number)) due makes = absurd makes
run-now next held first last before r turns c lines sayings (Err (refusal.History fault number)) due makes = absurd makes
run-now next held first last before r turns c lines sayings (Err (refusal.Pieces at)) due makes = absurd makes
run-now next held first last before r turns c lines sayings (Err (refusal.Keep kept_name kept_fault)) due makes = absurd makes
run-now next held first last before r turns c lines sayings (Err refusal.NotVerified) due makes = absurd makes
run-now next held first last before r turns c lines sayings (Err (refusal.NoAnswer lack)) due makes = absurd makes
run-now next held first last before r turns c lines sayings (Err refusal.Output) due makes = absurd makes
run-now next held first last before r turns c lines sayings (Err refusal.Memory) due makes = tt

-- a run loads no file
pub run-faults : (r : Readers) (turns : ℕ) (c : Contents) (lines : List Line) (sayings : List Saying) (before after : List ℕ → ℕ)
    (result : Result (Vec ℕ Global) Refusal)
    → RunGives r c lines sayings turns result → CountsStay before after → FaultsOfFiles result before after
run-faults r turns c lines sayings before after (Ok text) makes stay = stay
run-faults r turns c lines sayings before after (Err refusal.Usage) makes stay = absurd makes
run-faults r turns c lines sayings before after (Err (refusal.Fault name)) makes stay = absurd makes
run-faults r turns c lines sayings before after (Err (refusal.TooLong name)) makes stay = absurd makes
run-faults r turns c lines sayings before after (Err (refusal.Scenario fault)) makes stay = absurd makes
run-faults r turns c lines sayings before after (Err (refusal.Script fault number)) makes stay = absurd makes
run-faults r turns c lines sayings before after (Err (refusal.Words fault number)) makes stay = absurd makes
run-faults r turns c lines sayings before after (Err (refusal.History fault number)) makes stay = absurd makes
run-faults r turns c lines sayings before after (Err (refusal.Pieces at)) makes stay = absurd makes
run-faults r turns c lines sayings before after (Err (refusal.Keep kept_name kept_fault)) makes stay = absurd makes
run-faults r turns c lines sayings before after (Err refusal.NotVerified) makes stay = absurd makes
run-faults r turns c lines sayings before after (Err (refusal.NoAnswer lack)) makes stay = absurd makes
run-faults r turns c lines sayings before after (Err refusal.Output) makes stay = absurd makes
run-faults r turns c lines sayings before after (Err refusal.Memory) makes stay = stay

-- ---- What comes next in a run is one step, or one of several texts.

alike-ends : (r : Readers) (turns : ℕ) (c : Contents) (lines : List Line) (sayings : List Saying) (one other : Step) →
    RunEnds r turns c lines sayings one
    → RunEnds r turns c lines sayings other → IsAlike one other
alike-ends r turns c lines sayings one other (a, run_a, is_a) (b, run_b, is_b) =
    subst (λ s. IsAlike s other) (sym is_a) (subst (λ s. IsAlike (Gives (r.text_of c a)) s) (sym is_b) tt)

pub alike-accepted : {A E : Type 0} (refuse : E → Refusal) (answer : Result A E) (After : A → Step → Type 0)
    → ((value : A) (one other : Step) → After value one → After value other → IsAlike one other)
    → (one other : Step) → Accepted refuse answer After one → Accepted refuse answer After other → IsAlike one other
alike-accepted refuse (Ok value) After certain one other a b = certain value one other a b
alike-accepted refuse (Err e) After certain one other a b = alike-same one other (a ∙ sym b)

pub alike-course : (r : Readers) (scenario script words : List ℕ) (turns : ℕ) (contents : List (List ℕ))
    (one other : Step)
    → RunCourse r scenario script words turns contents one → RunCourse r scenario script words turns contents other
    → IsAlike one other
alike-course r scenario script words turns [] one other a b = alike-same one other (a ∙ sym b)
alike-course r scenario script words turns (x ∷ []) one other a b = alike-same one other (a ∙ sym b)
alike-course r scenario script words turns (x ∷ y ∷ []) one other a b = alike-same one other (a ∙ sym b)
alike-course r scenario script words turns (x ∷ y ∷ z ∷ more) one other a b =
    alike-accepted scenario_refusal (scenario_at x)
    (λ c. Accepted script_refusal (script_in (who_of c) y)
    (λ ls. Accepted words_refusal (words_in (who_of c) z) (RunEnds r turns c ls)))
    (λ c. alike-accepted script_refusal (script_in (who_of c) y)
    (λ ls. Accepted words_refusal (words_in (who_of c) z) (RunEnds r turns c ls))
    (λ lines. alike-accepted words_refusal (words_in (who_of c) z) (RunEnds r turns c lines)
    (λ sayings. alike-ends r turns c lines sayings))) one other a b

-- ---- Numbers that a run may have, and others.

module _ (r : Readers) (is : Bool) (scenario script words : List ℕ) (turns : ℕ) (held : List ℕ → Option (List ℕ))
    (first last : List ℕ → ℕ) (result : Result (Vec ℕ Global) Refusal) where
  pub in-range : is ≡ true → TextCause (RunCourse r scenario script words turns) held first last [] result →
      TextCause (RunStep r is scenario script words turns) held first last [] result
  in-range ranged cause =
      subst (λ b. TextCause (RunStep r b scenario script words turns) held first last [] result) (sym ranged) cause

  pub out-of-range : is ≡ false → result ≡ Err refusal.Usage →
      TextCause (RunStep r is scenario script words turns) held first last [] result
  out-of-range ranged usage =
      subst (λ x. TextCause (RunStep r is scenario script words turns) held first last [] x) (sym usage)
      (subst (λ b. TextCause (RunStep r b scenario script words turns) held first last [] (Err refusal.Usage))
      (sym ranged) (comes-now (RunStep r false scenario script words turns) held [] (Refuses refusal.Usage) refl))
