-- The steps of plays, replays and the other commands.
use Rattle.std.proofs.Common.{inl, inr, ◌≡◌, ℕ, Bool, true, List, [], ◌∷◌, Option, Some, Result, Ok, Err, refl, sym}
use Rattle.std.proofs.Common.{◌∙◌, ap, subst}
use Rattle.std.specs.declared.vec.Vec.{Vec}
use Rattle.std.specs.declared.alloc.Global.{Global}
use Rattle.scenario_file.specs.Reading.{Contents}
use Rattle.history_rules.specs.Events.{Entry}
use Rattle.script_lines.specs.declared.script.Line.{Line}
use Rattle.script_lines.specs.declared.saying.Saying.{Saying}
use Rattle.command_words.specs.Wanted.{Wanted, is_command, wanted_in}
use Rattle.command_ends.specs.Steps.{Step}
use Rattle.command_ends.specs.Steps.Step.{Load, Gives, Refuses}
use Rattle.command_ends.specs.declared.limits.TheConstants.{MOST_BYTES}
use Rattle.command_ends.specs.Calls.{TextCause}
use Rattle.command_ends.specs.declared.refusal.LineFault.{LineFault}
use Rattle.command_ends.specs.declared.refusal.Refusal.{Refusal}
use Rattle.command_ends.specs.declared.refusal.Refusal.TheVariants as refusal
use Rattle.run_commands.specs.MadeScript.{made_script}
use Rattle.run_commands.specs.Readers.{Readers, PlayGives, ReplayGives}
use Rattle.command_files.specs.Scenarios.{scenario_at, scenario_refusal}
use Rattle.run_commands.specs.Reading.{accepted, with_scenario, with_script, with_words}
use Rattle.run_commands.specs.Reading.{with_play}
use Rattle.run_commands.specs.Course.{made_history, VerifyStep}
use Rattle.run_commands.specs.Told.{GivesTold, PlayEnds, ReplayEnds, ReplayCourse, ToldStep, ToldAsked, ToldNext}
use Rattle.run_commands.specs.Opened.{LeadsTo, Leads}
use Rattle.run_commands.specs.Made.{Makes, MakesRun, VerifyMakes}
use Rattle.command_ends.proofs.Courses.{comes-now}
use Rattle.run_commands.proofs.Scripting.{accepted-value, accepted-err}

-- the words are a command that asks for this
pub asked-now : (r : Readers) (words : List (List ℕ)) (w : Wanted) (held : List ℕ → Option (List ℕ))
    (first last : List ℕ → ℕ) (result : Result (Vec ℕ Global) Refusal)
    → is_command words ≡ true → wanted_in words ≡ Some w → TextCause (ToldStep r w) held first last [] result
    → TextCause (ToldNext r words) held first last [] result
asked-now r words w held first last result is asked cause =
    subst (λ (b : Bool). TextCause (ToldAsked r b (wanted_in words)) held first last [] result) (sym is)
    (subst (λ (o : Option Wanted). TextCause (ToldAsked r true o) held first last [] result) (sym asked) cause)

-- ---- A play.

-- the text of a play tells its history, and is one that may come now; so is the line at which it stops
pub play-now : (next : List (List ℕ) → Step → Type 0) (held : List ℕ → Option (List ℕ)) (first last : List ℕ → ℕ)
    (before : List (List ℕ))
    (r : Readers) (c : Contents) (lines : List Line) (sayings : List Saying) (result : Result (Vec ℕ Global) Refusal)
    → ((step : Step) → PlayEnds r c lines sayings step → next before step) → PlayGives r c lines sayings result
    → TextCause next held first last before result
play-now next held first last before r c lines sayings (Ok text) due (history, played, is, tells) =
    comes-now next held before (Gives text.items)
    (due (Gives text.items)
    (accepted-value (λ (e : LineFault × ℕ). refusal.Script e.0 e.1) (r.played c lines sayings) history (GivesTold r c)
    (Gives text.items) played (ap Gives is, tells)))
play-now next held first last before r c lines sayings (Err (refusal.Script fault number)) due played =
    comes-now next held before (Refuses (refusal.Script fault number))
    (due (Refuses (refusal.Script fault number))
    (accepted-err (λ (e : LineFault × ℕ). refusal.Script e.0 e.1) (r.played c lines sayings) (fault, number)
    (GivesTold r c) played))
play-now next held first last before r c lines sayings (Err refusal.Memory) due gives = tt
play-now next held first last before r c lines sayings (Err refusal.Usage) due gives = absurd gives
play-now next held first last before r c lines sayings (Err (refusal.Fault name)) due gives = absurd gives
play-now next held first last before r c lines sayings (Err (refusal.TooLong name)) due gives = absurd gives
play-now next held first last before r c lines sayings (Err (refusal.Scenario fault)) due gives = absurd gives
play-now next held first last before r c lines sayings (Err (refusal.Words fault number)) due gives = absurd gives
play-now next held first last before r c lines sayings (Err (refusal.History fault number)) due gives = absurd gives
play-now next held first last before r c lines sayings (Err (refusal.Pieces at)) due gives = absurd gives
play-now next held first last before r c lines sayings (Err (refusal.Keep kept_name kept_fault)) due gives = absurd gives
play-now next held first last before r c lines sayings (Err refusal.NotVerified) due gives = absurd gives
play-now next held first last before r c lines sayings (Err (refusal.NoAnswer lack)) due gives = absurd gives
play-now next held first last before r c lines sayings (Err refusal.Output) due gives = absurd gives

-- ---- A replay.

module _ (r : Readers) (scenario history : List ℕ) where
  pub replay-first : (first : List ℕ) (c : Contents) → scenario_at first ≡ Ok c →
      ReplayCourse r scenario history (first ∷ []) (Load history MOST_BYTES)
  replay-first first c one = sym (ap (λ a. accepted scenario_refusal a (λ (d : Contents). Load history MOST_BYTES)) one)

  pub replay-refused : (first : List ℕ) (w : Refusal) →
      ((onward : Contents → Step) → with_scenario first onward ≡ Refuses w)
      → ReplayCourse r scenario history (first ∷ []) (Refuses w)
  replay-refused first w one = sym (one (λ d. Load history MOST_BYTES))

  pub replay-second : (first second : List ℕ) (c : Contents) (step : Step) → scenario_at first ≡ Ok c →
      ReplayEnds r second c step
      → ReplayCourse r scenario history (first ∷ second ∷ []) step
  replay-second first second c step one ends =
      accepted-value scenario_refusal (scenario_at first) c (ReplayEnds r second) step one ends

-- the text of a history that is read tells it, and is the one that may come now; so is why there is none
pub replay-now : (next : List (List ℕ) → Step → Type 0) (held : List ℕ → Option (List ℕ)) (first last : List ℕ → ℕ)
    (before : List (List ℕ))
    (r : Readers) (c : Contents) (text : List ℕ) (result : Result (Vec ℕ Global) Refusal)
    → ((step : Step) → ReplayEnds r text c step → next before step) → ReplayGives r c text result
    → TextCause next held first last before result
replay-now next held first last before r c text (Ok printed) due (history, spelt, is, tells) =
    comes-now next held before (Gives printed.items)
    (due (Gives printed.items)
    (accepted-value (λ (e : LineFault × ℕ). refusal.History e.0 e.1) (r.history_in c text) history (GivesTold r c)
    (Gives printed.items) spelt (ap Gives is, tells)))
replay-now next held first last before r c text (Err (refusal.History fault number)) due spelt =
    comes-now next held before (Refuses (refusal.History fault number))
    (due (Refuses (refusal.History fault number))
    (accepted-err (λ (e : LineFault × ℕ). refusal.History e.0 e.1) (r.history_in c text) (fault, number)
    (GivesTold r c) spelt))
replay-now next held first last before r c text (Err refusal.Memory) due gives = tt
replay-now next held first last before r c text (Err refusal.Usage) due gives = absurd gives
replay-now next held first last before r c text (Err (refusal.Fault name)) due gives = absurd gives
replay-now next held first last before r c text (Err (refusal.TooLong name)) due gives = absurd gives
replay-now next held first last before r c text (Err (refusal.Scenario fault)) due gives = absurd gives
replay-now next held first last before r c text (Err (refusal.Script fault number)) due gives = absurd gives
replay-now next held first last before r c text (Err (refusal.Words fault number)) due gives = absurd gives
replay-now next held first last before r c text (Err (refusal.Pieces at)) due gives = absurd gives
replay-now next held first last before r c text (Err (refusal.Keep kept_name kept_fault)) due gives = absurd gives
replay-now next held first last before r c text (Err refusal.NotVerified) due gives = absurd gives
replay-now next held first last before r c text (Err (refusal.NoAnswer lack)) due gives = absurd gives
replay-now next held first last before r c text (Err refusal.Output) due gives = absurd gives

-- ---- A made run.

-- a content that isn't accepted
pub leads-refused : {A V : Type 0} (reads : List ℕ → (V → Step) → Step) (shown : A → V) (content : List ℕ)
    (onward : V → Step) (why : Refusal)
    → Leads reads shown content (Err why) → Makes (reads content onward) (Err why)
leads-refused reads shown content onward refusal.Memory leads = tt
leads-refused reads shown content onward (refusal.Fault name) leads = absurd leads
leads-refused reads shown content onward (refusal.TooLong name) leads = absurd leads
leads-refused reads shown content onward refusal.Output leads = absurd leads
leads-refused reads shown content onward refusal.Usage leads = leads onward
leads-refused reads shown content onward (refusal.Scenario fault) leads = leads onward
leads-refused reads shown content onward (refusal.Script fault number) leads = leads onward
leads-refused reads shown content onward (refusal.Words fault number) leads = leads onward
leads-refused reads shown content onward (refusal.History fault number) leads = leads onward
leads-refused reads shown content onward refusal.NotVerified leads = leads onward
leads-refused reads shown content onward (refusal.NoAnswer lack) leads = leads onward
leads-refused reads shown content onward (refusal.Pieces at) leads = leads onward
leads-refused reads shown content onward (refusal.Keep kept_name kept_fault) leads = leads onward

-- where scripts or words aren't accepted, or the play stops, there is no made history
refuses-run : (r : Readers) (c : Contents) (number : ℕ) (why : Refusal) →
    ((onward : List Entry → Step) → Makes (made_history r c number onward) (Err why))
    → MakesRun r c number (Err why)
refuses-run r c number refusal.Memory all = tt
refuses-run r c number (refusal.Fault name) all = all (λ h. Gives [])
refuses-run r c number (refusal.TooLong name) all = all (λ h. Gives [])
refuses-run r c number refusal.Output all = all (λ h. Gives [])
refuses-run r c number refusal.Usage all = all
refuses-run r c number (refusal.Scenario fault) all = all
refuses-run r c number (refusal.Script fault line) all = all
refuses-run r c number (refusal.Words fault line) all = all
refuses-run r c number (refusal.History fault place) all = all
refuses-run r c number refusal.NotVerified all = all
refuses-run r c number (refusal.NoAnswer lack) all = all
refuses-run r c number (refusal.Pieces at) all = all
refuses-run r c number (refusal.Keep kept_name kept_fault) all = all

pub run-words-refused : {A : Type 0} (shown : A → List Saying) (r : Readers) (c : Contents) (number : ℕ)
    (content : List ℕ) (lines : List Line) (why : Refusal)
    → content ≡ made_script number → LeadsTo (with_script c) content lines → Leads (with_words c) shown [] (Err why) →
    MakesRun r c number (Err why)
run-words-refused shown r c number content lines why is two leads =
    refuses-run r c number why (λ onward. subst (λ s. Makes s (Err why))
    (sym (subst (λ t. LeadsTo (with_script c) t lines) is two
    (λ ls. with_words c [] (λ sayings. with_play r c ls sayings onward))))
    (leads-refused (with_words c) shown [] (λ sayings. with_play r c lines sayings onward) why leads))

made-history-is : (r : Readers) (c : Contents) (number : ℕ) (content : List ℕ) (lines : List Line)
    (sayings : List Saying) (onward : List Entry → Step)
    → content ≡ made_script number → LeadsTo (with_script c) content lines → LeadsTo (with_words c) [] sayings
    → made_history r c number onward ≡ with_play r c lines sayings onward
made-history-is r c number content lines sayings onward is two three =
    subst (λ t. LeadsTo (with_script c) t lines) is two (λ ls. with_words c [] (λ s. with_play r c ls s onward))
    ∙ three (λ s. with_play r c lines s onward)

pub run-played : (r : Readers) (c : Contents) (number : ℕ) (content : List ℕ) (lines : List Line)
    (sayings : List Saying) (result : Result (Vec ℕ Global) Refusal)
    → content ≡ made_script number → LeadsTo (with_script c) content lines → LeadsTo (with_words c) [] sayings →
    PlayGives r c lines sayings result
    → MakesRun r c number result
run-played r c number content lines sayings (Ok text) is two three (history, played, printed, tells) = (
  history,
  (λ onward. made-history-is r c number content lines sayings onward is two three
      ∙ ap (λ p. accepted (λ (e : LineFault × ℕ). refusal.Script e.0 e.1) p onward) played),
  printed,
)
run-played r c number content lines sayings (Err (refusal.Script fault line)) is two three played =
    λ onward. made-history-is r c number content lines sayings onward is two three
    ∙ ap (λ p. accepted (λ (e : LineFault × ℕ). refusal.Script e.0 e.1) p onward) played
run-played r c number content lines sayings (Err refusal.Memory) is two three gives = tt
run-played r c number content lines sayings (Err refusal.Usage) is two three gives = absurd gives
run-played r c number content lines sayings (Err (refusal.Fault name)) is two three gives = absurd gives
run-played r c number content lines sayings (Err (refusal.TooLong name)) is two three gives = absurd gives
run-played r c number content lines sayings (Err (refusal.Scenario fault)) is two three gives = absurd gives
run-played r c number content lines sayings (Err (refusal.Words fault line)) is two three gives = absurd gives
run-played r c number content lines sayings (Err (refusal.History fault place)) is two three gives = absurd gives
run-played r c number content lines sayings (Err refusal.NotVerified) is two three gives = absurd gives
run-played r c number content lines sayings (Err (refusal.NoAnswer lack)) is two three gives = absurd gives
run-played r c number content lines sayings (Err (refusal.Pieces at)) is two three gives = absurd gives
run-played r c number content lines sayings (Err (refusal.Keep kept_name kept_fault)) is two three gives = absurd gives
run-played r c number content lines sayings (Err refusal.Output) is two three gives = absurd gives

-- ---- A signature.

pub verify-now : (public message named file sig : List ℕ) (held : List ℕ → Option (List ℕ)) (first last : List ℕ → ℕ)
    (result : Result (Vec ℕ Global) Refusal)
    → VerifyMakes public message sig result →
    TextCause (VerifyStep public named file) held first last (message ∷ sig ∷ []) result
verify-now public message named file sig held first last (Ok text) makes =
    comes-now (VerifyStep public named file) held (message ∷ sig ∷ []) (Gives text.items)
    (inl (makes.0, ap Gives makes.1))
verify-now public message named file sig held first last (Err refusal.NotVerified) makes =
    comes-now (VerifyStep public named file) held (message ∷ sig ∷ []) (Refuses refusal.NotVerified) (inr (makes, refl))
verify-now public message named file sig held first last (Err (refusal.NoAnswer lack)) makes = absurd makes
verify-now public message named file sig held first last (Err (refusal.Pieces at)) makes = absurd makes
verify-now public message named file sig held first last (Err (refusal.Keep kept_name kept_fault)) makes = absurd makes
verify-now public message named file sig held first last (Err refusal.Memory) makes = tt
verify-now public message named file sig held first last (Err refusal.Usage) makes = absurd makes
verify-now public message named file sig held first last (Err (refusal.Fault name)) makes = absurd makes
verify-now public message named file sig held first last (Err (refusal.TooLong name)) makes = absurd makes
verify-now public message named file sig held first last (Err (refusal.Scenario fault)) makes = absurd makes
verify-now public message named file sig held first last (Err (refusal.Script fault number)) makes = absurd makes
verify-now public message named file sig held first last (Err (refusal.Words fault number)) makes = absurd makes
verify-now public message named file sig held first last (Err (refusal.History fault number)) makes = absurd makes
verify-now public message named file sig held first last (Err refusal.Output) makes = absurd makes
