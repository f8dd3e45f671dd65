-- What is told of each step holds of the steps that a command may take: so the end of a call that is told goes by the same
-- words, files and causes.
use Rattle.std.proofs.Common.{◌≡◌, ℕ, Bool, true, false, List, [], ◌∷◌, ◌++◌, Option, None, Some, Result, Ok, Err, length}
use Rattle.std.specs.Prelude.{slice_get}
use Rattle.scenario_file.specs.Reading.{Contents}
use Rattle.script_grammar.specs.Names.{who_of}
use Rattle.script_lines.specs.Scripts.{script_in}
use Rattle.script_lines.specs.Sayings.{words_in}
use Rattle.script_lines.specs.declared.script.Line.{Line}
use Rattle.script_lines.specs.declared.saying.Saying.{Saying}
use Rattle.command_words.specs.Wanted.{Wanted, play, run, replay, make, keys, key, verify, parts, rebuild, blame, trend, delays, page}
use Rattle.command_words.specs.Wanted.{picture, plot, chart, merge}
use Rattle.command_words.specs.Wanted.{is_command, wanted_in}
use Rattle.command_ends.specs.Steps.{Step}
use Rattle.command_ends.specs.Steps.Step.{Gives}
use Rattle.command_ends.specs.Calls.{Call, Loaded, Comes, CauseOf, NothingOrBegun, PutsInMemory}
use Rattle.command_ends.specs.Ended.{ErrorSink, Ends}
use Rattle.command_ends.specs.declared.refusal.KeepFault.{KeepFault}
use Rattle.command_ends.specs.declared.refusal.LineFault.{LineFault}
use Rattle.command_ends.specs.declared.refusal.Refusal.{Refusal}
use Rattle.command_ends.specs.declared.refusal.Refusal.TheVariants as refusal
use Rattle.run_commands.specs.Readers.{Readers, are_few, are_in_range}
use Rattle.command_files.specs.Scenarios.{scenario_at, scenario_refusal}
use Rattle.run_commands.specs.Reading.{accepted, script_refusal, words_refusal}
use Rattle.run_commands.specs.Reading.{with_script, with_words, with_play, with_history}
use Rattle.run_commands.specs.Course.{Accepted, MergeEnds, MergeNext, MergeStep, RunEnds, RunStep, ScriptedCourse, CommandStep, AskedStep, NextStep}
use Rattle.run_commands.specs.Course.{play_step, replay_step}
use Rattle.run_commands.specs.Told.{GivesTold, PlayEnds, ReplayEnds, ReplayCourse, ToldStep, ToldAsked, ToldNext, told_merges, told_runs}

-- ---- Steps that may come less often.

module _ (next other : List (List ℕ) → Step → Type 0)
    (goes : (contents : List (List ℕ)) (step : Step) → next contents step → other contents step) where
  pub weaker-loaded : (held : List ℕ → Option (List ℕ)) (before more : List (List ℕ)) →
      Loaded next held before more → Loaded other held before more
  weaker-loaded held before [] loaded = tt
  weaker-loaded held before (content ∷ more) (name, most, due, told, short, rest) =
      (name, most, goes before _ due, told, short, weaker-loaded held (before ++ content ∷ []) more rest)

  pub weaker-comes : (held : List ℕ → Option (List ℕ)) (before : List (List ℕ)) (step : Step) →
      Comes next held before step → Comes other held before step
  weaker-comes held before step (more, loaded, last) =
      (more, weaker-loaded held before more loaded, goes (before ++ more) step last)

module _ (next other : List (List ℕ) → List (List ℕ) → Step → Type 0)
    (goes : (words contents : List (List ℕ)) (step : Step) → next words contents step → other words contents step)
    (call : Call) where
  comes : (step : Step) → Comes (next call.words) call.held [] step → Comes (other call.words) call.held [] step
  comes step from = weaker-comes (next call.words) (other call.words) (goes call.words) call.held [] step from

  weaker-cause : (result : Result (Unit {0}) Refusal) → CauseOf next call result → CauseOf other call result
  weaker-cause (Ok done) cause = (cause.0, comes (Gives cause.0) cause.1, cause.2)
  weaker-cause (Err (refusal.Fault name)) cause = (cause.0, comes _ cause.1, cause.2, cause.3)
  weaker-cause (Err (refusal.TooLong name)) cause = (cause.0, comes _ cause.1, cause.2, cause.3)
  weaker-cause (Err refusal.Output) cause = (cause.0, comes (Gives cause.0) cause.1, cause.2, cause.3)
  weaker-cause (Err refusal.Memory) cause = tt
  weaker-cause (Err refusal.Usage) cause = (comes _ cause.0, cause.1)
  weaker-cause (Err (refusal.Scenario fault)) cause = (comes _ cause.0, cause.1)
  weaker-cause (Err (refusal.Script fault number)) cause = (comes _ cause.0, cause.1)
  weaker-cause (Err (refusal.Words fault number)) cause = (comes _ cause.0, cause.1)
  weaker-cause (Err (refusal.History fault number)) cause = (comes _ cause.0, cause.1)
  weaker-cause (Err (refusal.Pieces at)) cause = (comes _ cause.0, cause.1)
  weaker-cause (Err (refusal.Keep kept_name kept_fault)) cause = (comes _ cause.0, cause.1)
  weaker-cause (Err refusal.NotVerified) cause = (comes _ cause.0, cause.1)
  weaker-cause (Err (refusal.NoAnswer lack)) cause = (comes _ cause.0, cause.1)

  weaker-memory : (result : Result (Unit {0}) Refusal) → PutsInMemory next call result → PutsInMemory other call result
  weaker-memory (Err refusal.Memory) (NothingOrBegun.nothing none) = NothingOrBegun.nothing none
  weaker-memory (Err refusal.Memory) (NothingOrBegun.begun text from put) =
      NothingOrBegun.begun text (comes (Gives text) from) put
  weaker-memory (Ok done) puts = tt
  weaker-memory (Err refusal.Usage) puts = tt
  weaker-memory (Err (refusal.Scenario fault)) puts = tt
  weaker-memory (Err (refusal.Script fault number)) puts = tt
  weaker-memory (Err (refusal.Words fault number)) puts = tt
  weaker-memory (Err (refusal.History fault number)) puts = tt
  weaker-memory (Err (refusal.Pieces at)) puts = tt
  weaker-memory (Err (refusal.Keep kept_name kept_fault)) puts = tt
  weaker-memory (Err refusal.NotVerified) puts = tt
  weaker-memory (Err (refusal.NoAnswer lack)) puts = tt
  weaker-memory (Err (refusal.Fault name)) puts = tt
  weaker-memory (Err (refusal.TooLong name)) puts = tt
  weaker-memory (Err refusal.Output) puts = tt

  pub weaker-ends : (err : ErrorSink) (status : ℕ) → Ends next call err status → Ends other call err status
  weaker-ends err status ends = record {
    result = ends.result;
    cause = weaker-cause ends.result ends.cause;
    memory = weaker-memory ends.result ends.memory;
    file_faults = ends.file_faults;
    out_faults = ends.out_faults;
    finish = ends.finish;
  }

-- ---- The steps of commands.

-- what comes of an answer, where it is one step for each value
accepted-step : {A E : Type 0} (refuse : E → Refusal) (answer : Result A E) (After : A → Step → Type 0)
    (onward : A → Step) (step : Step) → ((value : A) → After value step → step ≡ onward value)
    → Accepted refuse answer After step → step ≡ accepted refuse answer onward
accepted-step refuse (Ok value) After onward step goes told = goes value told
accepted-step refuse (Err e) After onward step goes told = told

accepted-weaker : {A E : Type 0} (refuse : E → Refusal) (answer : Result A E) (After Other : A → Step → Type 0)
    (step : Step) → ((value : A) → After value step → Other value step)
    → Accepted refuse answer After step → Accepted refuse answer Other step
accepted-weaker refuse (Ok value) After Other step goes told = goes value told
accepted-weaker refuse (Err e) After Other step goes told = told

module _ (r : Readers) where
  play-told : (c : Contents) (lines : List Line) (sayings : List Saying) (step : Step) →
      PlayEnds r c lines sayings step → step ≡ with_play r c lines sayings (λ h. Gives (r.text_of c h))
  play-told c lines sayings step told =
      accepted-step (λ (e : LineFault × ℕ). refusal.Script e.0 e.1) (r.played c lines sayings) (GivesTold r c)
      (λ h. Gives (r.text_of c h)) step (λ h gives. gives.0) told

  played-told : (scenario script words : List ℕ) (contents : List (List ℕ)) (step : Step) →
      ScriptedCourse r (PlayEnds r) scenario script words contents step
      → step ≡ play_step r scenario script words contents
  played-told scenario script words [] step told = told
  played-told scenario script words (a ∷ []) step told = told
  played-told scenario script words (a ∷ b ∷ []) step told = told
  played-told scenario script words (a ∷ b ∷ d ∷ more) step told =
      accepted-step scenario_refusal (scenario_at a)
      (λ c. Accepted script_refusal (script_in (who_of c) b)
      (λ lines. Accepted words_refusal (words_in (who_of c) d) (PlayEnds r c lines)))
      (λ c. with_script c b (λ lines. with_words c d
      (λ sayings. with_play r c lines sayings (λ h. Gives (r.text_of c h))))) step
      (λ c. accepted-step script_refusal (script_in (who_of c) b)
      (λ lines. Accepted words_refusal (words_in (who_of c) d) (PlayEnds r c lines))
      (λ lines. with_words c d (λ sayings. with_play r c lines sayings (λ h. Gives (r.text_of c h)))) step
      (λ lines. accepted-step words_refusal (words_in (who_of c) d) (PlayEnds r c lines)
      (λ sayings. with_play r c lines sayings (λ h. Gives (r.text_of c h))) step
      (λ sayings. play-told c lines sayings step))) told

  replayed-told : (scenario history : List ℕ) (contents : List (List ℕ)) (step : Step) →
      ReplayCourse r scenario history contents step → step ≡ replay_step r scenario history contents
  replayed-told scenario history [] step told = told
  replayed-told scenario history (a ∷ []) step told = told
  replayed-told scenario history (a ∷ b ∷ more) step told =
      accepted-step scenario_refusal (scenario_at a) (ReplayEnds r b)
      (λ c. with_history r c b (λ h. Gives (r.text_of c h))) step
      (λ c. accepted-step (λ (e : LineFault × ℕ). refusal.History e.0 e.1) (r.history_in c b) (GivesTold r c)
      (λ h. Gives (r.text_of c h)) step (λ h gives. gives.0)) told

  ran-told : (turns : ℕ) (c : Contents) (lines : List Line) (sayings : List Saying) (step : Step) →
      RunEnds (told_runs r) turns c lines sayings step → RunEnds r turns c lines sayings step
  ran-told turns c lines sayings step (history, (may, tells), is) = (history, may, is)

  run-told : (in-range : Bool) (scenario script words : List ℕ) (turns : ℕ) (contents : List (List ℕ)) (step : Step) →
      RunStep (told_runs r) in-range scenario script words turns contents step
      → RunStep r in-range scenario script words turns contents step
  run-told false scenario script words turns contents step told = told
  run-told true scenario script words turns [] step told = told
  run-told true scenario script words turns (a ∷ []) step told = told
  run-told true scenario script words turns (a ∷ b ∷ []) step told = told
  run-told true scenario script words turns (a ∷ b ∷ d ∷ more) step told =
      accepted-weaker scenario_refusal (scenario_at a)
      (λ c. Accepted script_refusal (script_in (who_of c) b)
      (λ lines. Accepted words_refusal (words_in (who_of c) d) (RunEnds (told_runs r) turns c lines)))
      (λ c. Accepted script_refusal (script_in (who_of c) b)
      (λ lines. Accepted words_refusal (words_in (who_of c) d) (RunEnds r turns c lines))) step
      (λ c. accepted-weaker script_refusal (script_in (who_of c) b)
      (λ lines. Accepted words_refusal (words_in (who_of c) d) (RunEnds (told_runs r) turns c lines))
      (λ lines. Accepted words_refusal (words_in (who_of c) d) (RunEnds r turns c lines)) step
      (λ lines. accepted-weaker words_refusal (words_in (who_of c) d) (RunEnds (told_runs r) turns c lines)
      (RunEnds r turns c lines) step (λ sayings. ran-told turns c lines sayings step))) told

  merged-told : (c : Contents) (keeps kept : List (List ℕ)) (fault : Option (ℕ × KeepFault)) (step : Step) →
      MergeEnds (told_merges r) c keeps kept fault step → MergeEnds r c keeps kept fault step
  merged-told c keeps kept (Some fault) step told = told
  merged-told c keeps kept None step (history, (may, tells), is) = (history, may, is)

  merge-next-told : (c : Contents) (keeps kept : List (List ℕ)) (name : Option (List ℕ)) (step : Step) →
      MergeNext (told_merges r) c keeps kept name step → MergeNext r c keeps kept name step
  merge-next-told c keeps kept (Some name) step told = told
  merge-next-told c keeps kept None step told = merged-told c keeps kept (r.join_fault c kept) step told

  merge-told : (few : Bool) (scenario : List ℕ) (keeps contents : List (List ℕ)) (step : Step) →
      MergeStep (told_merges r) few scenario keeps contents step → MergeStep r few scenario keeps contents step
  merge-told false scenario keeps contents step told = told
  merge-told true scenario keeps [] step told = told
  merge-told true scenario keeps (a ∷ kept) step told =
      accepted-weaker scenario_refusal (scenario_at a)
      (λ c. MergeNext (told_merges r) c keeps kept (slice_get keeps (length kept)))
      (λ c. MergeNext r c keeps kept (slice_get keeps (length kept))) step
      (λ c. merge-next-told c keeps kept (slice_get keeps (length kept)) step) told

  told-command : (w : Wanted) (contents : List (List ℕ)) (step : Step) → ToldStep r w contents step →
      CommandStep r w contents step
  told-command (play scenario script words) contents step told =
      played-told scenario script words contents step told
  told-command (replay scenario history) contents step told = replayed-told scenario history contents step told
  told-command (run scenario script words hands turns) contents step told =
      run-told (are_in_range hands turns) scenario script words turns contents step told
  told-command (make number) contents step told = told
  told-command (keys scenario) contents step told = told
  told-command (key scenario actor) contents step told = told
  told-command (verify public message sig) contents step told = told
  told-command (rebuild scenario pieces) contents step told = told
  told-command (parts scenario history originator number) contents step told = told
  told-command (blame scenario history) contents step told = told
  told-command (trend scenario history point from to) contents step told = told
  told-command (delays scenario history) contents step told = told
  told-command (page scenario history) contents step told = told
  told-command (picture scenario history first last width) contents step told = told
  told-command (plot scenario history point width) contents step told = told
  told-command (chart scenario history width) contents step told = told
  told-command (merge scenario keeps) contents step told =
      merge-told (are_few (length keeps)) scenario keeps contents step told

  told-asked : (is : Bool) (asked : Option Wanted) (contents : List (List ℕ)) (step : Step) →
      ToldAsked r is asked contents step → AskedStep r is asked contents step
  told-asked false asked contents step told = told
  told-asked true None contents step told = absurd told
  told-asked true (Some w) contents step told = told-command w contents step told

  -- A step that is told may come.
  pub told-next : (words contents : List (List ℕ)) (step : Step) → ToldNext r words contents step →
      NextStep r words contents step
  told-next words contents step told = told-asked (is_command words) (wanted_in words) contents step told
