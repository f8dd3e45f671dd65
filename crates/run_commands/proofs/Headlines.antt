-- Why the headline holds of a play, a replay, a run in threads or a merge that ends well.
use Rattle.std.proofs.Common.{◌≡◌, ◌<◌, ◌+◌, ℕ, Bool, true, false, List, [], ◌∷◌, ◌++◌, Option, None, Some, Result, Ok, Err}
use Rattle.std.proofs.Common.{length, append_assoc, append-nil}
use Rattle.std.proofs.lemmas.List.{length-append}
use Rattle.std.proofs.Common.{refl, sym, ◌∙◌, ap, subst, arith, true≢false}
use Rattle.std.specs.Prelude.{if◌then◌else◌, slice_get}
use Rattle.std.specs.Str.{is_utf8}
use Rattle.toml.specs.Parse.{parse_document}
use Rattle.outside.specs.Piece.{with_piece}
use Rattle.scenario_file.specs.Reading.{Contents, scenario_in}
use Rattle.scenario_file.specs.Valid.{IsScenario}
use Rattle.scenario_file.specs.declared.refusal.ScenarioRefusal.{ScenarioRefusal}
use Rattle.scenario_file.specs.declared.refusal.ScenarioRefusal.TheVariants as scenario
use Rattle.scenario_file.proofs.ValidLaws.{or_no_toml-valid}
use Rattle.history_rules.specs.Events.{Entry}
use Rattle.world_rules.proofs.Headline.{headline_of_legal}
use Rattle.script_grammar.specs.Names.{who_of}
use Rattle.script_lines.specs.Scripts.{script_in}
use Rattle.script_lines.specs.Sayings.{words_in}
use Rattle.script_lines.specs.declared.script.Line.{Line}
use Rattle.script_lines.specs.declared.saying.Saying.{Saying}
use Rattle.command_words.specs.Wanted.{Wanted, play, run, replay, make, keys, key, verify, parts, rebuild, blame, trend, delays, page}
use Rattle.command_words.specs.Wanted.{picture, plot, chart, merge}
use Rattle.command_words.specs.Wanted.{is_command, wanted_in}
use Rattle.command_ends.specs.Refusals.{status_of}
use Rattle.command_ends.specs.declared.limits.TheConstants.{MOST_BYTES}
use Rattle.command_ends.specs.Steps.{Step}
use Rattle.command_ends.specs.Steps.Step.{Load, Gives, Refuses}
use Rattle.command_ends.specs.Calls.{Call, CauseOf, Loaded, IsContent}
use Rattle.command_ends.specs.Ended.{ErrorSink, Ends, Finishes, Told}
use Rattle.command_ends.specs.declared.refusal.KeepFault.{KeepFault}
use Rattle.command_ends.specs.declared.refusal.LineFault.{LineFault}
use Rattle.command_ends.specs.declared.refusal.Refusal.{Refusal}
use Rattle.command_ends.specs.declared.refusal.Refusal.TheVariants as refusal
use Rattle.run_commands.specs.Readers.{Readers, KeepsRules, Tells, are_few, are_in_range}
use Rattle.command_files.specs.Scenarios.{scenario_at, scenario_refusal}
use Rattle.run_commands.specs.Reading.{accepted, script_refusal, words_refusal}
use Rattle.run_commands.specs.Reading.{with_scenario, with_script}
use Rattle.run_commands.specs.Course.{CommandStep, AskedStep, NextStep, play_step, replay_step}
use Rattle.run_commands.specs.Course.{Accepted, ScriptedCourse, MergeCourse, MergeEnds, MergeNext, MergeStep, RunCourse, RunEnds, RunStep}
use Rattle.run_commands.specs.Told.{GivesTold, PlayEnds, ReplayEnds, ReplayCourse, ToldStep, ToldAsked, ToldNext, told_merges, told_runs}
use Rattle.run_commands.specs.Headline.{AreContents, IsRun, Headline, KeepsHeadline, asks_for_run}
use Rattle.command_ends.proofs.Completes.{file_of, is_load, is_text, text_in}
use Rattle.run_commands.proofs.Scripting.{accepted-at}
use Rattle.run_commands.proofs.Weaker.{told-next, weaker-loaded}

abbrev is_refusal : Step → Bool
is_refusal (Refuses why) = true
is_refusal _ = false

-- where a text comes of an answer, there was a value
pub accepted-gives : {A E : Type 0} (refuse : E → Refusal) (answer : Result A E) (onward : A → Step) (text : List ℕ) →
    Gives text ≡ accepted refuse answer onward
    → (value : A) × (answer ≡ Ok value) × (Gives text ≡ onward value)
accepted-gives refuse (Ok value) onward text is = (value, refl, is)
accepted-gives refuse (Err e) onward text is = absurd (true≢false (ap is_text is))

pub no-text : (name text : List ℕ) {most : ℕ} → Gives text ≡ Load name most → ⊥
no-text name text is = true≢false (ap is_text is)

text-valid : (text : List ℕ) (c : Contents) → scenario_in text ≡ Ok c → IsScenario c
unfolding scenario_in
text-valid text c is = or_no_toml-valid (parse_document text) c is

abbrev read-if : Bool → List ℕ → Result Contents ScenarioRefusal
read-if is text = if is then scenario_in text else Err scenario.BadToml

read-valid : (is : Bool) (text : List ℕ) (c : Contents) → read-if is text ≡ Ok c → IsScenario c
read-valid true text c is = text-valid text c is
read-valid false text c is = absurd (cc)

pub scenario-valid : (text : List ℕ) (c : Contents) → scenario_at text ≡ Ok c → IsScenario c
unfolding scenario_at
scenario-valid text c is = read-valid (is_utf8 text) text c is

-- words that ask for a command and aren't refused
as-command : (r : Readers) (is : Bool) (w : Wanted) (contents : List (List ℕ)) (step : Step) → is_refusal step ≡ false
    → AskedStep r is (Some w) contents step → CommandStep r w contents step
as-command r false w contents step other asked = absurd (true≢false (sym (ap is_refusal asked) ∙ other))
as-command r true w contents step other asked = asked

next-command : (r : Readers) (words : List (List ℕ)) (w : Wanted) (contents : List (List ℕ)) (step : Step) →
    wanted_in words ≡ Some w
    → is_refusal step ≡ false → NextStep r words contents step → CommandStep r w contents step
next-command r words w contents step asked other next =
    as-command r (is_command words) w contents step other
    (subst (λ (o : Option Wanted). AskedStep r (is_command words) o contents step) asked next)

-- the same of a step that is told
as-told : (r : Readers) (is : Bool) (w : Wanted) (contents : List (List ℕ)) (step : Step) → is_refusal step ≡ false →
    ToldAsked r is (Some w) contents step → ToldStep r w contents step
as-told r false w contents step other asked = absurd (true≢false (sym (ap is_refusal asked) ∙ other))
as-told r true w contents step other asked = asked

told-command : (r : Readers) (words : List (List ℕ)) (w : Wanted) (contents : List (List ℕ)) (step : Step) →
    wanted_in words ≡ Some w
    → is_refusal step ≡ false → ToldNext r words contents step → ToldStep r w contents step
told-command r words w contents step asked other next =
    as-told r (is_command words) w contents step other
    (subst (λ (o : Option Wanted). ToldAsked r (is_command words) o contents step) asked next)

-- the content is that of the file that is due
pub same-file : (held : List ℕ → Option (List ℕ)) (name due content : List ℕ) {most room : ℕ} →
    Load name most ≡ Load due room →
    IsContent (held name) content → IsContent (held due) content
same-file held name due content is told = subst (λ n. IsContent (held n) content) (ap file_of is) told

-- ---- A play.

-- the file that is due after an accepted scenario, and after an accepted script
pub due-second : (due first name : List ℕ) {most : ℕ} (c : Contents) → scenario_at first ≡ Ok c →
    Load name most ≡ with_scenario first (λ d. Load due MOST_BYTES) → Load name most ≡ Load due MOST_BYTES
due-second due first name c one is =
    is ∙ ap (λ a. accepted scenario_refusal a (λ (d : Contents). Load due MOST_BYTES)) one

pub due-third : (due first second name : List ℕ) {most : ℕ} (c : Contents) (lines : List Line) →
    scenario_at first ≡ Ok c → script_in (who_of c) second ≡ Ok lines
    → Load name most ≡ with_scenario first (λ d. with_script d second (λ ls. Load due MOST_BYTES)) →
    Load name most ≡ Load due MOST_BYTES
due-third due first second name c lines one two is =
    is
    ∙ ap (λ a. accepted scenario_refusal a (λ (d : Contents). with_script d second (λ ls. Load due MOST_BYTES))) one
    ∙ ap (λ a. accepted script_refusal a (λ (ls : List Line). Load due MOST_BYTES)) two

play-whole : (r : Readers) → KeepsRules r → (call : Call) (scenario script words text first second third : List ℕ)
    → wanted_in call.words ≡ Some (play scenario script words) → (a b d : List ℕ) {at bt dt : ℕ} → IsContent (call.held a) first →
    IsContent (call.held b) second → IsContent (call.held d) third
    → Load a at ≡ play_step r scenario script words [] → Load b bt ≡ play_step r scenario script words (first ∷ []) →
    Load d dt ≡ play_step r scenario script words (first ∷ second ∷ [])
    → Gives text ≡ play_step r scenario script words (first ∷ second ∷ third ∷ [])
    → ScriptedCourse r (PlayEnds r) scenario script words (first ∷ second ∷ third ∷ []) (Gives text)
    → call.put_after ≡ with_piece call.put_before text → Headline r call
play-whole r laws call scenario script words text first second third asked a b d at_a at_b
    at_d due_a due_b due_d is told put =
    let one = accepted-gives scenario_refusal (scenario_at first) _ text is in
    let c : Contents = one.0 in
    let two = accepted-gives script_refusal (script_in (who_of c) second) _ text one.2 in
    let lines : List Line = two.0 in
    let three = accepted-gives words_refusal (words_in (who_of c) third) _ text two.2 in
    let sayings : List Saying = three.0 in
    let four = accepted-gives (λ (e : LineFault × ℕ). refusal.Script e.0 e.1) (r.played c lines sayings) _ text
    three.2 in
    let history : List Entry = four.0 in
    let valid : IsScenario c = scenario-valid first c one.1 in
    let legal = laws.played_legal c lines sayings history valid (second, two.1) (third, three.1) four.1 in
    let gives : GivesTold r c history (Gives text) =
    accepted-at (λ (e : LineFault × ℕ). refusal.Script e.0 e.1) (r.played c lines sayings) history (GivesTold r c)
    (Gives text) four.1
    (accepted-at words_refusal (words_in (who_of c) third) sayings (PlayEnds r c lines) (Gives text) three.1
    (accepted-at script_refusal (script_in (who_of c) second) lines
    (λ ls. Accepted words_refusal (words_in (who_of c) third) (PlayEnds r c ls)) (Gives text) two.1
    (accepted-at scenario_refusal (scenario_at first) c
    (λ d. Accepted script_refusal (script_in (who_of d) second)
    (λ ls. Accepted words_refusal (words_in (who_of d) third) (PlayEnds r d ls))) (Gives text) one.1 told))) in
    record {
      scenario = c;
      history = history;
      run = IsRun.plays scenario script words asked first second third
          (same-file call.held a scenario first due_a at_a)
          (same-file call.held b script second (due-second script first b c one.1 due_b) at_b)
          (same-file call.held d words third (due-third words first second d c lines one.1 two.1 due_d) at_d)
          lines sayings one.1 two.1 three.1 four.1
          (laws.played_unforged c lines sayings history valid (second, two.1) (third, three.1) four.1)
          (laws.played_told c lines sayings history valid (second, two.1) (third, three.1) four.1);
      legal = legal;
      put = put ∙ ap (λ (s : Step). with_piece call.put_before (text_in s)) four.2;
      told = gives.1;
      agreed = headline_of_legal c history valid legal;
    }

play-run : (r : Readers) → KeepsRules r → (call : Call) (scenario script words text : List ℕ) →
    wanted_in call.words ≡ Some (play scenario script words)
    → (contents : List (List ℕ)) → Loaded (NextStep r call.words) call.held [] contents →
    NextStep r call.words contents (Gives text) → ToldNext r call.words contents (Gives text)
    → call.put_after ≡ with_piece call.put_before text → Headline r call
play-run r laws call scenario script words text asked [] loaded next told put =
    absurd (no-text scenario text
    (next-command r call.words (play scenario script words) [] (Gives text) asked refl next))
play-run r laws call scenario script words text asked (first ∷ []) loaded next told put =
    let one = accepted-gives scenario_refusal (scenario_at first) (λ c. Load script MOST_BYTES) text
    (next-command r call.words (play scenario script words) (first ∷ []) (Gives text) asked refl next) in
    absurd (no-text script text one.2)
play-run r laws call scenario script words text asked (first ∷ second ∷ []) loaded next told put =
    let one = accepted-gives scenario_refusal (scenario_at first) (λ c. with_script c second (λ lines. Load words MOST_BYTES)) text
    (next-command r call.words (play scenario script words) (first ∷ second ∷ []) (Gives text) asked refl next) in
    let two = accepted-gives script_refusal (script_in (who_of one.0) second) (λ lines. Load words MOST_BYTES) text one.2 in
    absurd (no-text words text two.2)
play-run r laws call scenario script words text asked (first ∷ second ∷ third ∷ more) loaded next told put =
    let w : Wanted = play scenario script words in
    play-whole r laws call scenario script words text first second third asked loaded.0 loaded.5.0 loaded.5.5.0
    loaded.3 loaded.5.3 loaded.5.5.3
    (next-command r call.words w [] (Load loaded.0 loaded.1) asked refl loaded.2)
    (next-command r call.words w (first ∷ []) (Load loaded.5.0 loaded.5.1) asked refl loaded.5.2)
    (next-command r call.words w (first ∷ second ∷ []) (Load loaded.5.5.0 loaded.5.5.1) asked refl loaded.5.5.2)
    (next-command r call.words w (first ∷ second ∷ third ∷ more) (Gives text) asked refl next)
    (told-command r call.words w (first ∷ second ∷ third ∷ more) (Gives text) asked refl told) put

-- ---- A replay.

replay-whole : (r : Readers) → KeepsRules r → (call : Call) (scenario spelt text first second : List ℕ)
    → wanted_in call.words ≡ Some (replay scenario spelt) → (a b : List ℕ) {at bt : ℕ} → IsContent (call.held a) first →
    IsContent (call.held b) second
    → Load a at ≡ replay_step r scenario spelt [] → Load b bt ≡ replay_step r scenario spelt (first ∷ [])
    → Gives text ≡ replay_step r scenario spelt (first ∷ second ∷ [])
    → ReplayCourse r scenario spelt (first ∷ second ∷ []) (Gives text)
    → call.put_after ≡ with_piece call.put_before text → Headline r call
replay-whole r laws call scenario spelt text first second asked a b at_a at_b due_a due_b is told put =
    let one = accepted-gives scenario_refusal (scenario_at first) _ text is in
    let c : Contents = one.0 in
    let two = accepted-gives (λ (e : LineFault × ℕ). refusal.History e.0 e.1) (r.history_in c second) _ text one.2 in
    let history : List Entry = two.0 in
    let valid : IsScenario c = scenario-valid first c one.1 in
    let legal = laws.read_legal c second history valid two.1 in
    let gives : GivesTold r c history (Gives text) =
    accepted-at (λ (e : LineFault × ℕ). refusal.History e.0 e.1) (r.history_in c second) history (GivesTold r c)
    (Gives text) two.1
    (accepted-at scenario_refusal (scenario_at first) c (ReplayEnds r second) (Gives text) one.1 told) in
    record {
      scenario = c;
      history = history;
      run = IsRun.replays scenario spelt asked first second
          (same-file call.held a scenario first due_a at_a)
          (same-file call.held b spelt second (due-second spelt first b c one.1 due_b) at_b)
          one.1 two.1;
      legal = legal;
      put = put ∙ ap (λ (s : Step). with_piece call.put_before (text_in s)) two.2;
      told = gives.1;
      agreed = headline_of_legal c history valid legal;
    }

replay-run : (r : Readers) → KeepsRules r → (call : Call) (scenario spelt text : List ℕ) →
    wanted_in call.words ≡ Some (replay scenario spelt)
    → (contents : List (List ℕ)) → Loaded (NextStep r call.words) call.held [] contents →
    NextStep r call.words contents (Gives text) → ToldNext r call.words contents (Gives text)
    → call.put_after ≡ with_piece call.put_before text → Headline r call
replay-run r laws call scenario spelt text asked [] loaded next told put =
    absurd (no-text scenario text (next-command r call.words (replay scenario spelt) [] (Gives text) asked refl next))
replay-run r laws call scenario spelt text asked (first ∷ []) loaded next told put =
    let one = accepted-gives scenario_refusal (scenario_at first) (λ c. Load spelt MOST_BYTES) text
    (next-command r call.words (replay scenario spelt) (first ∷ []) (Gives text) asked refl next) in
    absurd (no-text spelt text one.2)
replay-run r laws call scenario spelt text asked (first ∷ second ∷ more) loaded next told put =
    let w : Wanted = replay scenario spelt in
    replay-whole r laws call scenario spelt text first second asked loaded.0 loaded.5.0 loaded.3 loaded.5.3
    (next-command r call.words w [] (Load loaded.0 loaded.1) asked refl loaded.2)
    (next-command r call.words w (first ∷ []) (Load loaded.5.0 loaded.5.1) asked refl loaded.5.2)
    (next-command r call.words w (first ∷ second ∷ more) (Gives text) asked refl next)
    (told-command r call.words w (first ∷ second ∷ more) (Gives text) asked refl told) put

-- ---- Both.

-- ---- A run in threads.

-- where a text may come of an answer, there was a value
text-after : {A E : Type 0} (refuse : E → Refusal) (answer : Result A E) (After : A → Step → Type 0) (text : List ℕ) →
    Accepted refuse answer After (Gives text)
    → (value : A) × (answer ≡ Ok value) × After value (Gives text)
text-after refuse (Ok value) After text gives = (value, refl, gives)
text-after refuse (Err e) After text gives = absurd (true≢false (ap is_text gives))

as-run : (r : Readers) (in-range : Bool) (scenario script words : List ℕ) (turns : ℕ) (contents : List (List ℕ))
    (step : Step) → is_refusal step ≡ false
    → RunStep r in-range scenario script words turns contents step →
    RunCourse r scenario script words turns contents step
as-run r true scenario script words turns contents step other next = next
as-run r false scenario script words turns contents step other next =
    absurd (true≢false (sym (ap is_refusal next) ∙ other))

run-whole : (r : Readers) → KeepsRules r → (call : Call) (scenario script words : List ℕ) (hands turns : ℕ)
    (text first second third : List ℕ)
    → wanted_in call.words ≡ Some (run scenario script words hands turns)
    → (a b d : List ℕ) {at bt dt : ℕ} → IsContent (call.held a) first → IsContent (call.held b) second →
    IsContent (call.held d) third
    → RunCourse r scenario script words turns [] (Load a at)
    → RunCourse r scenario script words turns (first ∷ []) (Load b bt)
    → RunCourse r scenario script words turns (first ∷ second ∷ []) (Load d dt)
    → RunCourse (told_runs r) scenario script words turns (first ∷ second ∷ third ∷ []) (Gives text)
    → call.put_after ≡ with_piece call.put_before text → Headline r call
run-whole r laws call scenario script words hands turns text first second third asked a b d at_a at_b
    at_d due_a due_b due_d is put =
    let one = text-after scenario_refusal (scenario_at first)
    (λ c. Accepted script_refusal (script_in (who_of c) second)
    (λ ls. Accepted words_refusal (words_in (who_of c) third) (RunEnds (told_runs r) turns c ls))) text is in
    let c : Contents = one.0 in
    let two = text-after script_refusal (script_in (who_of c) second)
    (λ ls. Accepted words_refusal (words_in (who_of c) third) (RunEnds (told_runs r) turns c ls)) text one.2 in
    let lines : List Line = two.0 in
    let three = text-after words_refusal (words_in (who_of c) third) (RunEnds (told_runs r) turns c lines) text two.2 in
    let sayings : List Saying = three.0 in
    let gives : RunEnds (told_runs r) turns c lines sayings (Gives text) = three.2 in
    let history : List Entry = gives.0 in
    let valid : IsScenario c = scenario-valid first c one.1 in
    let legal = laws.run_legal c lines sayings turns history gives.1.0 in
    record {
      scenario = c;
      history = history;
      run = IsRun.runs scenario script words hands turns asked first second third
          (same-file call.held a scenario first due_a at_a)
          (same-file call.held b script second (due-second script first b c one.1 due_b) at_b)
          (same-file call.held d words third (due-third words first second d c lines one.1 two.1 due_d) at_d)
          lines sayings one.1 two.1 three.1 gives.1.0;
      legal = legal;
      put = put ∙ ap (λ (s : Step). with_piece call.put_before (text_in s)) gives.2;
      told = gives.1.1;
      agreed = headline_of_legal c history valid legal;
    }

next-run : (r : Readers) (words : List (List ℕ)) (scenario script spoken : List ℕ) (hands turns : ℕ)
    (contents : List (List ℕ)) (step : Step) → wanted_in words ≡ Some (run scenario script spoken hands turns)
    → is_refusal step ≡ false → NextStep r words contents step → RunCourse r scenario script spoken turns contents step
next-run r words scenario script spoken hands turns contents step asked other next =
    as-run r (are_in_range hands turns) scenario script spoken turns contents step other
    (next-command r words (run scenario script spoken hands turns) contents step asked other next)

told-run : (r : Readers) (words : List (List ℕ)) (scenario script spoken : List ℕ) (hands turns : ℕ)
    (contents : List (List ℕ)) (step : Step) → wanted_in words ≡ Some (run scenario script spoken hands turns)
    → is_refusal step ≡ false → ToldNext r words contents step →
    RunCourse (told_runs r) scenario script spoken turns contents step
told-run r words scenario script spoken hands turns contents step asked other next =
    as-run (told_runs r) (are_in_range hands turns) scenario script spoken turns contents step other
    (told-command r words (run scenario script spoken hands turns) contents step asked other next)

run-run : (r : Readers) → KeepsRules r → (call : Call) (scenario script words : List ℕ) (hands turns : ℕ)
    (text : List ℕ) → wanted_in call.words ≡ Some (run scenario script words hands turns)
    → (contents : List (List ℕ)) → Loaded (NextStep r call.words) call.held [] contents →
    NextStep r call.words contents (Gives text) → ToldNext r call.words contents (Gives text)
    → call.put_after ≡ with_piece call.put_before text → Headline r call
run-run r laws call scenario script words hands turns text asked [] loaded next told put =
    absurd (no-text scenario text
    (next-run r call.words scenario script words hands turns [] (Gives text) asked refl next))
run-run r laws call scenario script words hands turns text asked (first ∷ []) loaded next told put =
    let one = accepted-gives scenario_refusal (scenario_at first) (λ c. Load script MOST_BYTES) text
    (next-run r call.words scenario script words hands turns (first ∷ []) (Gives text) asked refl next) in
    absurd (no-text script text one.2)
run-run r laws call scenario script words hands turns text asked (first ∷ second ∷ []) loaded next told put =
    let one = accepted-gives scenario_refusal (scenario_at first) (λ c. with_script c second (λ lines. Load words MOST_BYTES)) text
    (next-run r call.words scenario script words hands turns (first ∷ second ∷ []) (Gives text) asked refl next) in
    let two = accepted-gives script_refusal (script_in (who_of one.0) second) (λ lines. Load words MOST_BYTES) text one.2 in
    absurd (no-text words text two.2)
run-run r laws call scenario script words hands turns text asked (first ∷ second ∷ third ∷ more) loaded next told put =
    let course = next-run r call.words scenario script words hands turns in
    run-whole r laws call scenario script words hands turns text first second third asked
    loaded.0 loaded.5.0 loaded.5.5.0 loaded.3 loaded.5.3 loaded.5.5.3
    (course [] (Load loaded.0 loaded.1) asked refl loaded.2)
    (course (first ∷ []) (Load loaded.5.0 loaded.5.1) asked refl loaded.5.2)
    (course (first ∷ second ∷ []) (Load loaded.5.5.0 loaded.5.5.1) asked refl loaded.5.5.2)
    (told-run r call.words scenario script words hands turns (first ∷ second ∷ third ∷ more) (Gives text) asked refl
    told) put

-- ---- A merge.

as-merge : (r : Readers) (few : Bool) (scenario : List ℕ) (keeps contents : List (List ℕ)) (step : Step) →
    is_refusal step ≡ false → MergeStep r few scenario keeps contents step → MergeCourse r scenario keeps contents step
as-merge r true scenario keeps contents step other next = next
as-merge r false scenario keeps contents step other next = absurd (true≢false (sym (ap is_refusal next) ∙ other))

next-merge : (r : Readers) (words : List (List ℕ)) (scenario : List ℕ) (keeps contents : List (List ℕ)) (step : Step) →
    wanted_in words ≡ Some (merge scenario keeps) → is_refusal step ≡ false → NextStep r words contents step →
    MergeCourse r scenario keeps contents step
next-merge r words scenario keeps contents step asked other next =
    as-merge r (are_few (length keeps)) scenario keeps contents step other
    (next-command r words (merge scenario keeps) contents step asked other next)

-- where a file is loaded of an answer, there was a value
load-after : {A E : Type 0} (refuse : E → Refusal) (answer : Result A E) (After : A → Step → Type 0) (name : List ℕ)
    {most : ℕ} → Accepted refuse answer After (Load name most) → (value : A) × After value (Load name most)
load-after refuse (Ok value) After name gives = (value, gives)
load-after refuse (Err e) After name gives = absurd (true≢false (ap is_load gives))

-- the file that is loaded is the next of those that stations kept
next-kept : (r : Readers) (c : Contents) (keeps kept : List (List ℕ)) (o : Option (List ℕ)) (name : List ℕ) (most : ℕ)
    → MergeNext r c keeps kept o (Load name most) → o ≡ Some name
next-kept r c keeps kept (Some due) name most is = ap Some (sym (ap file_of is))
next-kept r c keeps kept None name most ends = by (r.join_fault c kept) ends
  where
    by : (fault : Option (ℕ × KeepFault)) → MergeEnds r c keeps kept fault (Load name most) → None ≡ Some name
    by (Some fault) is = absurd (true≢false (ap is_load is))
    by None (history, may, is) = absurd (true≢false (ap is_load is))

at-front : (front left : List (List ℕ)) → slice_get (front ++ left) (length front) ≡ slice_get left 0
at-front [] left = refl
at-front (x ∷ front) left = at-front front left

-- the contents that were loaded behind the scenario's are those of the files that stations kept
module _ (r : Readers) (call : Call) (scenario : List ℕ) (keeps : List (List ℕ))
    (asked : wanted_in call.words ≡ Some (merge scenario keeps)) (first : List ℕ) where
  next-left : (front left done : List (List ℕ)) (name : List ℕ) (most : ℕ) → keeps ≡ front ++ left →
      length front ≡ length done →
      NextStep r call.words (first ∷ done) (Load name most) → slice_get left 0 ≡ Some name
  next-left front left done name most all at due =
      let course : MergeCourse r scenario keeps (first ∷ done) (Load name most) =
      next-merge r call.words scenario keeps (first ∷ done) (Load name most) asked refl due in
      let one = load-after scenario_refusal (scenario_at first)
      (λ c. MergeNext r c keeps done (slice_get keeps (length done))) name course in
      sym (at-front front left) ∙ sym (ap (λ ks. slice_get ks (length front)) all) ∙ ap (λ n. slice_get keeps n) at
      ∙ next-kept r one.0 keeps done (slice_get keeps (length done)) name most one.1

  kept-contents : (front left done more : List (List ℕ)) → keeps ≡ front ++ left → length front ≡ length done →
      slice_get keeps (length (done ++ more)) ≡ None → Loaded (NextStep r call.words) call.held (first ∷ done) more →
      AreContents call.held left more
  kept-contents front [] done [] all at none loaded = tt
  kept-contents front (name ∷ left) done [] all at none loaded =
      let there : slice_get keeps (length done) ≡ Some name =
      ap (λ n. slice_get keeps n) (sym at) ∙ ap (λ ks. slice_get ks (length front)) all ∙ at-front front (name ∷ left) in
      let not_there : slice_get keeps (length done) ≡ None = ap (λ ds. slice_get keeps (length ds)) (sym (append-nil done))
      ∙ none in
      absurd (cc)
  kept-contents front [] done (content ∷ more) all at none loaded =
      let there = next-left front [] done loaded.0 loaded.1 all at loaded.2 in
      absurd (cc)
  kept-contents front (keep ∷ left) done (content ∷ more) all at none loaded =
      let there = next-left front (keep ∷ left) done loaded.0 loaded.1 all at loaded.2 in
      let same : loaded.0 ≡ keep = cc in (
        subst (λ n. IsContent (call.held n) content) same loaded.3,
        kept-contents (front ++ keep ∷ []) left (done ++ content ∷ []) more
            (all ∙ sym (append_assoc front (keep ∷ []) left))
            (length-append front (keep ∷ []) ∙ ap (λ n. n + 1) at ∙ sym (length-append done (content ∷ [])))
            (ap (λ ds. slice_get keeps (length ds)) (append_assoc done (content ∷ []) more) ∙ none) loaded.5,
      )

-- what a merge gives that gives a text
merge-gives : (r : Readers) (c : Contents) (keeps kept : List (List ℕ)) (o : Option (List ℕ)) (text : List ℕ) →
    MergeNext (told_merges r) c keeps kept o (Gives text) →
    (o ≡ None) × ((history : List Entry) × (r.may_join c kept history × Tells r c history)
    × (Gives text ≡ Gives (r.text_of c history)))
merge-gives r c keeps kept (Some name) text is = absurd (no-text name text is)
merge-gives r c keeps kept None text ends = (refl, by (r.join_fault c kept) ends)
  where
    by : (fault : Option (ℕ × KeepFault)) → MergeEnds (told_merges r) c keeps kept fault (Gives text) →
        (history : List Entry) × (r.may_join c kept history × Tells r c history)
        × (Gives text ≡ Gives (r.text_of c history))
    by (Some fault) is = absurd (true≢false (ap is_text is))
    by None gives = gives

merge-run : (r : Readers) → KeepsRules r → (call : Call) (scenario : List ℕ) (keeps : List (List ℕ)) (text : List ℕ) →
    wanted_in call.words ≡ Some (merge scenario keeps)
    → (contents : List (List ℕ)) → Loaded (NextStep r call.words) call.held [] contents →
    NextStep r call.words contents (Gives text) → ToldNext r call.words contents (Gives text)
    → call.put_after ≡ with_piece call.put_before text → Headline r call
merge-run r laws call scenario keeps text asked [] loaded next told put =
    absurd (no-text scenario text (next-merge r call.words scenario keeps [] (Gives text) asked refl next))
merge-run r laws call scenario keeps text asked (first ∷ kept) loaded next told put =
    let course : MergeCourse (told_merges r) scenario keeps (first ∷ kept) (Gives text) =
    as-merge (told_merges r) (are_few (length keeps)) scenario keeps (first ∷ kept) (Gives text) refl
    (told-command r call.words (merge scenario keeps) (first ∷ kept) (Gives text) asked refl told) in
    let one = text-after scenario_refusal (scenario_at first)
    (λ c. MergeNext (told_merges r) c keeps kept (slice_get keeps (length kept))) text course in
    let c : Contents = one.0 in
    let all = merge-gives r c keeps kept (slice_get keeps (length kept)) text one.2 in
    let history : List Entry = all.1.0 in
    let valid : IsScenario c = scenario-valid first c one.1 in
    let legal = laws.merged_legal c kept history all.1.1.0 in
    let due_first : Load loaded.0 loaded.1 ≡ Load scenario MOST_BYTES =
    next-merge r call.words scenario keeps [] (Load loaded.0 loaded.1) asked refl loaded.2 in
    record {
      scenario = c;
      history = history;
      run = IsRun.merges scenario keeps asked first kept
          (same-file call.held loaded.0 scenario first due_first loaded.3)
          (kept-contents r call scenario keeps asked first [] keeps [] kept refl refl all.0 loaded.5)
          one.1 all.1.1.0;
      legal = legal;
      put = put ∙ ap (λ (s : Step). with_piece call.put_before (text_in s)) all.1.2;
      told = all.1.1.1;
      agreed = headline_of_legal c history valid legal;
    }

-- words that ask for none of these
not-asked : false ≡ true → {A : Type 0} → A
not-asked is = absurd (true≢false (sym is))

by-wanted : (r : Readers) → KeepsRules r → (call : Call) (text : List ℕ) (o : Option Wanted) → wanted_in call.words ≡ o →
    asks_for_run o ≡ true
    → (contents : List (List ℕ)) → Loaded (NextStep r call.words) call.held [] contents →
    NextStep r call.words contents (Gives text) → ToldNext r call.words contents (Gives text)
    → call.put_after ≡ with_piece call.put_before text → Headline r call
by-wanted r laws call text (Some (play scenario script words)) asked asks contents loaded next told put =
    play-run r laws call scenario script words text asked contents loaded next told put
by-wanted r laws call text (Some (replay scenario history)) asked asks contents loaded next told put =
    replay-run r laws call scenario history text asked contents loaded next told put
by-wanted r laws call text None asked asks contents loaded next told put = not-asked asks
by-wanted r laws call text (Some (make number)) asked asks contents loaded next told put = not-asked asks
by-wanted r laws call text (Some (keys scenario)) asked asks contents loaded next told put = not-asked asks
by-wanted r laws call text (Some (key scenario actor)) asked asks contents loaded next told put = not-asked asks
by-wanted r laws call text (Some (verify public message sig)) asked asks contents loaded next told put = not-asked asks
by-wanted r laws call text (Some (run scenario script words hands turns)) asked asks contents loaded next told put =
    run-run r laws call scenario script words hands turns text asked contents loaded next told put
by-wanted r laws call text (Some (parts scenario history originator number)) asked asks contents loaded next told put =
    not-asked asks
by-wanted r laws call text (Some (rebuild scenario pieces)) asked asks contents loaded next told put = not-asked asks
by-wanted r laws call text (Some (blame scenario history)) asked asks contents loaded next told put = not-asked asks
by-wanted r laws call text (Some (delays scenario history)) asked asks contents loaded next told put = not-asked asks
by-wanted r laws call text (Some (page scenario history)) asked asks contents loaded next told put = not-asked asks
by-wanted r laws call text (Some (picture scenario history first last width)) asked asks contents loaded next told put =
    not-asked asks
by-wanted r laws call text (Some (plot scenario history point width)) asked asks contents loaded next told put =
    not-asked asks
by-wanted r laws call text (Some (chart scenario history width)) asked asks contents loaded next told put = not-asked asks
by-wanted r laws call text (Some (trend scenario history point first last)) asked asks contents loaded next told put =
    not-asked asks
by-wanted r laws call text (Some (merge scenario keeps)) asked asks contents loaded next told put =
    merge-run r laws call scenario keeps text asked contents loaded next told put

status-some : (why : Refusal) → 0 < status_of why
status-some refusal.Usage = omega arith
status-some (refusal.Fault name) = omega arith
status-some (refusal.TooLong name) = omega arith
status-some (refusal.Scenario fault) = omega arith
status-some (refusal.Script fault number) = omega arith
status-some (refusal.Words fault number) = omega arith
status-some (refusal.History fault number) = omega arith
status-some refusal.NotVerified = omega arith
status-some (refusal.NoAnswer lack) = omega arith
status-some (refusal.Pieces at) = omega arith
status-some (refusal.Keep kept_name kept_fault) = omega arith
status-some refusal.Output = omega arith
status-some refusal.Memory = omega arith

pub refused-not-well : (why : Refusal) (err : ErrorSink) (status : ℕ) → status ≡ 0 → Told why err status → ⊥
refused-not-well why err status zero (Told.whole is none line) = let some = status-some why in absurd (omega arith)
refused-not-well why err status zero (Told.begun is risen put) = let some = status-some why in absurd (omega arith)
refused-not-well why err status zero (Told.memory is put) = absurd (omega arith)

by-result : (r : Readers) → KeepsRules r → (call : Call) (err : ErrorSink) (status : ℕ) (result : Result (Unit {0}) Refusal)
    → CauseOf (ToldNext r) call result → Finishes result err status → KeepsHeadline r call status
by-result r laws call err status (Ok done) cause finish zero asks =
    by-wanted r laws call cause.0 (wanted_in call.words) refl asks cause.1.0
    (weaker-loaded (ToldNext r call.words) (NextStep r call.words) (told-next r call.words) call.held [] cause.1.0
    cause.1.1)
    (told-next r call.words cause.1.0 (Gives cause.0) cause.1.2) cause.1.2 cause.2
by-result r laws call err status (Err why) cause finish zero asks = absurd (refused-not-well why err status zero finish)

-- The headline holds of each play, each replay, each run in threads and each merge that ends well.
pub headline : (r : Readers) → KeepsRules r → (call : Call) (err : ErrorSink) (status : ℕ) →
    Ends (ToldNext r) call err status → KeepsHeadline r call status
headline r laws call err status ends = by-result r laws call err status ends.result ends.cause ends.finish
