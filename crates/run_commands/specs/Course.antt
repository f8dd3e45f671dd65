-- What each command does, step by step. (This project's own.)
use Rattle.std.specs.Prelude.{◌≡◌, ◌⊎◌, ℕ, Bool, true, false, List, [], ◌∷◌, Option, None, Some, Result, Ok, Err}
use Rattle.std.specs.Prelude.{length, slice_get, unwrap_or}
use Rattle.scenario_file.specs.Reading.{Contents}
use Rattle.history_rules.specs.Events.{Entry}
use Rattle.script_grammar.specs.Names.{who_of}
use Rattle.script_lines.specs.Scripts.{script_in}
use Rattle.script_lines.specs.Sayings.{words_in}
use Rattle.script_lines.specs.declared.script.Line.{Line}
use Rattle.script_lines.specs.declared.saying.Saying.{Saying}
use Rattle.hash_signatures.specs.Verification.{Verifies}
use Rattle.command_words.specs.Wanted.{Wanted, play, run, replay, make, keys, key, verify, parts, rebuild, blame, trend, delays, page}
use Rattle.command_words.specs.Wanted.{picture, plot, chart, merge}
use Rattle.command_words.specs.Wanted.{is_command, wanted_in}
use Rattle.run_commands.specs.MadeScenario.{made_scenario}
use Rattle.run_commands.specs.MadeScript.{made_script}
use Rattle.run_commands.specs.Summary.{summary}
use Rattle.run_commands.specs.Keys.{keys_text, own_key_in}
use Rattle.run_commands.specs.Verifying.{public_in, verified_text}
use Rattle.command_ends.specs.declared.limits.TheConstants.{MOST_BYTES, MOST_KEPT_BYTES}
use Rattle.command_ends.specs.Steps.{Step}
use Rattle.command_ends.specs.Steps.Step.{Load, Gives, Refuses}
use Rattle.command_ends.specs.declared.refusal.KeepFault.{KeepFault}
use Rattle.command_ends.specs.declared.refusal.Refusal.{Refusal}
use Rattle.command_ends.specs.declared.refusal.Refusal.TheVariants as refusal
use Rattle.run_commands.specs.declared.questions.Question.{Question}
use Rattle.run_commands.specs.declared.questions.Question.TheVariants as question
use Rattle.run_commands.specs.Readers.{Readers, are_few, are_in_range, keep_refusal}
use Rattle.command_files.specs.Scenarios.{scenario_at, scenario_refusal}
use Rattle.run_commands.specs.Reading.{script_refusal, words_refusal}
use Rattle.run_commands.specs.Reading.{with_scenario, with_script, with_words, with_play, with_history, with_answer}
use Rattle.run_commands.specs.Reading.{with_pieces}

-- the files of a play are the scenario, the script and the words
abbrev pub play_step : Readers → List ℕ → List ℕ → List ℕ → List (List ℕ) → Step
play_step r scenario script words [] = Load scenario MOST_BYTES
play_step r scenario script words (a ∷ []) = with_scenario a (λ c. Load script MOST_BYTES)
play_step r scenario script words (a ∷ b ∷ []) = with_scenario a (λ c. with_script c b (λ lines. Load words MOST_BYTES))
play_step r scenario script words (a ∷ b ∷ d ∷ more) =
    with_scenario a (λ c. with_script c b (λ lines. with_words c d (λ sayings.
    with_play r c lines sayings (λ history. Gives (r.text_of c history)))))

-- after an answer one of the steps that may come for its value, or the refusal of its fault
abbrev pub Accepted : {A E : Type 0} → (E → Refusal) → Result A E → (A → Step → Type 0) → Step → Type 0
Accepted refuse (Ok value) After step = After value step
Accepted refuse (Err e) After step = step ≡ Refuses (refuse e)

-- the text of the history of a run in threads, whichever one the threads make
abbrev pub RunEnds : Readers → ℕ → Contents → List Line → List Saying → Step → Type 0
RunEnds r turns c lines sayings step =
    (history : List Entry) × r.may_run c lines sayings turns history × (step ≡ Gives (r.text_of c history))

-- Files are loaded and refused as those of a play are. What comes of all three is told apart.
abbrev pub ScriptedCourse : Readers → (Contents → List Line → List Saying → Step → Type 0) → List ℕ → List ℕ → List ℕ →
    List (List ℕ) → Step → Type 0
ScriptedCourse r EndsIn scenario script words (a ∷ b ∷ d ∷ more) step =
    Accepted scenario_refusal (scenario_at a)
    (λ c. Accepted script_refusal (script_in (who_of c) b)
    (λ lines. Accepted words_refusal (words_in (who_of c) d) (EndsIn c lines))) step
ScriptedCourse r EndsIn scenario script words contents step = step ≡ play_step r scenario script words contents

-- those of a run in threads, of which the text of a run comes
abbrev pub RunCourse : Readers → List ℕ → List ℕ → List ℕ → ℕ → List (List ℕ) → Step → Type 0
RunCourse r scenario script words turns contents step =
    ScriptedCourse r (RunEnds r turns) scenario script words contents step

-- other numbers of hands or turns are no command
abbrev pub RunStep : Readers → Bool → List ℕ → List ℕ → List ℕ → ℕ → List (List ℕ) → Step → Type 0
RunStep r true scenario script words turns contents step = RunCourse r scenario script words turns contents step
RunStep r false scenario script words turns contents step = step ≡ Refuses refusal.Usage

-- those of a replay are the scenario and the history
abbrev pub replay_step : Readers → List ℕ → List ℕ → List (List ℕ) → Step
replay_step r scenario history [] = Load scenario MOST_BYTES
replay_step r scenario history (a ∷ []) = with_scenario a (λ c. Load history MOST_BYTES)
replay_step r scenario history (a ∷ b ∷ more) = with_scenario a (λ c. with_history r c b (λ h. Gives (r.text_of c h)))

-- Of what stations kept: the text of one of the histories that join it, or the refusal of the first file that isn't such.
abbrev pub MergeEnds : Readers → Contents → List (List ℕ) → List (List ℕ) → Option (ℕ × KeepFault) → Step → Type 0
MergeEnds r c keeps kept (Some fault) step = step ≡ Refuses (keep_refusal keeps fault)
MergeEnds r c keeps kept None step =
    (history : List Entry) × r.may_join c kept history × (step ≡ Gives (r.text_of c history))

-- the next of the files that stations kept, or what comes of all
abbrev pub MergeNext : Readers → Contents → List (List ℕ) → List (List ℕ) → Option (List ℕ) → Step → Type 0
MergeNext r c keeps kept (Some name) step = step ≡ Load name MOST_KEPT_BYTES
MergeNext r c keeps kept None step = MergeEnds r c keeps kept (r.join_fault c kept) step

-- the files of a merge are the scenario and what stations kept, in the order of the words
abbrev pub MergeCourse : Readers → List ℕ → List (List ℕ) → List (List ℕ) → Step → Type 0
MergeCourse r scenario keeps [] step = step ≡ Load scenario MOST_BYTES
MergeCourse r scenario keeps (a ∷ kept) step = Accepted scenario_refusal (scenario_at a)
    (λ c. MergeNext r c keeps kept (slice_get keeps (length kept))) step

-- more or fewer files are no command
abbrev pub MergeStep : Readers → Bool → List ℕ → List (List ℕ) → List (List ℕ) → Step → Type 0
MergeStep r true scenario keeps contents step = MergeCourse r scenario keeps contents step
MergeStep r false scenario keeps contents step = step ≡ Refuses refusal.Usage

-- a made run is a play of a made scenario and a made script without words, of which the summary is given
abbrev pub made_history : Readers → Contents → ℕ → (List Entry → Step) → Step
made_history r c number onward =
    with_script c (made_script number) (λ lines. with_words c [] (λ sayings. with_play r c lines sayings onward))

abbrev pub made_run : Readers → Contents → ℕ → Step
made_run r c number = made_history r c number (λ history. Gives (summary (r.text_of c history)))

unfoldable pub make_step : Readers → ℕ → Step
make_step r number = with_scenario (made_scenario number) (λ c. made_run r c number)

abbrev pub keys_step : List ℕ → List (List ℕ) → Step
keys_step scenario [] = Load scenario MOST_BYTES
keys_step scenario (a ∷ more) = with_scenario a (λ c. Gives (keys_text c))

abbrev pub KeysCourse : List ℕ → List (List ℕ) → Step → Type 0
KeysCourse scenario contents step = step ≡ keys_step scenario contents

-- the text that there is to be, or a word of the command is wrong where there is none
abbrev pub or_usage : Option (List ℕ) → Step
or_usage (Some text) = Gives text
or_usage None = Refuses refusal.Usage

-- the own key of the actor of a name, of which the scenario has one
abbrev pub key_step : List ℕ → List ℕ → List (List ℕ) → Step
key_step scenario actor [] = Load scenario MOST_BYTES
key_step scenario actor (a ∷ more) = with_scenario a (λ c. or_usage (own_key_in c actor))

abbrev pub KeyCourse : List ℕ → List ℕ → List (List ℕ) → Step → Type 0
KeyCourse scenario actor contents step = step ≡ key_step scenario actor contents

-- the message and the signature are loaded, and the text is there where the key verifies
abbrev pub VerifyStep : List ℕ → List ℕ → List ℕ → List (List ℕ) → Step → Type 0
VerifyStep public message sig [] step = step ≡ Load message MOST_BYTES
VerifyStep public message sig (a ∷ []) step = step ≡ Load sig MOST_BYTES
VerifyStep public message sig (a ∷ b ∷ more) step =
    (Verifies public a b × (step ≡ Gives verified_text))
    ⊎ ((Verifies public a b → ⊥) × (step ≡ Refuses refusal.NotVerified))

-- words whose public key isn't one are no command
abbrev pub VerifyCourse : Option (List ℕ) → List ℕ → List ℕ → List (List ℕ) → Step → Type 0
VerifyCourse None message sig contents step = step ≡ Refuses refusal.Usage
VerifyCourse (Some public) message sig contents step = VerifyStep public message sig contents step

-- a question is asked over the history of a file
abbrev pub question_step : Readers → List ℕ → List ℕ → Question → List (List ℕ) → Step
question_step r scenario history asked [] = Load scenario MOST_BYTES
question_step r scenario history asked (a ∷ []) = with_scenario a (λ c. Load history MOST_BYTES)
question_step r scenario history asked (a ∷ b ∷ more) =
    with_scenario a (λ c. with_history r c b (λ h. with_answer r c h asked))

abbrev pub QuestionCourse : Readers → List ℕ → List ℕ → Question → List (List ℕ) → Step → Type 0
QuestionCourse r scenario history asked contents step = step ≡ question_step r scenario history asked contents

-- the files of a rebuilt request are the scenario and the parts
abbrev pub rebuild_step : Readers → List ℕ → List ℕ → List (List ℕ) → Step
rebuild_step r scenario pieces [] = Load scenario MOST_BYTES
rebuild_step r scenario pieces (a ∷ []) = with_scenario a (λ c. Load pieces MOST_BYTES)
rebuild_step r scenario pieces (a ∷ b ∷ more) = with_scenario a (λ c. with_pieces r c b)

abbrev pub RebuildCourse : Readers → List ℕ → List ℕ → List (List ℕ) → Step → Type 0
RebuildCourse r scenario pieces contents step = step ≡ rebuild_step r scenario pieces contents

-- What may come next in a command, after the contents of the files loaded so far: of a run in threads and of a
-- merge one of several texts, else one step.
abbrev pub CommandStep : Readers → Wanted → List (List ℕ) → Step → Type 0
CommandStep r (play scenario script words) contents step = step ≡ play_step r scenario script words contents
CommandStep r (replay scenario history) contents step = step ≡ replay_step r scenario history contents
CommandStep r (make number) contents step = step ≡ make_step r number
CommandStep r (keys scenario) contents step = KeysCourse scenario contents step
CommandStep r (key scenario actor) contents step = KeyCourse scenario actor contents step
CommandStep r (verify public message sig) contents step = VerifyCourse (public_in public) message sig contents step
CommandStep r (run scenario script words hands turns) contents step =
    RunStep r (are_in_range hands turns) scenario script words turns contents step
CommandStep r (parts scenario history originator number) contents step =
    QuestionCourse r scenario history (question.Parts originator number) contents step
CommandStep r (rebuild scenario pieces) contents step = RebuildCourse r scenario pieces contents step
CommandStep r (blame scenario history) contents step = QuestionCourse r scenario history question.Blame contents step
CommandStep r (trend scenario history point first last) contents step =
    QuestionCourse r scenario history (question.Trend point first last) contents step
CommandStep r (delays scenario history) contents step = QuestionCourse r scenario history question.Delays contents step
CommandStep r (page scenario history) contents step = QuestionCourse r scenario history question.Page contents step
CommandStep r (picture scenario history first last width) contents step =
    QuestionCourse r scenario history (question.Picture first last (unwrap_or width 900)) contents step
CommandStep r (plot scenario history point width) contents step =
    QuestionCourse r scenario history (question.Plot point (unwrap_or width 900)) contents step
CommandStep r (chart scenario history width) contents step =
    QuestionCourse r scenario history (question.Chart (unwrap_or width 900)) contents step
CommandStep r (merge scenario keeps) contents step = MergeStep r (are_few (length keeps)) scenario keeps contents step

-- The same of words: those that aren't a command are refused at once.
abbrev pub AskedStep : Readers → Bool → Option Wanted → List (List ℕ) → Step → Type 0
AskedStep r false asked contents step = step ≡ Refuses refusal.Usage
AskedStep r true None contents step = ⊥
AskedStep r true (Some wanted) contents step = CommandStep r wanted contents step

abbrev pub NextStep : Readers → List (List ℕ) → List (List ℕ) → Step → Type 0
NextStep r words contents step = AskedStep r (is_command words) (wanted_in words) contents step
