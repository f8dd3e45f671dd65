-- What plays and replays give, by what their parts answer.
use Rattle.std.proofs.Common.{◌≡◌, ℕ, List, Ok, Err, sym, ap, subst}
use Rattle.std.specs.declared.vec.Vec.{Vec}
use Rattle.std.specs.declared.alloc.Global.{Global}
use Rattle.scenario_file.specs.Reading.{Contents}
use Rattle.history_rules.specs.Events.{Entry}
use Rattle.script_lines.specs.declared.saying.Saying.{Saying}
use Rattle.script_lines.specs.declared.script.Line.{Line}
use Rattle.command_ends.specs.declared.refusal.Refusal.{Refusal}
use Rattle.run_scripts.specs.declared.answer.PlayAnswer.{PlayAnswer}
use Rattle.run_scripts.specs.declared.answer.PlayAnswer.TheVariants as answer
use Rattle.run_scripts.specs.Making.{played}
use Rattle.run_scripts.specs.Playing.{Plays}
use Rattle.run_lines.specs.declared.refusal.HistoryRefusal.{HistoryRefusal}
use Rattle.run_lines.specs.declared.refusal.HistoryRefusal.TheVariants as history
use Rattle.run_lines.specs.Runs.{ReadsRun}
use Rattle.printed_history.specs.Histories.{history_in}
use Rattle.run_commands.specs.Readers.{PlayGives, ReplayGives}
use Rattle.run_program.specs.Faults.{play_refusal, history_refusal, played_or_fault, history_or_fault}
use Rattle.run_program.specs.Whole.{program_readers, IsTextOf}

-- the text of a play that ends
pub gives_play : (c : Contents) (lines : List Line) (sayings : List Saying) (text : Vec ℕ Global) (history : List Entry)
    → played (record { scenario = c; sayings = sayings }) lines ≡ Ok history → IsTextOf c history text.items →
    PlayGives program_readers c lines sayings (Ok text)
gives_play c lines sayings text history is same = (history, ap played_or_fault is, same.0, same.1)

-- a play that stops
pub gives_stop : {A : Type 0} (Shows : A → List Entry → Type 0) (c : Contents) (lines : List Line)
    (sayings : List Saying) (answered : PlayAnswer)
    → Plays Shows (Err answered) (played (record { scenario = c; sayings = sayings }) lines) →
    PlayGives program_readers c lines sayings (Err (play_refusal answered))
gives_stop Shows c lines sayings (answer.NoFrame line) stops = ap played_or_fault stops
gives_stop Shows c lines sayings (answer.TooMany line) stops = ap played_or_fault stops
gives_stop Shows c lines sayings answer.Want stops = tt

pub gives_refused : {A : Type 0} (Shows : A → List Entry → Type 0) (c : Contents) (lines : List Line)
    (sayings : List Saying) (answered : PlayAnswer) (told : Refusal)
    → told ≡ play_refusal answered →
    Plays Shows (Err answered) (played (record { scenario = c; sayings = sayings }) lines) →
    PlayGives program_readers c lines sayings (Err told)
gives_refused Shows c lines sayings answered told same stops =
    subst (λ (r : Refusal). PlayGives program_readers c lines sayings (Err r)) (sym same)
    (gives_stop Shows c lines sayings answered stops)

-- the text of a history that is read
pub gives_replay : (c : Contents) (bytes : List ℕ) (text : Vec ℕ Global) (told : List Entry) →
    history_in c bytes ≡ Ok told → IsTextOf c told text.items
    → ReplayGives program_readers c bytes (Ok text)
gives_replay c bytes text told is same = (told, ap history_or_fault is, same.0, same.1)

-- a text that tells none
pub gives_none : (c : Contents) (bytes : List ℕ) (why : HistoryRefusal) →
    ReadsRun {A = List Entry} (Err why) (history_in c bytes)
    → ReplayGives program_readers c bytes (Err (history_refusal why))
gives_none c bytes (history.BadLine line) reads = ap history_or_fault reads
gives_none c bytes (history.NotLegal stamp) reads = ap history_or_fault reads
gives_none c bytes history.Want reads = tt

pub gives_no_history : (c : Contents) (bytes : List ℕ) (why : HistoryRefusal) (told : Refusal) →
    told ≡ history_refusal why → ReadsRun {A = List Entry} (Err why) (history_in c bytes)
    → ReplayGives program_readers c bytes (Err told)
gives_no_history c bytes why told same reads = subst (λ (r : Refusal). ReplayGives program_readers c bytes (Err r))
    (sym same) (gives_none c bytes why reads)
