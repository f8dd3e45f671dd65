-- What is asked over a history, by what the answers' parts give.
use Rattle.std.proofs.Common.{◌≡◌, ℕ, List, Result, Ok, Err, refl, sym, ap, subst}
use Rattle.std.specs.declared.vec.Vec.{Vec}
use Rattle.std.specs.declared.alloc.Global.{Global}
use Rattle.scenario_file.specs.Reading.{Contents}
use Rattle.history_rules.specs.Events.{Entry}
use Rattle.part_lines.specs.declared.fault.RebuildRefusal.{RebuildRefusal}
use Rattle.part_lines.specs.declared.fault.RebuildRefusal.TheVariants as rebuild
use Rattle.part_lines.specs.Rebuilding.{rebuilt_in, RefusesText}
use Rattle.command_ends.specs.declared.refusal.Refusal.{Refusal}
use Rattle.command_ends.specs.declared.refusal.Refusal.TheVariants as refusal
use Rattle.run_lines.specs.declared.refusal.HistoryRefusal.{HistoryRefusal}
use Rattle.run_lines.specs.declared.refusal.HistoryRefusal.TheVariants as history
use Rattle.run_lines.specs.Runs.{ReadsRun}
use Rattle.printed_history.specs.Histories.{history_in}
use Rattle.run_commands.specs.declared.questions.Question.{Question}
use Rattle.run_commands.specs.Readers.{NoRequest, AnswerGives, RebuildGives}
use Rattle.run_program.specs.Asked.{Answers}
use Rattle.run_program.specs.Asked.{request_or_lack, request_refusal}
use Rattle.run_program.specs.Faults.{history_refusal, history_or_fault}
use Rattle.run_program.specs.Whole.{program_readers}

-- the answer over a history that is read
pub gives_answer : (c : Contents) (bytes : List ℕ) (asked : Question) (told : List Entry)
    (result : Result (Vec ℕ Global) Refusal)
    → history_in c bytes ≡ Ok told → Answers c told asked result → AnswerGives program_readers c bytes asked result
gives_answer c bytes asked told (Ok text) is answers = (told, ap history_or_fault is, answers)
gives_answer c bytes asked told (Err (refusal.NoAnswer why)) is answers = (told, ap history_or_fault is, answers)
gives_answer c bytes asked told (Err refusal.Memory) is answers = tt
gives_answer c bytes asked told (Err refusal.Usage) is answers = absurd answers
gives_answer c bytes asked told (Err (refusal.Fault name)) is answers = absurd answers
gives_answer c bytes asked told (Err (refusal.TooLong name)) is answers = absurd answers
gives_answer c bytes asked told (Err (refusal.Scenario fault)) is answers = absurd answers
gives_answer c bytes asked told (Err (refusal.Script fault number)) is answers = absurd answers
gives_answer c bytes asked told (Err (refusal.Words fault number)) is answers = absurd answers
gives_answer c bytes asked told (Err (refusal.History fault number)) is answers = absurd answers
gives_answer c bytes asked told (Err (refusal.Pieces number)) is answers = absurd answers
gives_answer c bytes asked told (Err (refusal.Keep kept_name kept_fault)) is answers = absurd answers
gives_answer c bytes asked told (Err refusal.NotVerified) is answers = absurd answers
gives_answer c bytes asked told (Err refusal.Output) is answers = absurd answers

-- a text that tells no history
no_answer : (c : Contents) (bytes : List ℕ) (asked : Question) (why : HistoryRefusal) →
    ReadsRun {A = List Entry} (Err why) (history_in c bytes)
    → AnswerGives program_readers c bytes asked (Err (history_refusal why))
no_answer c bytes asked (history.BadLine line) reads = ap history_or_fault reads
no_answer c bytes asked (history.NotLegal stamp) reads = ap history_or_fault reads
no_answer c bytes asked history.Want reads = tt

pub gives_no_answer : (c : Contents) (bytes : List ℕ) (asked : Question) (why : HistoryRefusal) (told : Refusal) →
    told ≡ history_refusal why
    → ReadsRun {A = List Entry} (Err why) (history_in c bytes) → AnswerGives program_readers c bytes asked (Err told)
gives_no_answer c bytes asked why told same reads =
    subst (λ (r : Refusal). AnswerGives program_readers c bytes asked (Err r)) (sym same) (no_answer c bytes asked why reads)

-- a request from its parts
pub gives_request : (c : Contents) (bytes : List ℕ) (text : Vec ℕ Global) → rebuilt_in c bytes ≡ Ok text.items →
    RebuildGives program_readers c bytes (Ok text)
gives_request c bytes text is = ap request_or_lack is

no_request : (c : Contents) (bytes : List ℕ) (why : RebuildRefusal) → RefusesText {A = List ℕ} why (rebuilt_in c bytes)
    → RebuildGives program_readers c bytes (Err (request_refusal why))
no_request c bytes (rebuild.BadLine number) is = (NoRequest.BadLine number, ap request_or_lack is, refl)
no_request c bytes rebuild.NoText is = (NoRequest.NoText, ap request_or_lack is, refl)
no_request c bytes rebuild.Want is = tt

pub gives_no_request : (c : Contents) (bytes : List ℕ) (why : RebuildRefusal) (refused : Refusal) →
    refused ≡ request_refusal why
    → RefusesText {A = List ℕ} why (rebuilt_in c bytes) → RebuildGives program_readers c bytes (Err refused)
gives_no_request c bytes why refused same is =
    subst (λ (r : Refusal). RebuildGives program_readers c bytes (Err r)) (sym same) (no_request c bytes why is)
