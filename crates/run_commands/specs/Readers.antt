-- What plays and printed runs are, by the names of their definitions.
use Rattle.std.specs.Prelude.{◌≡◌, ◌≤◌, ◌&&◌, ℕ, Bool, true, not, nat_le, List, [], Option, None, Some, Result, Ok, Err}
use Rattle.std.specs.Prelude.{length}
use Rattle.std.specs.List.{All, list_all, slice_index_or}
use Rattle.std.specs.declared.vec.Vec.{Vec}
use Rattle.std.specs.declared.alloc.Global.{Global}
use Rattle.scenario_file.specs.Reading.{Contents}
use Rattle.scenario_file.specs.Valid.{IsScenario}
use Rattle.history_rules.specs.Events.{Entry}
use Rattle.history_rules.specs.Legal.{IsLegal}
use Rattle.history_rules.specs.Counts.{forged}
use Rattle.world_rules.specs.Scenarios.{setup_of}
use Rattle.play_words.specs.Accepted.{is_raw}
use Rattle.command_words.specs.declared.command_line.TheConstants.{MOST_KEEPS}
use Rattle.script_grammar.specs.Names.{who_of}
use Rattle.script_lines.specs.Scripts.{script_in}
use Rattle.script_lines.specs.Sayings.{words_in}
use Rattle.script_lines.specs.declared.script.Line.{Line}
use Rattle.script_lines.specs.declared.saying.Saying.{Saying}
use Rattle.command_ends.specs.declared.limits.TheConstants.{MOST_KEPT_BYTES}
use Rattle.command_ends.specs.declared.refusal.KeepFault.{KeepFault}
use Rattle.command_ends.specs.declared.refusal.LineFault.{LineFault}
use Rattle.command_ends.specs.declared.refusal.NoAnswer.{NoAnswer}
use Rattle.command_ends.specs.declared.refusal.NoAnswer.TheVariants as none
use Rattle.command_ends.specs.declared.refusal.Refusal.{Refusal}
use Rattle.command_ends.specs.declared.refusal.Refusal.TheVariants as refusal
use Rattle.run_commands.specs.declared.questions.Question.{Question}

-- Why lines of parts rebuild no request: the first line that isn't of its form, or no f + 1 of the parts are those of
-- one text that has the digest.
pub data NoRequest : Type 0 where
  BadLine : (number : ℕ) → NoRequest
  NoText : NoRequest

-- The one history of a script and words, the history that a text spells, and the text of a history; or the first fault
-- with its number. Which histories a run in threads of a script and words may make, for so many turns, and the history
-- as its text tells it. Which histories join what stations kept, and the first of their files that isn't such, by its
-- place. Then what a question over a history is answered with, and the request that lines of parts rebuild, as text; or why there is none.
pub record Readers : Type 1 where
  pub played : Contents → List Line → List Saying → Result (List Entry) (LineFault × ℕ)
  pub may_run : Contents → List Line → List Saying → ℕ → List Entry → Type 0
  pub history_in : Contents → List ℕ → Result (List Entry) (LineFault × ℕ)
  pub text_of : Contents → List Entry → List ℕ
  pub as_told : Contents → List Entry → List Entry
  pub may_join : Contents → List (List ℕ) → List Entry → Type 0
  pub join_fault : Contents → List (List ℕ) → Option (ℕ × KeepFault)
  pub answered : Contents → List Entry → Question → Result (List ℕ) NoAnswer
  pub rebuilt : Contents → List ℕ → Result (List ℕ) NoRequest

-- no word of raw bytes is said
abbrev pub AreNotRaw : List Saying → Type 0
AreNotRaw sayings = list_all (λ (s : Saying). not (is_raw s.word)) sayings ≡ true

-- lines that a script's file says, and what words' file says
abbrev pub IsScriptOf : Contents → List Line → Type 0
IsScriptOf c lines = (bytes : List ℕ) × (script_in (who_of c) bytes ≡ Ok lines)

abbrev pub AreWordsOf : Contents → List Saying → Type 0
AreWordsOf c sayings = (bytes : List ℕ) × (words_in (who_of c) bytes ≡ Ok sayings)

-- an actor of a run in threads has 1 to 4 hands, and makes 1 to 4,000 turns
abbrev pub are_in_range : ℕ → ℕ → Bool
are_in_range hands turns = (nat_le 1 hands && nat_le hands 4) && (nat_le 1 turns && nat_le turns 4000)

-- so many files may be merged
abbrev pub are_few : ℕ → Bool
are_few count = nat_le 1 count && nat_le count MOST_KEEPS

-- each file could be loaded as one that a station kept
abbrev pub AreShort : List (List ℕ) → Type 0
AreShort files = All (λ (file : List ℕ). length file ≤ MOST_KEPT_BYTES) files

-- the text of a history is read again as that history, as its text tells it
abbrev pub Tells : Readers → Contents → List Entry → Type 0
Tells r c history = r.history_in c (r.text_of c history) ≡ Ok (r.as_told c history)

-- What holds of these: a history played from files is legal and told as it is, and without raw words nothing in it is
-- forged; a history of a run in threads is legal, and there is one of whatever files are read; and one is legal that a text
-- spells, or that joins what stations kept.
pub record KeepsRules (r : Readers) : Type 0 where
  pub played_legal : (c : Contents) (lines : List Line) (sayings : List Saying) (history : List Entry) → IsScenario c
      → IsScriptOf c lines → AreWordsOf c sayings → r.played c lines sayings ≡ Ok history
      → IsLegal (setup_of c) history
  pub played_unforged : (c : Contents) (lines : List Line) (sayings : List Saying) (history : List Entry) → IsScenario c
      → IsScriptOf c lines → AreWordsOf c sayings → r.played c lines sayings ≡ Ok history
      → AreNotRaw sayings → forged (setup_of c) history ≡ 0
  pub played_told : (c : Contents) (lines : List Line) (sayings : List Saying) (history : List Entry) → IsScenario c
      → IsScriptOf c lines → AreWordsOf c sayings → r.played c lines sayings ≡ Ok history
      → r.as_told c history ≡ history
  pub run_legal : (c : Contents) (lines : List Line) (sayings : List Saying) (turns : ℕ) (history : List Entry) →
      r.may_run c lines sayings turns history → IsLegal (setup_of c) history
  pub run_there : (c : Contents) (lines : List Line) (sayings : List Saying) (turns : ℕ) → IsScenario c → IsScriptOf c lines
      → AreWordsOf c sayings → (history : List Entry) × r.may_run c lines sayings turns history
  pub merged_legal : (c : Contents) (kept : List (List ℕ)) (history : List Entry) → r.may_join c kept history →
      IsLegal (setup_of c) history
  pub read_legal : (c : Contents) (text : List ℕ) (history : List Entry) → IsScenario c →
      r.history_in c text ≡ Ok history
      → IsLegal (setup_of c) history

-- the text of a play, which tells its history, or the line at which it stops
abbrev pub PlayGives : Readers → Contents → List Line → List Saying → Result (Vec ℕ Global) Refusal → Type 0
PlayGives r c lines sayings (Ok text) = (history : List Entry) × (r.played c lines sayings ≡ Ok history)
    × (text.items ≡ r.text_of c history) × Tells r c history
PlayGives r c lines sayings (Err (refusal.Script fault line)) = r.played c lines sayings ≡ Err (fault, line)
PlayGives r c lines sayings (Err refusal.Memory) = Unit {0}
PlayGives r c lines sayings (Err _) = ⊥

-- the text of one of the histories that a run in threads may make, which tells it, unless memory ran out
abbrev pub RunGives : Readers → Contents → List Line → List Saying → ℕ → Result (Vec ℕ Global) Refusal → Type 0
RunGives r c lines sayings turns (Ok text) = (history : List Entry) × r.may_run c lines sayings turns history
    × (text.items ≡ r.text_of c history) × Tells r c history
RunGives r c lines sayings turns (Err refusal.Memory) = Unit {0}
RunGives r c lines sayings turns (Err _) = ⊥

-- the text of a history that is read, which tells it, or why it isn't one
abbrev pub ReplayGives : Readers → Contents → List ℕ → Result (Vec ℕ Global) Refusal → Type 0
ReplayGives r c bytes (Ok text) = (history : List Entry) × (r.history_in c bytes ≡ Ok history)
    × (text.items ≡ r.text_of c history) × Tells r c history
ReplayGives r c bytes (Err (refusal.History fault number)) = r.history_in c bytes ≡ Err (fault, number)
ReplayGives r c bytes (Err refusal.Memory) = Unit {0}
ReplayGives r c bytes (Err _) = ⊥

-- why a file isn't what a station kept, with the file's name
abbrev pub keep_refusal : List (List ℕ) → ℕ × KeepFault → Refusal
keep_refusal names fault = refusal.Keep (slice_index_or names fault.0 []) fault.1

-- the text of a history that joins what stations kept, which tells it, or why there is none
abbrev pub MergeGives : Readers → Contents → List (List ℕ) → List (List ℕ) → Result (Vec ℕ Global) Refusal → Type 0
MergeGives r c names kept (Ok text) = (history : List Entry) × (r.join_fault c kept ≡ None) × r.may_join c kept history
    × (text.items ≡ r.text_of c history) × Tells r c history
MergeGives r c names kept (Err refusal.Memory) = Unit {0}
MergeGives r c names kept (Err why) =
    (fault : ℕ × KeepFault) × (r.join_fault c kept ≡ Some fault) × (why ≡ keep_refusal names fault)

-- the answer over a history that is read, or why there is none
abbrev pub AnswerGives : Readers → Contents → List ℕ → Question → Result (Vec ℕ Global) Refusal → Type 0
AnswerGives r c bytes question (Ok text) =
    (history : List Entry) × (r.history_in c bytes ≡ Ok history) × (r.answered c history question ≡ Ok text.items)
AnswerGives r c bytes question (Err (refusal.NoAnswer why)) =
    (history : List Entry) × (r.history_in c bytes ≡ Ok history) × (r.answered c history question ≡ Err why)
AnswerGives r c bytes question (Err (refusal.History fault number)) = r.history_in c bytes ≡ Err (fault, number)
AnswerGives r c bytes question (Err refusal.Memory) = Unit {0}
AnswerGives r c bytes question (Err _) = ⊥

-- why there is no request, as a refusal
abbrev pub request_refusal : NoRequest → Refusal
request_refusal (BadLine number) = refusal.Pieces number
request_refusal NoText = refusal.NoAnswer none.NoText

-- the request that parts rebuild, or why there is none
abbrev pub RebuildGives : Readers → Contents → List ℕ → Result (Vec ℕ Global) Refusal → Type 0
RebuildGives r c bytes (Ok text) = r.rebuilt c bytes ≡ Ok text.items
RebuildGives r c bytes (Err refusal.Memory) = Unit {0}
RebuildGives r c bytes (Err why) = (lack : NoRequest) × (r.rebuilt c bytes ≡ Err lack) × (why ≡ request_refusal lack)
