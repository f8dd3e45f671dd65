-- What a call puts that asks a question over a history: the answer over one legal history, the one that its file
-- spells. (This project's own.)
use Rattle.std.specs.Prelude.{◌≡◌, ℕ, List, Option, Some, Ok, Err, option_map, option_and_then}
use Rattle.outside.specs.Piece.{with_piece}
use Rattle.scenario_file.specs.Reading.{Contents}
use Rattle.scenario_file.specs.Valid.{IsScenario}
use Rattle.history_rules.specs.Events.{Entry}
use Rattle.history_rules.specs.Legal.{IsLegal}
use Rattle.world_rules.specs.Scenarios.{setup_of}
use Rattle.command_words.specs.Wanted.{rebuild, wanted_in}
use Rattle.command_ends.specs.Calls.{Call, IsContent, PutsNothing}
use Rattle.command_ends.specs.Ended.{ErrorSink, Told}
use Rattle.command_ends.specs.declared.refusal.NoAnswer.{NoAnswer}
use Rattle.command_ends.specs.declared.refusal.NoAnswer.TheVariants as none
use Rattle.command_ends.specs.declared.refusal.Refusal.TheVariants as refusal
use Rattle.run_commands.specs.declared.questions.Question.{Question}
use Rattle.run_commands.specs.Posed.{posed}
use Rattle.run_commands.specs.Readers.{Readers, NoRequest}
use Rattle.command_files.specs.Scenarios.{scenario_at}

-- what the words ask over a history, where they ask something
abbrev pub asked_by : List (List ℕ) → Option Question
asked_by words = option_map (λ (p : List ℕ × List ℕ × Question). p.2) (option_and_then posed (wanted_in words))

-- the scenario and the history that the files of a call spell, which the words name in this order
pub record Spells (r : Readers) (call : Call) (asked : Question) (c : Contents) (history : List Entry) : Type 0 where
  pub scenario : List ℕ
  pub name : List ℕ
  pub named : option_and_then posed (wanted_in call.words) ≡ Some (scenario, name, asked)
  pub first : List ℕ
  pub second : List ℕ
  pub first_held : IsContent (call.held scenario) first
  pub second_held : IsContent (call.held name) second
  pub scenario_read : scenario_at first ≡ Ok c
  pub history_read : r.history_in c second ≡ Ok history
  pub valid : IsScenario c
  pub legal : IsLegal (setup_of c) history

-- the answer was put
pub record Answered (r : Readers) (call : Call) (asked : Question) : Type 0 where
  pub scenario : Contents
  pub history : List Entry
  pub spells : Spells r call asked scenario history
  pub text : List ℕ
  pub answered : r.answered scenario history asked ≡ Ok text
  pub put : call.put_after ≡ with_piece call.put_before text

-- there is no answer, and its line tells why
pub record Unanswered (r : Readers) (call : Call) (err : ErrorSink) (status : ℕ) (asked : Question) : Type 0 where
  pub scenario : Contents
  pub history : List Entry
  pub spells : Spells r call asked scenario history
  pub why : NoAnswer
  pub answered : r.answered scenario history asked ≡ Err why
  pub told : Told (refusal.NoAnswer why) err status
  pub put : PutsNothing call

-- Each question that ends well is answered, and each with status 9 has no answer.
pub record KeepsAnswers (r : Readers) (call : Call) (err : ErrorSink) (status : ℕ) : Type 0 where
  pub answers : status ≡ 0 → (asked : Question) → asked_by call.words ≡ Some asked → Answered r call asked
  pub lacks : status ≡ 9 → (asked : Question) → asked_by call.words ≡ Some asked → Unanswered r call err status asked

-- the scenario that a file of a call spells, and what the file of parts holds
pub record HasPieces (call : Call) (scenario pieces : List ℕ) (c : Contents) (content : List ℕ) : Type 0 where
  pub first : List ℕ
  pub first_held : IsContent (call.held scenario) first
  pub second_held : IsContent (call.held pieces) content
  pub scenario_read : scenario_at first ≡ Ok c
  pub valid : IsScenario c

-- the request was put
pub record Rebuilt (r : Readers) (call : Call) (scenario pieces : List ℕ) : Type 0 where
  pub contents : Contents
  pub lines : List ℕ
  pub has : HasPieces call scenario pieces contents lines
  pub text : List ℕ
  pub rebuilt : r.rebuilt contents lines ≡ Ok text
  pub put : call.put_after ≡ with_piece call.put_before text

-- there is no request of these parts
pub record NotRebuilt (r : Readers) (call : Call) (err : ErrorSink) (status : ℕ)
    (scenario pieces : List ℕ) : Type 0 where
  pub contents : Contents
  pub lines : List ℕ
  pub has : HasPieces call scenario pieces contents lines
  pub rebuilt : r.rebuilt contents lines ≡ Err NoRequest.NoText
  pub told : Told (refusal.NoAnswer none.NoText) err status
  pub put : PutsNothing call

-- Each request that is asked for from parts and ends well is the one that they rebuild, and each with status 9 is none.
pub record KeepsRequests (r : Readers) (call : Call) (err : ErrorSink) (status : ℕ) : Type 0 where
  pub rebuilds : status ≡ 0 → (scenario pieces : List ℕ) → wanted_in call.words ≡ Some (rebuild scenario pieces) →
      Rebuilt r call scenario pieces
  pub lacks : status ≡ 9 → (scenario pieces : List ℕ) → wanted_in call.words ≡ Some (rebuild scenario pieces)
      → NotRebuilt r call err status scenario pieces
