-- THE HEADLINE, as a clause of the program. Whatever the scenario, the words and the schedule of plays and of threads:
-- the text that is put is that of one legal history, one that the files define, and is read again as it; and where at most f masters are
-- intruded and the printed audit shows no forged word and no shared digest, what is printed is agreed on, as `Agreed`
-- of `world_rules` has it: of any two correct masters' executions one begins the other, no update stands there twice or
-- was never said by its client, and each proxy's writes begin a correct master's orders.
use Rattle.std.specs.Prelude.{◌≡◌, ℕ, Bool, true, false, List, [], ◌∷◌, Option, Some, Ok}
use Rattle.outside.specs.Piece.{with_piece}
use Rattle.scenario_file.specs.Reading.{Contents}
use Rattle.history_rules.specs.Events.{Entry}
use Rattle.history_rules.specs.Legal.{IsLegal}
use Rattle.history_rules.specs.Counts.{forged}
use Rattle.world_rules.specs.Scenarios.{setup_of}
use Rattle.world_rules.specs.Headline.{Premises, Agreed}
use Rattle.script_grammar.specs.Names.{who_of}
use Rattle.script_lines.specs.Scripts.{script_in}
use Rattle.script_lines.specs.Sayings.{words_in}
use Rattle.script_lines.specs.declared.script.Line.{Line}
use Rattle.script_lines.specs.declared.saying.Saying.{Saying}
use Rattle.command_words.specs.Wanted.{Wanted, play, run, replay, merge, wanted_in}
use Rattle.command_ends.specs.Calls.{Call, IsContent}
use Rattle.run_commands.specs.Readers.{Readers, AreNotRaw, Tells}
use Rattle.command_files.specs.Scenarios.{scenario_at}

-- contents that are the files', one of each, in order
abbrev pub AreContents : (List ℕ → Option (List ℕ)) → List (List ℕ) → List (List ℕ) → Type 0
AreContents held [] [] = Unit {0}
AreContents held (name ∷ names) (content ∷ more) = IsContent (held name) content × AreContents held names more
AreContents held names contents = ⊥

-- The history of a call: the one that a play's script and words define, which is told as it is, the one that a replay's file spells, one that
-- a run in threads of a script and words may make, for as many turns as the call's words say, or one that joins what the
-- stations of a merge kept.
pub data IsRun (r : Readers) (call : Call) (c : Contents) (history : List Entry) : Type 0 where
  plays : (scenario script words : List ℕ) → wanted_in call.words ≡ Some (play scenario script words)
      → (a b d : List ℕ) → IsContent (call.held scenario) a → IsContent (call.held script) b →
      IsContent (call.held words) d
      → (lines : List Line) (sayings : List Saying)
      → scenario_at a ≡ Ok c → script_in (who_of c) b ≡ Ok lines → words_in (who_of c) d ≡ Ok sayings →
      r.played c lines sayings ≡ Ok history
      → (AreNotRaw sayings → forged (setup_of c) history ≡ 0)
      → r.as_told c history ≡ history
      → IsRun r call c history
  replays : (scenario text : List ℕ) → wanted_in call.words ≡ Some (replay scenario text)
      → (a b : List ℕ) → IsContent (call.held scenario) a → IsContent (call.held text) b
      → scenario_at a ≡ Ok c → r.history_in c b ≡ Ok history
      → IsRun r call c history
  runs : (scenario script words : List ℕ) (hands turns : ℕ)
      → wanted_in call.words ≡ Some (run scenario script words hands turns)
      → (a b d : List ℕ) → IsContent (call.held scenario) a → IsContent (call.held script) b →
      IsContent (call.held words) d
      → (lines : List Line) (sayings : List Saying)
      → scenario_at a ≡ Ok c → script_in (who_of c) b ≡ Ok lines → words_in (who_of c) d ≡ Ok sayings
      → r.may_run c lines sayings turns history
      → IsRun r call c history
  merges : (scenario : List ℕ) (keeps : List (List ℕ)) → wanted_in call.words ≡ Some (merge scenario keeps)
      → (a : List ℕ) (kept : List (List ℕ)) → IsContent (call.held scenario) a → AreContents call.held keeps kept
      → scenario_at a ≡ Ok c → r.may_join c kept history
      → IsRun r call c history

pub record Headline (r : Readers) (call : Call) : Type 0 where
  pub scenario : Contents
  pub history : List Entry
  pub run : IsRun r call scenario history
  pub legal : IsLegal (setup_of scenario) history
  pub put : call.put_after ≡ with_piece call.put_before (r.text_of scenario history)
  pub told : Tells r scenario history
  pub agreed : Premises (setup_of scenario) history → Agreed scenario history

-- words that ask for a play, a replay, a run in threads or a merge
abbrev pub asks_for_run : Option Wanted → Bool
asks_for_run (Some (play scenario script words)) = true
asks_for_run (Some (replay scenario history)) = true
asks_for_run (Some (run scenario script words hands turns)) = true
asks_for_run (Some (merge scenario keeps)) = true
asks_for_run _ = false

-- The headline holds of each play, each replay, each run in threads and each merge that ends well.
abbrev pub KeepsHeadline : Readers → Call → ℕ → Type 0
KeepsHeadline r call status = status ≡ 0 → asks_for_run (wanted_in call.words) ≡ true → Headline r call
