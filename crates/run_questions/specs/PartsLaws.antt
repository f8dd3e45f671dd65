-- What holds of the text of parts of a request. (This project's own.)
use Rattle.std.specs.Prelude.{◌≡◌, ◌<◌, ◌≤◌, ℕ, not, List, length, filter, take, drop, Some, Ok}
use Rattle.std.specs.List.{AllByRecursion, list_any}
use Rattle.std.specs.Str.{bytes_eq}
use Rattle.sha2.specs.Sha256.{sha256}
use Rattle.quorum_sets.specs.Quorum.{IsGroup}
use Rattle.scenario_file.specs.Reading.{Contents}
use Rattle.scenario_file.specs.Valid.{IsScenario}
use Rattle.history_rules.specs.Events.{Entry}
use Rattle.history_rules.specs.Legal.{IsLegal}
use Rattle.message_types.specs.declared.updates.Update.{Update}
use Rattle.message_types.specs.Digests.{digest_of_update}
use Rattle.history_rules.specs.Setup.{Setup}
use Rattle.world_rules.specs.Headline.{Premises}
use Rattle.world_rules.specs.Scenarios.{setup_of}
use Rattle.run_lines.specs.Runs.{pieces, is_empty}
use Rattle.parity_parts.specs.declared.part.Part.{Part}
use Rattle.parity_parts.specs.declared.limits.TheConstants.{MOST_TEXT_BYTES}
use Rattle.parity_parts.specs.Parts.{AreBytes}
use Rattle.part_lines.specs.declared.told.Told.{Told}
use Rattle.part_lines.specs.Laws.{RiseFrom, IsRebuilt, own_part}
use Rattle.part_lines.specs.Rebuilding.{told_for}
use Rattle.part_lines.specs.Texts.{parts_text}
use Rattle.run_questions.specs.PartsText.{certified_by, parts_in}

-- a master's part of a text of this digest
pub record IsOfDigest (f : ℕ) (digest : List ℕ) (part : Part) : Type 0 where
  pub text : List ℕ
  pub bytes : AreBytes text
  pub some : 1 ≤ length text
  pub few : length text ≤ MOST_TEXT_BYTES
  pub is_digest : sha256 text ≡ digest
  pub own : part ≡ own_part f text part.master

-- A digest, and parts of texts of that digest whose masters rise. They are read again.
pub record ArePrinted (c : Contents) (printed : List ℕ) : Type 0 where
  pub told : Told
  pub text : printed ≡ parts_text told.digest told.parts
  pub rise : RiseFrom 0 told.parts
  pub parts : AllByRecursion (IsOfDigest c.settings.f told.digest) told.parts
  pub read : told_for c printed ≡ Ok told

-- What is printed for a request in a history is its digest and parts of texts of that digest.
abbrev pub PartsArePrinted : Type 0
PartsArePrinted =
    (c : Contents) (history : List Entry) (j k : ℕ) (printed : List ℕ) → IsGroup c.settings.f c.settings.k
    → parts_in c history j k ≡ Some printed → ArePrinted c printed

-- the lines of a text of parts behind its first
abbrev pub lines_behind : List ℕ → List (List ℕ)
lines_behind bytes = filter (λ line. not (is_empty line)) (drop 1 (pieces bytes))

-- The first line of a text of parts is that of the printed one, and at least f + 1 of its other lines stand in the
-- printed one.
pub record HasPrintedLines (c : Contents) (printed bytes : List ℕ) : Type 0 where
  pub first : take 1 (pieces bytes) ≡ take 1 (pieces printed)
  pub enough : c.settings.f < length
      (filter (λ line. list_any (bytes_eq line) (lines_behind printed)) (lines_behind bytes))

-- Of the updates that correct masters have certified as request k of master j no two have one digest.
abbrev pub HaveOwnDigests : Setup → List Entry → ℕ → ℕ → Type 0
HaveOwnDigests w history j k =
    (m n : ℕ) (u v : Update) → certified_by w history j k m ≡ Some u → certified_by w history j k n ≡ Some v
    → digest_of_update u ≡ digest_of_update v → u ≡ v

-- It is so in a legal history, while at most f masters are intruded, no word is forged and no digest is shared.
abbrev pub CertifiedHaveOwnDigests : Type 0
CertifiedHaveOwnDigests =
    (c : Contents) (history : List Entry) (j k : ℕ) → IsScenario c → IsLegal (setup_of c) history
    → Premises (setup_of c) history → HaveOwnDigests (setup_of c) history j k

-- Where no two certified updates have one digest, whoever is intruded and whatever is forged: from any f + 1 of the
-- lines that are printed for a request, whatever the other lines are, a text of the printed digest is rebuilt.
abbrev pub PrintedLinesRebuild : Type 0
PrintedLinesRebuild =
    (c : Contents) (history : List Entry) (j k : ℕ) (printed bytes : List ℕ) (told : Told) → IsScenario c
    → HaveOwnDigests (setup_of c) history j k → parts_in c history j k ≡ Some printed → told_for c bytes ≡ Ok told →
    HasPrintedLines c printed bytes
    → IsRebuilt c bytes told
