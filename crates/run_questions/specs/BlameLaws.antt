-- What a printed blame is worth, as statements over every scenario and legal history. (This project's own; that two
-- quorums' commits of different digests show f + 1 masters at fault is PBFT's argument for safety, turned round.)
use Rattle.std.specs.Prelude.{◌≡◌, ℕ, ◌+◌, ◌<◌, ◌≤◌, true, List, length}
use Rattle.plain_lists.specs.Lists.{IsIn}
use Rattle.quorum_sets.specs.Quorum.{quorum_size}
use Rattle.quorum_sets.specs.Masters.{has_master, voters}
use Rattle.checked_frames.specs.Signing.{signs}
use Rattle.message_types.specs.declared.signed.Signed.{Signed}
use Rattle.message_types.specs.declared.body.Body.{Body}
use Rattle.message_types.specs.Texts.{body_text}
use Rattle.scenario_file.specs.Reading.{Contents}
use Rattle.scenario_file.specs.Valid.{IsScenario}
use Rattle.history_rules.specs.Events.{Entry}
use Rattle.history_rules.specs.Legal.{IsLegal}
use Rattle.history_rules.specs.Counts.{forged}
use Rattle.world_rules.specs.Scenarios.{masters_in, public_in, setup_of}
use Rattle.blame_check.specs.declared.pairs.Named.{Named}
use Rattle.blame_check.specs.Contradictions.{contradict}
use Rattle.blame_check.specs.Laws.{words_taken, blamed, has_commit}

-- the signer's public key bears the frame's signature out
abbrev pub IsSigned : Contents → Signed Body → Type 0
IsSigned c frame = signs (public_in c frame.signer) (body_text frame.body) frame.sig ≡ true

-- two words of a master that it signed, of which a correct one says one
pub record IsEvidence (c : Contents) (pair : Named) : Type 0 where
  pub is_master : pair.master < masters_in c
  pub first_by : pair.first.signer ≡ pair.master
  pub second_by : pair.second.signer ≡ pair.master
  pub first_signed : IsSigned c pair.first
  pub second_signed : IsSigned c pair.second
  pub contrary : contradict pair.first pair.second ≡ true

-- Each pair printed for a legal history is such evidence.
abbrev pub BlamedAreProved : Type 0
BlamedAreProved =
    (c : Contents) (history : List Entry) → IsLegal (setup_of c) history
    → (pair : Named) → IsIn pair (blamed (setup_of c) history) → IsEvidence c pair

-- a quorum's commits of the digest, for number s of view v, were taken
abbrev pub IsCommitted : Contents → List Entry → ℕ → ℕ → List ℕ → Type 0
IsCommitted c history v s digest =
    quorum_size c.settings.f c.settings.k ≤ length (voters (has_commit (words_taken history) v s digest) (masters_in c))

-- Where two different digests were committed as one number of a view, at least f + 1 masters are named.
abbrev pub QuorumsAreBlamed : Type 0
QuorumsAreBlamed =
    (c : Contents) (history : List Entry) → IsScenario c → (v s : ℕ) (a b : List ℕ) → (a ≡ b → ⊥)
    → IsCommitted c history v s a → IsCommitted c history v s b →
    c.settings.f + 1 ≤ length (blamed (setup_of c) history)

-- Where no word counts as forged, all that are named are intruded masters.
abbrev pub CorrectAreNotBlamed : Type 0
CorrectAreNotBlamed =
    (c : Contents) (history : List Entry) → IsLegal (setup_of c) history → forged (setup_of c) history ≡ 0
    → (pair : Named) → IsIn pair (blamed (setup_of c) history) → has_master c.settings.intruded pair.master ≡ true
