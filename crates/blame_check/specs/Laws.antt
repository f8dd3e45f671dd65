-- What blame is worth, as statements over every setup and legal history. (That two quorums' commits of different
-- digests show f + 1 masters at fault is PBFT's argument for safety, turned round.)
use Rattle.std.specs.Prelude.{◌≡◌, ℕ, ◌+◌, ◌<◌, ◌≤◌, Bool, true, IsTrue, ◌&&◌, List, length, nat_eq}
use Rattle.std.specs.List.{flat_map, list_any}
use Rattle.plain_lists.specs.Lists.{IsIn, Each}
use Rattle.quorum_sets.specs.Masters.{voters}
use Rattle.message_types.specs.declared.signed.Signed.{Signed}
use Rattle.message_types.specs.declared.body.Body.{Body}
use Rattle.message_types.specs.declared.body.Body.TheVariants as body
use Rattle.message_types.specs.Texts.{body_text}
use Rattle.protocol_rules.specs.Group.{Group}
use Rattle.history_rules.specs.Events.{Entry}
use Rattle.history_rules.specs.Setup.{Setup, is_correct_master}
use Rattle.history_rules.specs.Legal.{IsLegal}
use Rattle.history_rules.specs.Audit.{parts_taken, NothingForged}
use Rattle.history_rules.specs.Sameness.{is_same_body}
use Rattle.agreement.specs.Laws.{HasSizes}
use Rattle.checked_frames.specs.Standing.{Ring, part_stands, AllStand}
use Rattle.blame_check.specs.declared.pairs.Named.{Named}
use Rattle.blame_check.specs.Contradictions.{contradict, named}

-- the words of all frames taken, part by part
abbrev pub words_taken : List Entry → List (Signed Body)
words_taken history = flat_map parts_taken history

-- who is named for what was taken in a history
abbrev pub blamed : Setup → List Entry → List Named
blamed w history = named w.group.n (words_taken history)

-- two words that a master signed, which contradict each other
pub record IsProof (w : Setup) (pair : Named) : Type 0 where
  pub is_master : pair.master < w.group.n
  pub first_by : pair.first.signer ≡ pair.master
  pub second_by : pair.second.signer ≡ pair.master
  pub first_signed : w.signs pair.master (body_text pair.first.body) pair.first.sig ≡ true
  pub second_signed : w.signs pair.master (body_text pair.second.body) pair.second.sig ≡ true
  pub contrary : contradict pair.first pair.second ≡ true

-- Who is named for a legal history signed two words that contradict each other.
abbrev pub NamedContradict : Type 0
NamedContradict = (w : Setup) (history : List Entry) → IsLegal w history → (pair : Named) →
    IsIn pair (blamed w history) → IsProof w pair

-- both words of a pair stand in the ring
pub record PairStands (ring : Ring) (pair : Named) : Type 0 where
  pub first : IsTrue (part_stands ring pair.first)
  pub second : IsTrue (part_stands ring pair.second)

-- Where all words stand in a ring, both words of each pair that is named for them do.
abbrev pub NamedStand : Type 0
NamedStand = (ring : Ring) (n : ℕ) (words : List (Signed Body)) → AllStand ring words →
    Each (PairStands ring) (named n words)

-- Who signed two words that contradict each other is named, wherever among those taken the two stand.
abbrev pub ContraryAreNamed : Type 0
ContraryAreNamed =
    (n : ℕ) (words : List (Signed Body)) (p q : Signed Body) → IsIn p words → IsIn q words →
    contradict p q ≡ true → p.signer < n
    → list_any (λ x. nat_eq x.master p.signer) (named n words) ≡ true

-- the master's commit of this digest is among the words
abbrev pub has_commit : List (Signed Body) → ℕ → ℕ → List ℕ → ℕ → Bool
has_commit words v s digest m =
    list_any (λ p. nat_eq p.signer m && is_same_body p.body (body.Commit record { v = v; s = s; digest = digest }))
    words

-- Words that hold two quorums' commits of different digests, for one number of a view, name at least f + 1 masters.
abbrev pub QuorumsNameMany : Type 0
QuorumsNameMany =
    (g : Group) → HasSizes g → (words : List (Signed Body)) (v s : ℕ) (a b : List ℕ) → (a ≡ b → ⊥)
    → g.q ≤ length (voters (has_commit words v s a) g.n) → g.q ≤ length (voters (has_commit words v s b) g.n)
    → g.f + 1 ≤ length (named g.n words)

-- No correct master is named for a legal history in which nothing is forged.
abbrev pub CorrectAreNotNamed : Type 0
CorrectAreNotNamed =
    (w : Setup) (history : List Entry) → IsLegal w history → NothingForged w history
    → (pair : Named) → IsIn pair (blamed w history) → is_correct_master w pair.master ≡ true → ⊥
