-- What no correct master says in two ways, as statements over every setup and legal history. Of two words of one of
-- these kinds, said by it at any two entries (or at one), that bear the same numbers, both are the same. So whoever is
-- found to have said two different ones is no correct master. (Prime's acknowledgements and PBFT's three phases; the
-- laws of agreement rest on the first two.)
use Rattle.std.specs.Prelude.{◌≡◌, ℕ, true, List}
use Rattle.message_types.specs.declared.preordering.PoAck.{PoAck}
use Rattle.message_types.specs.declared.ordering.PrePrepare.{PrePrepare}
use Rattle.message_types.specs.declared.ordering.Prepare.{Prepare}
use Rattle.message_types.specs.declared.ordering.Commit.{Commit}
use Rattle.message_types.specs.declared.body.Body.TheVariants as body
use Rattle.history_rules.specs.Events.{Entry}
use Rattle.history_rules.specs.Setup.{Setup, is_correct_master}
use Rattle.history_rules.specs.Legal.{IsLegal}
use Rattle.history_rules.specs.Audit.{HasSaid}

-- one acknowledgement, with one digest, for each request (j, k)
abbrev pub AcknowledgesOnce : Type 0
AcknowledgesOnce =
    (w : Setup) (history : List Entry) (i : ℕ) → IsLegal w history → is_correct_master w i ≡ true → (a b : PoAck)
    → HasSaid history i (body.PoAck a) → HasSaid history i (body.PoAck b) → a.j ≡ b.j → a.k ≡ b.k → a ≡ b

-- as a leader, one proposal for each number of a view
abbrev pub ProposesOnce : Type 0
ProposesOnce =
    (w : Setup) (history : List Entry) (i : ℕ) → IsLegal w history → is_correct_master w i ≡ true → (a b : PrePrepare)
    → HasSaid history i (body.PrePrepare a) → HasSaid history i (body.PrePrepare b) → a.v ≡ b.v → a.s ≡ b.s → a ≡ b

-- one prepare for each number of a view
abbrev pub PreparesOnce : Type 0
PreparesOnce =
    (w : Setup) (history : List Entry) (i : ℕ) → IsLegal w history → is_correct_master w i ≡ true → (a b : Prepare)
    → HasSaid history i (body.Prepare a) → HasSaid history i (body.Prepare b) → a.v ≡ b.v → a.s ≡ b.s → a ≡ b

-- one commit for each number of a view
abbrev pub CommitsOnce : Type 0
CommitsOnce =
    (w : Setup) (history : List Entry) (i : ℕ) → IsLegal w history → is_correct_master w i ≡ true → (a b : Commit)
    → HasSaid history i (body.Commit a) → HasSaid history i (body.Commit b) → a.v ≡ b.v → a.s ≡ b.s → a ≡ b
