-- How a view is left, and the next one opens: what f + k + 1 connected masters voted against all do, and then leave; and
-- reports of all of them open a view that one of them leads. (Prime's suspicion votes, with PBFT's joining of votes and its
-- view change; in rounds they are this project's own.)
use Rattle.std.specs.Prelude.{◌≡◌, ℕ, ◌+◌, ◌<◌, ◌≤◌, Bool, true, List, ◌++◌, length}
use Rattle.quorum_sets.specs.Masters.{voters}
use Rattle.message_types.specs.declared.body.Body.TheVariants as body
use Rattle.protocol_rules.specs.Group.{is_live, most_view, leader_of}
use Rattle.protocol_rules.specs.Views.{view, is_open, is_suspected}
use Rattle.history_rules.specs.Events.{Entry}
use Rattle.history_rules.specs.Setup.{Setup, room, own}
use Rattle.history_rules.specs.Legal.{IsLegal}
use Rattle.history_rules.specs.Audit.{HasSaid}
use Rattle.agreement.specs.Laws.{known_by}
use Rattle.progress.specs.Rounds.{AreConnected, IsRound}

-- Where more than f + k connected masters voted against the leader of a view in the beginning, all have done so a round later.
abbrev pub VotesSpread : Type 0
VotesSpread =
    (w : Setup) (connected : ℕ → Bool) (beginning round : List Entry) → is_live w.group ≡ true
    → IsLegal w (beginning ++ round) → AreConnected w connected → IsRound w connected beginning round
    → ((m : ℕ) → connected m ≡ true → 1 ≤ room w (own (beginning ++ round) m))
    → (v : ℕ) → v < most_view → (voting : ℕ → Bool) → w.group.f + w.group.k < length (voters voting w.group.n)
    → ((m : ℕ) → voting m ≡ true → (connected m ≡ true) × HasSaid beginning m (body.Suspect record { v = v }))
    → (m : ℕ) → connected m ≡ true → HasSaid (beginning ++ round) m (body.Suspect record { v = v })

-- A view whose leader all connected masters voted against in the beginning each has left a round later, and knows why.
abbrev pub VotedIsLeft : Type 0
VotedIsLeft =
    (w : Setup) (connected : ℕ → Bool) (beginning round : List Entry) → IsLegal w (beginning ++ round)
    → AreConnected w connected → IsRound w connected beginning round → (v : ℕ)
    → ((m : ℕ) → connected m ≡ true → HasSaid beginning m (body.Suspect record { v = v }))
    → (m : ℕ) → connected m ≡ true → (v < view w.group (known_by w (beginning ++ round) m))
    × (is_suspected w.group (known_by w (beginning ++ round) m) v ≡ true)

-- A view that all connected masters came to by a quorum's votes, that one of them leads, and that none of them leaves, is open to
-- each two rounds later.
abbrev pub ViewOpens : Type 0
ViewOpens =
    (w : Setup) (connected : ℕ → Bool) (beginning first second : List Entry) → is_live w.group ≡ true
    → IsLegal w ((beginning ++ first) ++ second) → AreConnected w connected → IsRound w connected beginning first
    → IsRound w connected (beginning ++ first) second
    → ((m : ℕ) → connected m ≡ true → 1 ≤ room w (own ((beginning ++ first) ++ second) m))
    → (v : ℕ) → connected (leader_of w.group (v + 1)) ≡ true
    → ((m : ℕ) → connected m ≡ true → view w.group (known_by w beginning m) ≡ v + 1)
    → ((m : ℕ) → connected m ≡ true → view w.group (known_by w ((beginning ++ first) ++ second) m) ≡ v + 1)
    → ((m : ℕ) → connected m ≡ true → is_suspected w.group (known_by w beginning m) v ≡ true)
    → (m : ℕ) → connected m ≡ true → is_open w.group (known_by w ((beginning ++ first) ++ second) m) ≡ true
