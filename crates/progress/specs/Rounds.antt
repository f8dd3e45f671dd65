-- Rounds of fair delivery behind a beginning of a history, among correct masters that are connected. No time stands in
-- them but the order of entries: a round is as long as it takes until all that was said before it has been taken, and
-- each connected master has had a tick. What becomes of the words of intruded masters, and of those said in the round
-- itself, is left open. (Rounds in the manner of the partly synchronous networks for which PBFT claims liveness; over
-- histories they are this project's own.)
use Rattle.std.specs.Prelude.{◌≡◌, ℕ, ◌≤◌, Bool, true, false, ◌||◌, not, List, [], ◌∷◌, ◌++◌, Some, length, nat_eq}
use Rattle.std.specs.Prelude.{nat_le, slice_get}
use Rattle.message_types.specs.declared.signed.Signed.{Signed}
use Rattle.message_types.specs.declared.body.Body.{Body}
use Rattle.message_types.specs.declared.body.Body.TheVariants as body
use Rattle.quorum_sets.specs.Masters.{voters}
use Rattle.protocol_rules.specs.Group.{Group, is_door}
use Rattle.history_rules.specs.Events.{Took, Tick, Entry}
use Rattle.history_rules.specs.Setup.{Setup, is_correct_master}
use Rattle.history_rules.specs.Legal.{Stands}

-- The masters of this set are correct, and there is a quorum of them.
pub record AreConnected (w : Setup) (connected : ℕ → Bool) : Type 0 where
  pub correct : (m : ℕ) → connected m ≡ true → is_correct_master w m ≡ true
  pub enough : w.group.q ≤ length (voters connected w.group.n)

-- the actor's words arrive: it is a connected master, or a client
abbrev pub is_heard : Setup → (ℕ → Bool) → ℕ → Bool
is_heard w connected actor = connected actor || nat_le w.group.n actor

-- An actor's word goes to master m: an update to its client's doors, a voucher to no master, all else to all others.
abbrev pub goes_to : Group → ℕ → Body → ℕ → Bool
goes_to g actor word m = elim word [
  | body.Update b ↦ is_door g b.client m
  | body.Voucher b ↦ false
  | _ ↦ not (nat_eq m actor)
]

-- the master took the frame of the body that was said at the entry as number `nth`
pub record HasTaken (history : List Entry) (m : ℕ) (said : Entry) (nth : ℕ) (b : Body) : Type 0 where
  pub before : List Entry
  pub entry : Entry
  pub place : Stands history before entry
  pub by : entry.actor ≡ m
  pub frame : Signed Body
  pub event : entry.event ≡ Took said.stamp nth frame
  pub signer : frame.signer ≡ said.actor
  pub word : frame.body ≡ b

-- All that connected masters and clients said in the beginning, each connected master that it goes to took in the whole.
pub record IsDelivered (w : Setup) (connected : ℕ → Bool) (beginning whole : List Entry) : Type 0 where
  pub taken : (before : List Entry) (e : Entry) → Stands beginning before e → is_heard w connected e.actor ≡ true
      → (nth : ℕ) (b : Body) → slice_get e.said nth ≡ Some b
      → (m : ℕ) → connected m ≡ true → goes_to w.group e.actor b m ≡ true → HasTaken whole m e nth b

-- the master has a tick among these entries
pub record HasTick (entries : List Entry) (m : ℕ) : Type 0 where
  pub before : List Entry
  pub entry : Entry
  pub place : Stands entries before entry
  pub by : entry.actor ≡ m
  pub tick : entry.event ≡ Tick

-- The entries are a round behind this beginning.
pub record IsRound (w : Setup) (connected : ℕ → Bool) (beginning round : List Entry) : Type 0 where
  pub delivered : IsDelivered w connected beginning (beginning ++ round)
  pub ticks : (m : ℕ) → connected m ≡ true → HasTick round m

-- the history that rounds make behind a beginning
abbrev pub then_rounds : List Entry → List (List Entry) → List Entry
then_rounds beginning [] = beginning
then_rounds beginning (round ∷ rest) = then_rounds (beginning ++ round) rest

-- The history is fair from the end of this beginning on: it goes on in rounds, in the first of which all is taken that
-- was said before, if it wasn't yet.
abbrev pub AreRounds : Setup → (ℕ → Bool) → List Entry → List (List Entry) → Type 0
AreRounds w connected beginning [] = Unit {0}
AreRounds w connected beginning (round ∷ rest) = IsRound w connected beginning round
    × AreRounds w connected (beginning ++ round) rest
