-- What the examples show of the laws of agreement: that their premises can be met, and that they are needed.
use Rattle.std.specs.Prelude.{◌≡◌, ℕ, ◌⊎◌, ◌+◌, true, false, List, [], ◌∷◌, length}
use Rattle.plain_lists.specs.Lists.{Begins}
use Rattle.message_types.specs.declared.updates.Update.{Update}
use Rattle.protocol_rules.specs.Group.{leader_of}
use Rattle.history_rules.specs.Events.{Entry}
use Rattle.history_rules.specs.Setup.{Setup, is_correct_master, own, leaves_used}
use Rattle.history_rules.specs.Keeping.{is_halted}
use Rattle.history_rules.specs.Legal.{IsLegalEntry, IsLegal, executions, view_by}
use Rattle.history_rules.specs.Audit.{NothingForged, NoSharedDigest}
use Rattle.history_rules.specs.Counts.{forged, intruded_masters}
use Rattle.agreement.specs.Laws.{HasSizes, IsSound}
use Rattle.history_examples.specs.Words.{update, other_update}
use Rattle.history_examples.specs.Plain as plain
use Rattle.history_examples.specs.Relayed as relayed
use Rattle.history_examples.specs.Disagreed as disagreed
use Rattle.history_examples.specs.Forged as forging
use Rattle.history_examples.specs.Changed as changed
use Rattle.history_examples.specs.Shared as shared
use Rattle.history_examples.specs.Halted as halting

-- There is a sound history in which a correct master has executed an update, and no master is intruded: the laws'
-- premises can be met together, by a plain run.
pub record SomethingIsExecuted : Type 0 where
  pub sound : IsSound plain.setup plain.history
  pub intruded : intruded_masters plain.setup ≡ 0
  pub correct : is_correct_master plain.setup 0 ≡ true
  pub executed : executions plain.setup plain.history 0 ≡ update ∷ []

-- There is one, too, with as many intruded masters as a group bears, and the leader among them.
pub record ExecutedUnderIntrudedLeader : Type 0 where
  pub sound : IsSound relayed.setup relayed.history
  pub intruded : intruded_masters relayed.setup ≡ relayed.group.f
  pub leader : relayed.setup.intruded (leader_of relayed.group 0) ≡ true
  pub correct : is_correct_master relayed.setup 3 ≡ true
  pub executed : executions relayed.setup relayed.history 3 ≡ update ∷ []

-- what two correct masters have executed after a history, neither of which begins the other
pub record Disagree (w : Setup) (history : List Entry) (i j : ℕ) (first second : List Update) : Type 0 where
  pub first_correct : is_correct_master w i ≡ true
  pub second_correct : is_correct_master w j ≡ true
  pub first_executed : executions w history i ≡ first
  pub second_executed : executions w history j ≡ second
  pub apart : Begins first second ⊎ Begins second first → ⊥

-- With f + 1 masters intruded, and all other premises met, two correct masters disagree: the bound can't be left out.
pub record TwoIntrudedDisagree : Type 0 where
  pub legal : IsLegal disagreed.setup disagreed.history
  pub sizes : HasSizes disagreed.group
  pub intruded : intruded_masters disagreed.setup ≡ disagreed.group.f + 1
  pub unforged : NothingForged disagreed.setup disagreed.history
  pub alike : NoSharedDigest disagreed.group disagreed.history
  pub disagree : Disagree disagreed.setup disagreed.history 2 3 (update ∷ []) (other_update ∷ [])

-- With forged words, of which the audit counts 18, and all other premises met, two correct masters disagree, though no
-- master is intruded.
pub record ForgedWordsDisagree : Type 0 where
  pub legal : IsLegal forging.setup forging.history
  pub sizes : HasSizes forging.group
  pub intruded : intruded_masters forging.setup ≡ 0
  pub forged_words : forged forging.setup forging.history ≡ 18
  pub alike : NoSharedDigest forging.group forging.history
  pub disagree : Disagree forging.setup forging.history 2 3 (update ∷ []) (other_update ∷ [])

-- There is a sound history with a change of view: correct masters suspect an intruded leader, a correct one opens the
-- next view, and executes there what was prepared in the view before.
pub record ExecutedAfterChangeOfView : Type 0 where
  pub sound : IsSound changed.setup changed.history
  pub intruded : changed.setup.intruded (leader_of changed.group 0) ≡ true
  pub correct : is_correct_master changed.setup 1 ≡ true
  pub leads : leader_of changed.group 1 ≡ 1
  pub none_before : executions changed.setup changed.in_first_view 1 ≡ []
  pub view : view_by changed.setup changed.history 1 ≡ 1
  pub executed : executions changed.setup changed.history 1 ≡ update ∷ []

-- There is one of a group with a master away, whose bodies of one entry share leaves: of 40 orders that a master
-- executes, it vouches for the 32 that its last leaf can sign.
pub record ExecutedWithSharedLeaves : Type 0 where
  pub sound : IsSound shared.setup shared.history
  pub away : shared.group.k ≡ 1
  pub correct : is_correct_master shared.setup 1 ≡ true
  pub executed : executions shared.setup shared.history 1 ≡ update ∷ []
  pub orders : length (shared.setup.orders (executions shared.setup shared.history 1) 0) ≡ 40
  pub used : leaves_used shared.setup (own shared.history 1) ≡ shared.setup.leaves

-- There is one in which an actor is halted, by the failure of a call at its restart: it has no entry more, and others
-- execute.
pub record ExecutedWithoutHalted : Type 0 where
  pub sound : IsSound halting.setup halting.history
  pub correct : is_correct_master halting.setup 3 ≡ true
  pub runs : is_halted halting.setup 3 (own halting.introduced 3) ≡ false
  pub halted : is_halted halting.setup 3 (own halting.history 3) ≡ true
  pub ends : (e : Entry) → e.actor ≡ 3 → IsLegalEntry halting.setup halting.history e → ⊥
  pub executed : executions halting.setup halting.history 1 ≡ update ∷ []
