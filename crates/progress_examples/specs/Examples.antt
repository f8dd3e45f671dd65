-- What the examples show of the laws of progress: that their premises can be met, and that the rules first specified don't do.
use Rattle.std.specs.Prelude.{◌≡◌, ℕ, ◌+◌, ◌<◌, ◌≤◌, true, false, List, [], ◌∷◌, ◌++◌, length}
use Rattle.quorum_sets.specs.Masters.{voters}
use Rattle.message_types.specs.declared.body.Body.TheVariants as body
use Rattle.history_rules.specs.Events.{Entry}
use Rattle.protocol_rules.specs.Group.{is_live, leader_of}
use Rattle.protocol_rules.specs.Views.{view, is_open, is_suspected}
use Rattle.history_rules.specs.Setup.{room, own}
use Rattle.history_rules.specs.Legal.{executions}
use Rattle.history_rules.specs.Audit.{HasSaid}
use Rattle.history_rules.specs.Counts.{intruded_masters}
use Rattle.agreement.specs.Laws.{IsSound, known_by}
use Rattle.progress.specs.Rounds.{AreConnected, IsRound, AreRounds, then_rounds}
use Rattle.progress.specs.Laws.{HaveLeader, HaveRoom, LackNothing, IsHanded}
use Rattle.history_examples.specs.Words.{update}
use Rattle.progress_examples.specs.NineRounds as it
use Rattle.progress_examples.specs.ChangeOfView as changing
use Rattle.progress_examples.specs.VoteSplit as split

-- the history after eight rounds, and after nine
abbrev pub after_eight : List Entry
after_eight = then_rounds it.beginning it.eight

abbrev pub after_nine : List Entry
after_nine = then_rounds it.beginning it.nine

-- The history of these rounds meets all premises of progress under a correct leader, but for how many rounds they are.
pub record MeetsPremises (rounds : List (List Entry)) : Type 0 where
  pub live : is_live it.group ≡ true
  pub sound : IsSound it.setup (then_rounds it.beginning rounds)
  pub connected : AreConnected it.setup it.connected
  pub fair : AreRounds it.setup it.connected it.beginning rounds
  pub leader : HaveLeader it.setup it.connected 0 it.beginning (then_rounds it.beginning rounds)
  pub room : HaveRoom it.setup it.connected 0 0 it.beginning (then_rounds it.beginning rounds)
  pub whole : LackNothing it.setup it.connected 0 it.beginning (then_rounds it.beginning rounds)
  pub handed : IsHanded it.setup it.connected 0 update it.beginning (then_rounds it.beginning rounds)

-- There is a history of nine rounds that meets all premises of progress under a correct leader, with as many intruded
-- masters as a group bears. Its first eight rounds meet the others too, and after them no connected master has executed
-- anything: the law is false of eight rounds. After the ninth each has the update.
pub record ExecutedInNineRounds : Type 0 where
  pub intruded : intruded_masters it.setup ≡ it.group.f
  pub eight : MeetsPremises it.eight
  pub eight_rounds : length it.eight ≡ 8
  pub none_before : (m : ℕ) → it.connected m ≡ true → executions it.setup after_eight m ≡ []
  pub nine : MeetsPremises it.nine
  pub nine_rounds : length it.nine ≡ 9
  pub executed : (m : ℕ) → it.connected m ≡ true → executions it.setup after_nine m ≡ update ∷ []

-- the history with a change of view after the round in which the votes spread, when the view is left, when the next is open,
-- and as a whole
abbrev pub votes_spread : List Entry
votes_spread = changing.beginning ++ changing.votes_spread

abbrev pub view_left : List Entry
view_left = then_rounds changing.beginning (changing.votes_spread ∷ changing.view_left ∷ [])

abbrev pub next_open : List Entry
next_open = then_rounds view_left (changing.reported ∷ changing.opened ∷ [])

abbrev pub executed : List Entry
executed = then_rounds next_open (changing.prepared ∷ changing.committed ∷ changing.ordered ∷ [])

-- There is a history of seven rounds that meets, one behind the other, the premises of the laws of how a view is left and the
-- next one opens: with an intruded leader that is silent and votes along, more than f + k connected masters have voted before
-- the first round, all after it; so all have left the view after the second, and know why; nobody leaves the next one, which a
-- connected master leads, and two rounds later it is open. In three more the update is executed, which it wasn't before.
pub record ExecutedAfterVotes : Type 0 where
  pub live : is_live changing.setup.group ≡ true
  pub sound : IsSound changing.setup executed
  pub intruded : intruded_masters changing.setup ≡ changing.setup.group.f
  pub leader : changing.setup.intruded (leader_of changing.setup.group 0) ≡ true
  pub connected : AreConnected changing.setup changing.connected
  pub rounds : AreRounds changing.setup changing.connected changing.beginning changing.rounds
  pub leaves : (m : ℕ) → changing.connected m ≡ true → 1 ≤ room changing.setup (own executed m)
  pub enough : changing.setup.group.f + changing.setup.group.k < length (voters changing.voting changing.setup.group.n)
  pub voting : (m : ℕ) → changing.voting m ≡ true →
      (changing.connected m ≡ true) × HasSaid changing.beginning m (body.Suspect record { v = 0 })
  pub voted : (m : ℕ) → changing.connected m ≡ true → HasSaid votes_spread m (body.Suspect record { v = 0 })
  pub leads : changing.connected (leader_of changing.setup.group 1) ≡ true
  pub came : (m : ℕ) → changing.connected m ≡ true → view changing.setup.group (known_by changing.setup view_left m) ≡ 1
  pub told : (m : ℕ) → changing.connected m ≡ true →
      is_suspected changing.setup.group (known_by changing.setup view_left m) 0 ≡ true
  pub stayed : (m : ℕ) → changing.connected m ≡ true → view changing.setup.group (known_by changing.setup executed m) ≡ 1
  pub opened : (m : ℕ) → changing.connected m ≡ true →
      is_open changing.setup.group (known_by changing.setup next_open m) ≡ true
  pub none_before : (m : ℕ) → changing.connected m ≡ true → executions changing.setup next_open m ≡ []
  pub executed : (m : ℕ) → changing.connected m ≡ true → executions changing.setup executed m ≡ update ∷ []

-- the history in which votes don't spread
abbrev pub split_up : List Entry
split_up = split.beginning ++ split.round

-- Under the rules first specified there is a sound history that meets all other premises of the law that votes spread, and in
-- which they don't: two connected masters have voted, and a round later the third has not, and is in the next view by the
-- intruded master's vote, which the two don't know. So that law is false of these rules.
pub record VotesDontSpread : Type 0 where
  pub first : is_live split.setup.group ≡ false
  pub sound : IsSound split.setup split_up
  pub connected : AreConnected split.setup split.connected
  pub round : IsRound split.setup split.connected split.beginning split.round
  pub leaves : (m : ℕ) → split.connected m ≡ true → 1 ≤ room split.setup (own split_up m)
  pub enough : split.setup.group.f + split.setup.group.k < length (voters split.voting split.setup.group.n)
  pub voting : (m : ℕ) → split.voting m ≡ true →
      (split.connected m ≡ true) × HasSaid split.beginning m (body.Suspect record { v = 0 })
  pub third : split.connected 3 ≡ true
  pub silent : HasSaid split_up 3 (body.Suspect record { v = 0 }) → ⊥
  pub ahead : view split.setup.group (known_by split.setup split_up 3) ≡ 1
  pub behind : (m : ℕ) → split.voting m ≡ true → view split.setup.group (known_by split.setup split_up m) ≡ 0
