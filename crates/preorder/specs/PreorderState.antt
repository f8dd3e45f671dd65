-- What a pre-ordering holds, and when it is that of a master which knows these words and said these bodies. (How it is
-- kept is this project's own.)
use Rattle.std.specs.Prelude.{◌≡◌, ℕ, Bool, true, false, List, [], ◌∷◌, ◌++◌, Option}
use Rattle.message_types.specs.declared.signed.Signed.{Signed}
use Rattle.message_types.specs.declared.updates.Update.{Update}
use Rattle.message_types.specs.declared.body.Body.{Body}
use Rattle.quorum_sets.specs.Masters.{numbers_below}
use Rattle.protocol_rules.specs.Group.{Group, is_live}
use Rattle.protocol_rules.specs.Parts as part
use Rattle.protocol_rules.specs.Preorder.{requests_due, acks_due}
use Rattle.protocol_rules.specs.Turns.{requests_in_turn_due, request_again_due, acks_in_turn_due, acks_again_due}
use Rattle.preorder.specs.declared.firsts.First.{First}
use Rattle.preorder.specs.declared.acks.PendingAcks.{PendingAcks}
use Rattle.preorder.specs.declared.requests.Counts.{Counts}
use Rattle.preorder.specs.declared.lanes.Lane.{Lane}
use Rattle.preorder.specs.declared.introducing.Introduced.{Introduced}
use Rattle.preorder.specs.Index.{PairMap, BallotMap, at_pair, HasUpdates, HasNumbers, HasFirsts, HasBallots}
use Rattle.preorder.specs.Index.{HasCertified, HasReach, HasPending}
use Rattle.preorder.specs.Counted.{IsCounted, IsIntroduced}
use Rattle.preorder.specs.Lanes.{HasLanes}
use Rattle.preorder.specs.Again.{AreOwn, AcknowledgesFirsts}

-- The group and the master; by client and number the updates, by master and number the first requests and what is
-- certified, by master, number and digest the ballots; how far each master's numbers are certified, where
-- acknowledgements are due, and how many requests were said. For the rules that stay alive, how far each master's
-- requests had their turn, how far the requests said went, and the client and the number of the update of each.
pub record PreorderState : Type 0 where
  pub group : Group
  pub me : ℕ
  pub updates : PairMap (Signed Update)
  pub firsts : PairMap First
  pub ballots : BallotMap
  pub certificates : PairMap Update
  pub reach : List ℕ
  pub pending : PendingAcks
  pub counts : Counts
  pub lanes : List Lane
  pub introduced : Introduced
  pub own : List (ℕ × ℕ)

-- The pre-ordering of master `me`, which took these frames as frames of their own, knows these words and said these
-- bodies. What tells the next request goes by the rules of the group.
pub record IsPreorderOf (g : Group) (me : ℕ) (p : PreorderState) (taken known : List (Signed Body))
    (said : List Body) : Type 0 where
  pub group : p.group ≡ g
  pub own : p.me ≡ me
  pub updates : HasUpdates taken p.updates
  pub numbers : HasNumbers p.updates
  pub firsts : HasFirsts g known said p.firsts
  pub ballots : HasBallots known p.ballots
  pub certified : HasCertified g known p.certificates
  pub reach : HasReach g known p.reach
  pub pending : HasPending known said p.pending.low p.pending.high
  pub counted : is_live g ≡ false → IsCounted said p.counts
  pub lanes : HasLanes g known said p.lanes
  pub introduced : is_live g ≡ true → IsIntroduced said p.introduced
  pub requested : is_live g ≡ true → AreOwn said p.updates p.own
  pub acknowledged : is_live g ≡ true → AcknowledgesFirsts known said

-- it takes a frame that came as one of its own
abbrev pub Takes : PreorderState → PreorderState → Signed Body → Type 0
Takes old new f = (g : Group) (me : ℕ) (taken known : List (Signed Body)) (said : List Body)
    → IsPreorderOf g me old taken known said → IsPreorderOf g me new (taken ++ f ∷ []) known said

-- it learns a word
abbrev pub Learns : PreorderState → PreorderState → Signed Body → Type 0
Learns old new f = (g : Group) (me : ℕ) (taken : List (Signed Body)) →
    part.Learns (IsPreorderOf g me old taken) (IsPreorderOf g me new taken) (f ∷ [])

-- it says bodies
abbrev pub Says : PreorderState → PreorderState → List Body → Type 0
Says old new bodies = (g : Group) (me : ℕ) (taken : List (Signed Body)) →
    part.Says (IsPreorderOf g me old taken) (IsPreorderOf g me new taken) bodies

-- it is so, whatever the group and the master are, and the frames taken, the words known and the bodies said
abbrev pub Where : PreorderState → (Group → ℕ → List (Signed Body) → List (Signed Body) → List Body → Type 0) → Type 0
Where p Holds = (g : Group) (me : ℕ) (taken known : List (Signed Body)) (said : List Body)
    → IsPreorderOf g me p taken known said → Holds g me taken known said

-- the update that it holds as certified as request k of master j
abbrev pub certified_in : PreorderState → ℕ → ℕ → Option Update
certified_in p j k = at_pair p.certificates (j, k)

-- the requests due for the clients in turn, and then the acknowledgements due
abbrev pub bodies_due : Group → ℕ → List (Signed Body) → List (Signed Body) → List Body → List Body
bodies_due g me taken known said = requests_due g me taken said (numbers_below g.clients) ++ acks_due g known said

-- By the rules that stay alive, where these updates are executed: the requests and the acknowledgements due in turn, each
-- with those that are said again.
abbrev pub bodies_due_in_turn : Group → ℕ → List (Signed Body) → List Update → List (Signed Body) → List Body → ℕ →
    Bool → List Body
bodies_due_in_turn g me taken executed known said now at_tick =
    (requests_in_turn_due g me taken executed said (numbers_below g.clients)
    ++ request_again_due g me known said now at_tick)
    ++ (acks_in_turn_due g known said ++ acks_again_due g known said now at_tick)
