-- When the state of a master is what its events make of it. (How it is kept is this project's own.)
use Rattle.std.specs.Prelude.{◌≡◌, ℕ, ◌+◌, ◌-◌, ◌^◌, ◌<◌, ◌≤◌, Bool, true, List, [], ◌++◌, Option, length, map}
use Rattle.std.specs.Prelude.{slice_index, nat_eq}
use Rattle.std.specs.List.{list_all, flat_map, slice_index_or}
use Rattle.plain_lists.specs.Lists.{Begins}
use Rattle.message_types.specs.declared.signed.Signed.{Signed}
use Rattle.message_types.specs.declared.updates.Update.{Update}
use Rattle.message_types.specs.declared.body.Body.{Body}
use Rattle.message_types.specs.Parts.{parts}
use Rattle.protocol_rules.specs.Group.{Group}
use Rattle.protocol_rules.specs.Places.{in_place}
use Rattle.protocol_rules.specs.Master.{Heard, learned, known_at, taken_at, said_before, told_of, moments_of}
use Rattle.protocol_rules.specs.Master.{answered_in, executed}
use Rattle.history_rules.specs.Legal.{known_of}
use Rattle.agreement.specs.Laws.{HasSizes}
use Rattle.words_in_place.specs.Laws.{ticks_heard, MaySpeak}
use Rattle.master_points.specs.declared.plant.Plant.{Plant}
use Rattle.master_points.specs.Orders.{Held, IsPlant, fresh, held_after, orders}
use Rattle.master_knowledge.specs.Past.{Past}
use Rattle.master_knowledge.specs.Knows.{IsCaughtUp}
use Rattle.master_answers.specs.Replica.{IsReplicaOf, past_at, past_after, clients_of}
use Rattle.history_rules.specs.Leaves.{leaves_for}
use Rattle.master_node.specs.Charge.{Charge, leaves_left, says_at, taken_by}
use Rattle.master_node.specs.declared.running.Running.{Running}

-- The points are the plant after all updates that are executed where these words are known.
pub record HoldsPlant (c : Charge) (known : List (Signed Body)) (points : Held) : Type 0 where
  pub plant : Plant
  pub screens : ℕ
  pub within : IsPlant plant screens
  pub clients : length plant.devices + screens ≡ c.group.clients
  pub orders : (updates : List Update) (client : ℕ) → c.orders updates client ≡ orders plant screens updates client
  pub held : points ≡ held_after (fresh plant screens) (executed c.group known)

-- the past after these events, where the asks of these masters were answered
abbrev pub past_then : Group → List Heard → List ℕ → Past
past_then g before answered = record {
  told = told_of g [] before;
  moments = moments_of g [] before;
  answered = answered;
}

abbrev pub past_of : Group → List Heard → Past
past_of g before = past_then g before (answered_in before)

-- What a master keeps where it took these frames, knows these words, has this past, and said these bodies. Once no leaf is
-- left it says nothing any more, so what its parts count as said and answered doesn't matter then.
pub record Keeps (c : Charge) (kept : Running) (taken known : List (Signed Body)) (past : Past)
    (said : List Body) : Type 0 where
  pub counted : List Body
  pub answered : List ℕ
  pub is_replica : IsReplicaOf c.group c.me kept.replica taken known (record past { answered = answered }) counted
  pub all : 0 < kept.leaves → counted ≡ said
  pub all_answered : 0 < kept.leaves → answered ≡ past.answered

-- No more vouchers are counted for a client than it has orders.
abbrev pub FewVouchers : Running → Type 0
FewVouchers kept = (client : ℕ) → client < clients_of kept.points →
    slice_index kept.replica.vouchers.counts client ≤ length (slice_index_or kept.points.lists client [])

-- The state of master `me` after these events, of which it was handed all frames that it said.
pub record IsRunning (c : Charge) (kept : Running) (before : List Heard) : Type 0 where
  pub sizes : HasSizes c.group
  pub master : c.me < c.group.n
  pub ticks : ticks_heard before ≤ 2 ^ 32
  pub keeps : Keeps c kept (taken_by before) (known_of before) (past_of c.group before) (said_before before)
  pub caught : IsCaughtUp c.group kept.replica.knowledge (known_of before)
  pub points : HoldsPlant c (known_of before) kept.points
  pub vouchers : FewVouchers kept
  pub unheard : known_of before ++ flat_map parts kept.unheard ≡ flat_map learned before
  pub placed : list_all (in_place c.group) (flat_map learned before) ≡ true
  pub leaves : kept.leaves ≡ leaves_left c before
  pub shared : kept.shared_leaves ≡ c.shared_leaves

-- The state of a master at an event after these, once it has said what is due and before it is handed the frames.
pub record HasSpoken (c : Charge) (kept : Running) (before : List Heard) (took : Option (Signed Body))
    (at_tick : Bool) : Type 0 where
  pub is_replica : MaySpeak c.group c.me before took at_tick
  pub keeps : Keeps c kept (taken_at before took) (known_at before took)
      (past_after c.group before took at_tick (says_at c before took at_tick))
      (said_before before ++ says_at c before took at_tick)
  pub caught : IsCaughtUp c.group kept.replica.knowledge (known_at before took)
  pub points : HoldsPlant c (known_at before took) kept.points
  pub vouchers : FewVouchers kept
  pub unheard : kept.unheard ≡ []
  pub leaves : kept.leaves ≡ leaves_left c before - leaves_for c.shared_leaves (length (says_at c before took at_tick))
  pub shared : kept.shared_leaves ≡ c.shared_leaves

-- The state at an event at which the words are known already, but what they make executed isn't yet: the points are the
-- plant after the first `done` updates executed.
pub record HasLearned (c : Charge) (kept : Running) (before : List Heard) (took : Option (Signed Body))
    (at_tick : Bool) (done : ℕ) : Type 0 where
  pub is_replica : MaySpeak c.group c.me before took at_tick
  pub keeps : Keeps c kept (taken_at before took) (known_at before took) (past_of c.group before)
      (said_before before)
  pub earlier : List (Signed Body)
  pub points : HoldsPlant c earlier kept.points
  pub grown : Begins (executed c.group earlier) (executed c.group (known_at before took))
  pub many : length (executed c.group earlier) ≡ done
  pub vouchers : FewVouchers kept
  pub unheard : kept.unheard ≡ []
  pub leaves : kept.leaves ≡ leaves_left c before
  pub shared : kept.shared_leaves ≡ c.shared_leaves

-- The state at an event once all is executed and the measures were told, before anything is said.
pub record IsReady (c : Charge) (kept : Running) (before : List Heard) (took : Option (Signed Body))
    (at_tick : Bool) : Type 0 where
  pub is_replica : MaySpeak c.group c.me before took at_tick
  pub keeps : Keeps c kept (taken_at before took) (known_at before took) (past_at c.group before took at_tick)
      (said_before before)
  pub caught : IsCaughtUp c.group kept.replica.knowledge (known_at before took)
  pub points : HoldsPlant c (known_at before took) kept.points
  pub vouchers : FewVouchers kept
  pub unheard : kept.unheard ≡ []
  pub leaves : kept.leaves ≡ leaves_left c before
  pub shared : kept.shared_leaves ≡ c.shared_leaves

-- the frames are the master's own, of just what it says at the event
pub record AreItsFrames (c : Charge) (before : List Heard) (took : Option (Signed Body)) (at_tick : Bool)
    (frames : List (Signed Body)) : Type 0 where
  pub own : list_all (λ f. nat_eq f.signer c.me) frames ≡ true
  pub words : map (λ f. f.body) frames ≡ says_at c before took at_tick

-- some events make the state what it is
pub record IsSomeRunning (kept : Running) : Type 0 where
  pub charge : Charge
  pub before : List Heard
  pub is : IsRunning charge kept before

-- so it is in the midst of an event
pub record IsSomeLearned (kept : Running) (at_tick : Bool) (done : ℕ) : Type 0 where
  pub charge : Charge
  pub before : List Heard
  pub took : Option (Signed Body)
  pub is : HasLearned charge kept before took at_tick done

pub record IsSomeReady (kept : Running) (at_tick : Bool) : Type 0 where
  pub charge : Charge
  pub before : List Heard
  pub took : Option (Signed Body)
  pub is : IsReady charge kept before took at_tick

-- the group by which places of frames are looked at
abbrev pub group_in : Running → Group
group_in kept = kept.replica.knowledge.preorder.group

-- the ticks so far
abbrev pub ticks_in : Running → ℕ
ticks_in kept = kept.replica.knowledge.measure.ticks

-- the master's number
abbrev pub number_in : Running → ℕ
number_in kept = kept.replica.me

-- how many leaves it has left
abbrev pub leaves_in : Running → ℕ
leaves_in kept = kept.leaves
