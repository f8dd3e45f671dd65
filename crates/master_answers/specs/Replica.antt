-- When what a master keeps in order to speak is what its events make of it. (How it is kept is this project's own.)
use Rattle.std.specs.Prelude.{◌≡◌, ℕ, ◌+◌, ◌≤◌, ◌<◌, Bool, true, List, ◌++◌, Option, Some, slice_get}
use Rattle.message_types.specs.declared.signed.Signed.{Signed}
use Rattle.message_types.specs.declared.updates.Update.{Update}
use Rattle.message_types.specs.declared.vouchers.Order.{Order}
use Rattle.message_types.specs.declared.body.Body.{Body}
use Rattle.protocol_rules.specs.Group.{Group, is_live}
use Rattle.protocol_rules.specs.Facts.{facts_of}
use Rattle.protocol_rules.specs.Views.{view}
use Rattle.protocol_rules.specs.Master.{Heard, answered_in, executed}
use Rattle.leader_proposals.specs.Offering.{AreOffersOf}
use Rattle.leader_proposals.specs.Saying.{IsSummaryOf, AreVouchersOf}
use Rattle.master_points.specs.Orders.{Held}
use Rattle.reconcile.specs.Shares.{AreSharesOf}
use Rattle.words_by_part.specs.Laws.{told_at, moments_at}
use Rattle.master_knowledge.specs.Past.{Past}
use Rattle.master_knowledge.specs.Knows.{Knows, IsCaughtUp}
use Rattle.master_answers.specs.Asked.{answered_by}
use Rattle.master_answers.specs.declared.replica_state.ReplicaState.{ReplicaState}

-- What master `me` keeps where it took these frames, knows these words, has this past, and said these bodies. Its shares
-- count what it answered under the rules that stay alive alone.
pub record IsReplicaOf (g : Group) (me : ℕ) (kept : ReplicaState) (taken known : List (Signed Body))
    (past : Past) (said : List Body) : Type 0 where
  pub own : kept.me ≡ me
  pub knows : Knows g me kept.knowledge taken known past said
  pub summary : IsSummaryOf g kept.summary said
  pub proposer : AreOffersOf g kept.proposer (facts_of g known) said
  pub view : kept.proposer.progress.view ≤ view g known
  pub vouchers : AreVouchersOf kept.vouchers.counts said
  pub shares : is_live g ≡ true → AreSharesOf kept.shares past.answered

-- the past at an event, with the event among the events, and after it, where these bodies were said
abbrev pub past_at : Group → List Heard → Option (Signed Body) → Bool → Past
past_at g before took at_tick = record {
  told = told_at g before took at_tick;
  moments = moments_at g before took at_tick;
  answered = answered_in before;
}

abbrev pub past_after : Group → List Heard → Option (Signed Body) → Bool → List Body → Past
past_after g before took at_tick bodies = record {
  told = told_at g before took at_tick;
  moments = moments_at g before took at_tick;
  answered = answered_in before ++ answered_by took bodies;
}

-- What is kept is that of some master that has executed all that it knows to be ordered.
pub record IsReplicaState (kept : ReplicaState) : Type 0 where
  pub group : Group
  pub own : ℕ
  pub taken : List (Signed Body)
  pub known : List (Signed Body)
  pub past : Past
  pub said : List Body
  pub is_replica : IsReplicaOf group own kept taken known past said
  pub caught : IsCaughtUp group kept.knowledge known

-- how many clients a plant has, devices and screens
abbrev pub clients_of : Held → ℕ
clients_of points = points.site.devices + points.site.screens

-- The lists of a plant are the orders of each client that the executed updates make.
pub record HoldsOrders (g : Group) (orders : List Update → ℕ → List Order) (known : List (Signed Body))
    (points : Held) : Type 0 where
  pub clients : clients_of points ≡ g.clients
  pub lists : (c : ℕ) → c < g.clients → slice_get points.lists c ≡ Some (orders (executed g known) c)
