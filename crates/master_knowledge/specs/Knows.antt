-- When what a master keeps is what its words make of it. (How it is kept is this project's own.)
use Rattle.std.specs.Prelude.{◌≡◌, ℕ, ◌<◌, true, false, List, ◌++◌, Some}
use Rattle.std.specs.List.{list_all}
use Rattle.message_types.specs.declared.signed.Signed.{Signed}
use Rattle.message_types.specs.declared.updates.Update.{Update}
use Rattle.message_types.specs.declared.body.Body.{Body}
use Rattle.protocol_rules.specs.Group.{Group, is_live}
use Rattle.protocol_rules.specs.Preorder.{certified}
use Rattle.protocol_rules.specs.Facts.{facts_of}
use Rattle.protocol_rules.specs.Matrix.{reach}
use Rattle.protocol_rules.specs.Order.{ordered_run}
use Rattle.protocol_rules.specs.Measures.{ticks_of}
use Rattle.protocol_rules.specs.Patience.{ticks_in}
use Rattle.protocol_rules.specs.Master.{certified_requests}
use Rattle.preorder.specs.PreorderState.{IsPreorderOf}
use Rattle.summary_matrix.specs.Held.{IsMatrixOf}
use Rattle.execution.specs.Ran.{Ran, IsRunOf}
use Rattle.global_order.specs.OrderState.{IsOrderOf}
use Rattle.view_change.specs.ViewState.{AreViewsOf}
use Rattle.suspect_leader.specs.MeasureState.{IsMeasureOf}
use Rattle.leader_patience.specs.PatienceState.{IsPatienceOf}
use Rattle.leader_wait.specs.Waiting.{IsWaitOf}
use Rattle.lacking.specs.Come.{IsFurthestOf}
use Rattle.lacking.specs.Earlier.{IsShownOf}
use Rattle.reconcile.specs.AskState.{AreAsksOf}
use Rattle.reconcile.specs.GiftState.{AreGiftsOf}
use Rattle.master_knowledge.specs.Past.{Past}
use Rattle.master_knowledge.specs.Whole.{is_whole}
use Rattle.master_knowledge.specs.declared.knowledge.Knowledge.{Knowledge}

-- each update that is certified is of a client that is there
abbrev pub HasClients : Group → List (Signed Body) → Type 0
HasClients g known = (j k : ℕ) (u : Update) → certified g known j k ≡ Some u → u.client < g.clients

-- The execution goes by all certificates known and by the first of the rows ordered without a gap.
pub record IsExecutionOf (g : Group) (m : Ran) (known : List (Signed Body)) : Type 0 where
  pub before : List (List (List ℕ))
  pub after : List (List (List ℕ))
  pub all : ordered_run g (facts_of g known) ≡ before ++ after
  pub run : IsRunOf g m (certified_requests g known) before

-- How much is ordered of each master's requests where these words are known.
abbrev pub ordered_reach : Group → List (Signed Body) → ℕ → ℕ
ordered_reach g known = reach g (ordered_run g (facts_of g known))

-- What a master keeps where it took these frames, knows these words, has this past, and said these bodies. Of what only one
-- set of rules goes by it keeps what the words make of it under these rules alone: its measures under those first specified,
-- its patience and its wait under those that stay alive.
pub record Knows (g : Group) (me : ℕ) (kept : Knowledge) (taken known : List (Signed Body)) (past : Past)
    (said : List Body) : Type 0 where
  pub masters : kept.sizes.n ≡ g.n
  pub quorum : kept.sizes.q ≡ g.q
  pub rules : kept.sizes.rules ≡ g.rules
  pub whole : list_all (is_whole g) known ≡ true
  pub preorder : IsPreorderOf g me kept.preorder taken known said
  pub matrix : IsMatrixOf g kept.matrix known
  pub order : IsOrderOf g kept.order (facts_of g known) said
  pub run : IsExecutionOf g kept.run known
  pub views : AreViewsOf g me kept.views known said
  pub ticks_told : kept.measure.ticks ≡ ticks_of past.told
  pub ticks : kept.measure.ticks ≡ ticks_in past.moments
  pub measure : is_live g ≡ false → IsMeasureOf g me kept.measure past.told known said
  pub patience : is_live g ≡ true → IsPatienceOf g kept.patience known said
  pub wait : is_live g ≡ true → IsWaitOf g kept.wait (ordered_reach g known) past.moments
  pub furthest : IsFurthestOf g kept.furthest (facts_of g known)
  pub earlier : IsShownOf g kept.earlier past.moments
  pub asks : AreAsksOf g me kept.asks known said
  pub gifts : AreGiftsOf g kept.gifts known

-- The knowledge learns words: whatever was taken, known and said, and whatever the past, it is the knowledge where these
-- are known too.
abbrev pub Learns : Knowledge → Knowledge → List (Signed Body) → Type 0
Learns old new words =
    (g : Group) (me : ℕ) (taken known : List (Signed Body)) (past : Past) (said : List Body) →
    Knows g me old taken known past said → Knows g me new taken (known ++ words) past said

-- what holds of all that may be taken, known and said, and of each past, where this is the knowledge
abbrev pub Where : Knowledge →
    (Group → ℕ → List (Signed Body) → List (Signed Body) → Past → List Body → Type 0) → Type 0
Where kept Holds =
    (g : Group) (me : ℕ) (taken known : List (Signed Body)) (past : Past) (said : List Body) →
    Knows g me kept taken known past said → Holds g me taken known past said

-- What is kept is the knowledge of some master.
pub record IsKnowledge (kept : Knowledge) : Type 0 where
  pub group : Group
  pub own : ℕ
  pub taken : List (Signed Body)
  pub known : List (Signed Body)
  pub past : Past
  pub said : List Body
  pub knows : Knows group own kept taken known past said

-- The execution took the rows of all numbers that are ordered without a gap.
abbrev pub IsCaughtUp : Group → Knowledge → List (Signed Body) → Type 0
IsCaughtUp g kept known = IsRunOf g kept.run (certified_requests g known) (ordered_run g (facts_of g known))
