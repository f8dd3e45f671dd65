-- The next number is the definition's where the limits allow one; the reach settled and raised up to it is that
-- of the rows known, so that what the matrix proposes above it is what is due.
use Rattle.std.proofs.Common.{◌≡◌, ℕ, Option, Some, None, List, nat_eq, sym, ◌∙◌, ap, subst, append-nil}
use Rattle.std.specs.Option.{option_map, option_to_list}
use Rattle.message_types.specs.declared.signed.Signed.{Signed}
use Rattle.message_types.specs.declared.preordering.PoSummary.{PoSummary}
use Rattle.message_types.specs.declared.body.Body.{Body}
use Rattle.message_types.specs.declared.body.Body.TheVariants as body
use Rattle.protocol_rules.specs.declared.facts.OrderFact.{OrderFact}
use Rattle.protocol_rules.specs.Group.{Group, leader_of}
use Rattle.protocol_rules.specs.Master.{preprepares_due}
use Rattle.protocol_rules.specs.Order.{plan_known}
use Rattle.protocol_rules.specs.Views.{view, is_open}
use Rattle.summary_matrix.specs.Held.{IsMatrixOf}
use Rattle.global_order.specs.OrderState.{HasSizes, IsOrderOf}
use Rattle.quorum_sets.specs.declared.sizes.Sizes.{Sizes}
use Rattle.message_types.specs.declared.views.Plan.{Plan}
use Rattle.leader_proposals.specs.declared.progress.Progress.{Progress}
use Rattle.leader_proposals.specs.Counting.{IsSettled}
use Rattle.leader_proposals.specs.Offering.{Offered, AreOffersOf, IsProgressOf}
use Rattle.leader_proposals.proofs.Offering.{group-few, plan-allowed, unplanned-due, nothing-due, answer-due}
use Rattle.leader_proposals.proofs.Offering.{number-some, settled-below, kept-settled, kept-offered}
use Rattle.leader_proposals.proofs.proposer.Proposer.due.Goals.{After-settle-settled, In_ok-proposal}
use Rattle.leader_proposals.proofs.proposer.Proposer.due.Goals as goal

-- how far the leader came at first, and once what the order has settled is counted, where it follows a plan
record IsAt (g : Group) (facts : List OrderFact) (said : List Body) (sizes : Sizes) (plan : Plan)
    (first now : Progress) : Type 0 where
  of_group : HasSizes g sizes.n sizes.q
  present : IsProgressOf g first facts said
  known : plan_known facts first.view ≡ Some plan
  settled : IsSettled g facts now.view now.settled now.reach.numbers

settled_at : (c : After-settle-settled) (g : Group) (facts : List OrderFact) (ordered said : List Body) →
    IsOrderOf g c.args.order.now facts ordered → AreOffersOf g c.args.self.now facts said →
    IsAt g facts said c.self.inside.sizes c.in-Some.plan.now c.in_view-present.result c.settle-settled.result
settled_at c g facts ordered said order is =
    let before = subst (λ (o : Offered). AreOffersOf g o facts said) (sym c.self.view_is) is in
    let present = c.in_view-present.ensures.kept g facts said before.progress in
    let plan = ap (plan_known facts) c.in_view-present.ensures.view ∙ plan-allowed _ _ c.in-Some.plan.now
    (c.in-Some.ensures g facts ordered order) in
    record {
      of_group = before.sizes;
      present = present;
      known = plan;
      settled = c.settle-settled.ensures.settled g facts ordered order before.sizes plan present.settled;
    }

-- it came as far by what it said
kept_at : (c : After-settle-settled) (g : Group) (facts : List OrderFact) (said : List Body) →
    IsAt g facts said c.self.inside.sizes c.in-Some.plan.now c.in_view-present.result c.settle-settled.result →
    IsProgressOf g c.settle-settled.result facts said
kept_at c g facts said at = kept-settled g c.in_view-present.result c.settle-settled.result facts said
    c.in-Some.plan.now c.stable.result c.in-Some-next_number.number c.settle-settled.ensures.view
    c.settle-settled.ensures.greatest c.settle-settled.ensures.limit at.known c.in-Some-next_number.ensures at.settled
    at.present

-- what the matrix answers is what is due
answered : (c : In_ok-proposal) (answer : Option (List (Signed PoSummary))) → answer ≡ c.in_ok-proposal.field-0 →
    (g : Group) (me : ℕ) (known : List (Signed Body)) (facts : List OrderFact) (ordered said : List Body) →
    IsOrderOf g c.args.order.now facts ordered → IsMatrixOf g c.args.matrix.now known → c.args.view ≡ view g known →
    c.args.is_open ≡ is_open g known → c.args.leads ≡ nat_eq me (leader_of g c.args.view) →
    IsAt g facts said c.self.inside.sizes c.in-Some.plan.now c.in_view-present.result c.settle-settled.result →
    option_to_list (option_map
    (λ frames. body.PrePrepare record { v = c.args.view; s = c.in-Some-next_number.number; frames = frames }) answer)
    ≡ preprepares_due g me known facts said c.args.at_tick
answered c answer same g me known facts ordered said order matrix view_is open_is leads_is at =
    let below = settled-below g c.in_view-present.result facts said c.in-Some.plan.now c.stable.result
    c.in-Some-next_number.number c.settle-settled.result.settled at.known c.in-Some-next_number.ensures
    c.settle-settled.ensures.limit at.present in
    answer-due g me known facts said c.args.at_tick c.args.leads c.args.is_open c.args.view c.in-Some.plan.now
    c.in_view-present.result c.stable.result c.in-Some-next_number.number c.reach_to-reach.result.numbers
    c.settle-settled.result.view answer view_is open_is leads_is (c.in-Some.ensures g facts ordered order)
    c.in_view-present.ensures.view at.present (c.stable.ensures g facts ordered order) c.in-Some-next_number.ensures
    (group-few g c.self.inside.sizes at.of_group) (c.settle-settled.ensures.view ∙ c.in_view-present.ensures.view)
    (c.reach_to-reach.ensures g facts ordered order at.of_group (ap (plan_known facts) c.settle-settled.ensures.view
    ∙ at.known) below at.settled) (same ∙ c.in_ok-proposal.ensures g known matrix)

pub returns-in_default-clause-due : goal.returns-in_default-clause-due
returns-in_default-clause-due c = λ g me known facts ordered said order matrix view opened leads is.
    unplanned-due g me known facts said c.args.at_tick c.args.leads c.args.is_open c.args.view view opened leads
    (c.in_default.ensures g facts ordered order)

pub returns-in_default-next_number-clause-due : goal.returns-in_default-next_number-clause-due
returns-in_default-next_number-clause-due c = λ g me known facts ordered said order matrix view opened leads is.
    let before = subst (λ (o : Offered). AreOffersOf g o facts said) (sym c.self.view_is) is in
    nothing-due g me known facts said c.args.at_tick c.args.leads c.args.is_open c.args.view c.in-Some.plan.now
    c.in_view-present.result c.stable.result view opened leads (c.in-Some.ensures g facts ordered order)
    c.in_view-present.ensures.view
    (c.in_view-present.ensures.kept g facts said before.progress) (c.stable.ensures g facts ordered order)
    (sym c.in_default-next_number.is ∙ c.next_number.ensures)

pub overflow_sub-number : goal.overflow_sub-number
overflow_sub-number c = number-some c.in_view-present.result.greatest c.in-Some.plan.now c.stable.result
    c.in-Some-next_number.number c.in-Some-next_number.ensures

pub overflow_sub-number-2 : goal.overflow_sub-number-2
overflow_sub-number-2 c = number-some c.in_view-present.result.greatest c.in-Some.plan.now c.stable.result
    c.in-Some-next_number.number c.in-Some-next_number.ensures

pub returns-in-None-clause-due : goal.returns-in-None-clause-due
returns-in-None-clause-due c = λ g me known facts ordered said order matrix view_is open_is leads_is is.
    answered (goal.at.returns-in-None-clause-due c).In_ok-proposal None (sym c.in-None.is) g me known facts ordered said
    order matrix view_is open_is leads_is
    (settled_at (goal.at.returns-in-None-clause-due c).After-settle-settled g facts ordered said order is)

pub returns-in-Some-2-clause-due : goal.returns-in-Some-2-clause-due
returns-in-Some-2-clause-due c = λ g me known facts ordered said order matrix view_is open_is leads_is is.
    answered (goal.at.returns-in-Some-2-clause-due c).In_ok-proposal (Some c.in-Some-2.frames) (sym c.in-Some-2.is)
    g me known facts ordered said order matrix view_is open_is leads_is
    (settled_at (goal.at.returns-in-Some-2-clause-due c).After-settle-settled g facts ordered said order is)

pub returns-in-None-clause-said : goal.returns-in-None-clause-said
returns-in-None-clause-said c = λ g facts ordered said order is.
    let at = settled_at (goal.at.returns-in-None-clause-said c).After-settle-settled g facts ordered said order is in
    subst (λ (words : List Body). AreOffersOf g record {
      masters = c.self.inside.sizes.n;
      quorum =
          c.self.inside.sizes.q;
      progress = c.settle-settled.result;
    } facts words) (sym (append-nil said)) (record {
      sizes = at.of_group;
      progress = kept_at (goal.at.returns-in-None-clause-said c).After-settle-settled g facts said at;
    })

pub returns-in-Some-2-clause-said : goal.returns-in-Some-2-clause-said
returns-in-Some-2-clause-said c = λ g facts ordered said order is.
    let at = settled_at (goal.at.returns-in-Some-2-clause-said c).After-settle-settled g facts ordered said order is in
    record {
      sizes = at.of_group;
      progress = kept-offered g c.settle-settled.result c.offer-self-inside.result facts said c.in-Some.plan.now
          c.stable.result c.args.view c.in-Some-next_number.number c.in_view-present.result.greatest c.in-Some-2.frames
          (c.settle-settled.ensures.view ∙ c.in_view-present.ensures.view) c.settle-settled.ensures.greatest
          c.in-Some-next_number.ensures c.offer-self-inside.ensures
          (kept_at (goal.at.returns-in-Some-2-clause-said c).After-settle-settled g facts said at);
    }
