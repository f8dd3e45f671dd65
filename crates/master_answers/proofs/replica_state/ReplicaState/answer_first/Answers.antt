-- What the rules make due is split into what each part of the master owes of its own kinds. Each part says its
-- share, and the shares put together in the order of the kinds are the answers.
use Rattle.std.proofs.Common.{◌≡◌, ℕ, ◌≤◌, ◌<◌, false, List, ◌++◌, Option, Some, filter, sym, ◌∙◌, ap, subst}
use Rattle.std.specs.Prelude.{slice_get}
use Rattle.message_types.specs.declared.signed.Signed.{Signed}
use Rattle.message_types.specs.declared.updates.Update.{Update}
use Rattle.message_types.specs.declared.vouchers.Order.{Order}
use Rattle.message_types.specs.declared.body.Body.{Body}
use Rattle.quorum_sets.specs.Masters.{numbers_below}
use Rattle.protocol_rules.specs.Group.{Group, is_live}
use Rattle.protocol_rules.specs.Facts.{facts_of}
use Rattle.protocol_rules.specs.Preorder.{requests_due, acks_due}
use Rattle.protocol_rules.specs.Order.{prepares_due, commits_due, marks_due}
use Rattle.protocol_rules.specs.Views.{view, is_open}
use Rattle.protocol_rules.specs.Reconcile.{ask_update_due, ask_order_due}
use Rattle.protocol_rules.specs.Master.{Heard, known_at, taken_at, said_before, answered_in, waiting_for, gap_of, executed}
use Rattle.protocol_rules.specs.Master.{answers}
use Rattle.preorder.specs.Index.{HasCertified}
use Rattle.preorder.specs.PreorderState.{IsPreorderOf}
use Rattle.global_order.specs.OrderState.{IsOrderOf}
use Rattle.reconcile.specs.AskState.{AreAsksOf}
use Rattle.suspect_leader.specs.MeasureState.{measures_due}
use Rattle.words_by_part.specs.Kinds.{is_of, asking}
use Rattle.words_by_part.specs.Laws.{told_at, AreByPart}
use Rattle.words_by_part.proofs.Answering.{answers_by_part}
use Rattle.master_knowledge.specs.Knows.{IsCaughtUp}
use Rattle.master_answers.specs.Asked.{answered_by}
use Rattle.master_answers.specs.Replica.{IsReplicaOf, HoldsOrders, clients_of, past_at}
use Rattle.master_answers.proofs.Requests.{words_said as requests_count}
use Rattle.master_answers.proofs.Reporting.{view_alike}
use Rattle.master_answers.proofs.Counting.{gives_after, orders_after}
use Rattle.master_answers.proofs.Joining.{pair}
use Rattle.master_answers.proofs.Speaking.{Words, AreDue, answers_are, speaks_from, vouchers_are}
use Rattle.master_answers.proofs.replica_state.ReplicaState.answer_first.Goals as goal

-- what each part said
abbrev words : (c : goal.In_ok-bodies) → Words
words c = record {
  requests = c.in_ok-requests.requests.items;
  at_a_tick = c.in_ok-at_a_tick.at_a_tick.items;
  ordered = c.in_ok-orders.orders.early.items;
  measures = c.in_ok-measures.measures.items;
  views = c.in_ok-views.views.items;
  updates_asked = c.in_ok-asks.asks.early.items;
  gives = c.in_ok-gifts.gifts.gives.items;
  orders_asked = c.in_ok-asks.asks.late.items;
  given = c.in_ok-gifts.gifts.orders.items;
  vouchers = c.in_ok-vouchers.vouchers.items;
  marks = c.in_ok-orders.orders.late.items;
}

module _ (c : goal.In_ok-bodies) (g : Group) (orders : List Update → ℕ → List Order) (me : ℕ) (before : List Heard)
    (took : Option (Signed Body))
    (is_replica : IsReplicaOf g me c.args.self.now (taken_at before took) (known_at before took)
    (past_at g before took c.args.at_tick) (said_before before))
    (caught : IsCaughtUp g c.args.self.now.knowledge (known_at before took))
    (holds : HoldsOrders g orders (known_at before took) c.args.points.now) where
  first : is_live g ≡ false
  first = ap is_live (sym is_replica.knows.preorder.group) ∙ c.requires.first

  by : AreByPart g orders me (known_at before took) (taken_at before took) (said_before before)
      (told_at g before took c.args.at_tick) c.args.at_tick (answers g orders me before took c.args.at_tick)
  by = answers_by_part g orders me before took c.args.at_tick first

  view_is : c.view-view.result ≡ view g (known_at before took)
  view_is = c.view-view.ensures g me (known_at before took) (said_before before) is_replica.knows.views

  open_is : c.is_open-is_open.result ≡ is_open g (known_at before took)
  open_is = c.is_open-is_open.ensures g me (known_at before took) (said_before before) is_replica.knows.views

  requests_due_now : c.in_ok-requests.requests.items ≡ requests_due g me (taken_at before took) (said_before before)
      (numbers_below g.clients)
      ++ acks_due g (known_at before took) (said_before before)
  requests_due_now = c.in_ok-requests.ensures.due g me (taken_at before took) (known_at before took)
      (said_before before) is_replica.knows.preorder

  preordering : IsPreorderOf g me c.due.new.self (taken_at before took) (known_at before took)
      (said_before before ++ answers g orders me before took c.args.at_tick)
  preordering = requests_count g me c.due.new.self (taken_at before took) (known_at before took) (said_before before)
      (answers g orders me before took c.args.at_tick) c.in_ok-requests.requests.items
      (by.requests ∙ sym requests_due_now)
      (c.in_ok-requests.ensures.said g me (taken_at before took) (known_at before took) (said_before before)
      is_replica.knows.preorder)

  ordering_now : IsOrderOf g c.say_orders.new.order (facts_of g (known_at before took))
      (said_before before ++ answers g orders me before took c.args.at_tick)
  ordering_now = c.in_ok-orders.ensures.said g (facts_of g (known_at before took)) (said_before before)
      is_replica.knows.order (answers g orders me before took c.args.at_tick)
      (by.orders_said
      ∙ ap (λ v. prepares_due g (facts_of g (known_at before took)) (said_before before) v
      (is_open g (known_at before took)) ++ commits_due g (facts_of g (known_at before took)) (said_before before)
      v ++ marks_due g (facts_of g (known_at before took)) (said_before before)) (sym view_is)
      ∙ ap (λ b. prepares_due g (facts_of g (known_at before took)) (said_before before) c.view-view.result b
      ++ commits_due g (facts_of g (known_at before took)) (said_before before) c.view-view.result
      ++ marks_due g (facts_of g (known_at before took)) (said_before before)) (sym open_is))

  early_asks : c.in_ok-asks.asks.early.items ≡ ask_update_due (said_before before) c.args.at_tick
      (waiting_for g (known_at before took))
  early_asks = c.in_ok-asks.ensures.early g me (known_at before took) (facts_of g (known_at before took))
      (said_before before ++ answers g orders me before took c.args.at_tick) (said_before before)
      caught ordering_now is_replica.knows.asks

  late_asks : c.in_ok-asks.asks.late.items ≡ ask_order_due (said_before before) c.args.at_tick
      (gap_of g (facts_of g (known_at before took)))
  late_asks = c.in_ok-asks.ensures.late g me (known_at before took) (facts_of g (known_at before took))
      (said_before before ++ answers g orders me before took c.args.at_tick) (said_before before)
      caught ordering_now is_replica.knows.asks

  asked : c.in_ok-asks.asks.early.items ++ c.in_ok-asks.asks.late.items ≡ filter (is_of asking)
      (answers g orders me before took c.args.at_tick)
  asked = pair c.in_ok-asks.asks.early.items c.in_ok-asks.asks.late.items _ _ early_asks late_asks ∙ sym by.asks

  asks_now : AreAsksOf g me c.say_asks.new.asks (known_at before took)
      (said_before before ++ (c.in_ok-asks.asks.early.items ++ c.in_ok-asks.asks.late.items))
  asks_now = c.in_ok-asks.ensures.said g me (known_at before took) (facts_of g (known_at before took))
      (said_before before ++ answers g orders me before took c.args.at_tick) (said_before before)
      caught ordering_now is_replica.knows.asks

  certified_so : HasCertified g (known_at before took) c.due.new.self.certificates
  certified_so = preordering.certified

  listed : (n : ℕ) → n < clients_of c.args.points.now →
      slice_get c.args.points.now.lists n ≡ Some (orders (executed g (known_at before took)) n)
  listed n less = holds.lists n (subst (λ m. n < m) holds.clients less)

  due : AreDue g orders me (known_at before took) (taken_at before took) (said_before before)
      (told_at g before took c.args.at_tick) c.args.at_tick (words c)
  due = record {
    requests = requests_due_now;
    at_a_tick = c.in_ok-at_a_tick.ensures.words g me (taken_at before took) (known_at before took)
        (past_at g before took c.args.at_tick) (said_before before) is_replica.knows is_replica.own
        is_replica.summary is_replica.proposer;
    ordered = c.in_ok-orders.ensures.early g (facts_of g (known_at before took)) (said_before before)
        is_replica.knows.order
        ∙ ap (λ v. prepares_due g (facts_of g (known_at before took)) (said_before before) v c.is_open-is_open.result
        ++ commits_due g (facts_of g (known_at before took)) (said_before before) v) view_is
        ∙ ap (λ b. prepares_due g (facts_of g (known_at before took)) (said_before before)
        (view g (known_at before took)) b ++ commits_due g (facts_of g (known_at before took))
        (said_before before) (view g (known_at before took))) open_is;
    measures = c.in_ok-measures.ensures.bodies g me (told_at g before took c.args.at_tick) (known_at before took)
        (said_before before) (is_replica.knows.measure first)
        ∙ ap (λ v. measures_due g me (told_at g before took c.args.at_tick) (known_at before took)
        (said_before before) v c.args.at_tick) view_is;
    views = c.in_ok-views.ensures.words g me (known_at before took) (facts_of g (known_at before took))
        (said_before before ++ answers g orders me before took c.args.at_tick) (said_before before)
        ordering_now is_replica.knows.views
        ∙ view_alike g me (known_at before took) (said_before before) (facts_of g (known_at before took))
        c.view-view.result (view g (known_at before took)) view_is;
    updates_asked = early_asks;
    gives = c.in_ok-gifts.ensures.gives g me (known_at before took)
        (said_before before ++ (c.in_ok-asks.asks.early.items ++ c.in_ok-asks.asks.late.items))
        is_replica.knows.gifts certified_so asks_now
        ∙ gives_after g me (known_at before took) (said_before before)
        (answers g orders me before took c.args.at_tick)
        (c.in_ok-asks.asks.early.items ++ c.in_ok-asks.asks.late.items) asked;
    orders_asked = late_asks;
    given = c.in_ok-gifts.ensures.orders g me (known_at before took) (facts_of g (known_at before took))
        (said_before before ++ answers g orders me before took c.args.at_tick)
        (said_before before ++ (c.in_ok-asks.asks.early.items ++ c.in_ok-asks.asks.late.items)) is_replica.knows.gifts
        certified_so ordering_now asks_now
        ∙ orders_after g me (known_at before took) (facts_of g (known_at before took)) (said_before before)
        (answers g orders me before took c.args.at_tick)
        (c.in_ok-asks.asks.early.items ++ c.in_ok-asks.asks.late.items) asked;
    vouchers = c.in_ok-vouchers.ensures.due (said_before before) (orders (executed g (known_at before took)))
        listed is_replica.vouchers
        ∙ vouchers_are g orders (known_at before took) c.args.points.now (said_before before) holds;
    marks = c.in_ok-orders.ensures.late g (facts_of g (known_at before took)) (said_before before)
        is_replica.knows.order;
  }

  bodies_are : c.in_ok-bodies.bodies.items ≡ answers g orders me before took c.args.at_tick
  bodies_are = c.in_ok-bodies.ensures
      ∙ ap (λ (first : List Body). first ++ c.in_ok-asks.asks.early.items ++ c.in_ok-gifts.gifts.gives.items
      ++ c.in_ok-asks.asks.late.items ++ c.in_ok-gifts.gifts.orders.items ++ c.in_ok-vouchers.vouchers.items
      ++ c.in_ok-orders.orders.late.items) c.in_ok-first.ensures
      ∙ answers_are g orders me before took c.args.at_tick (words c) due first

pub returns-clause-answers : goal.returns-clause-answers
returns-clause-answers c g orders me before took is_replica caught holds =
    bodies_are c g orders me before took is_replica caught holds

pub returns-clause-is_replica : goal.returns-clause-is_replica
returns-clause-is_replica c g orders me before took is_replica caught holds =
    let known = known_at before took in
    let taken = taken_at before took in
    let said = said_before before in
    let past = past_at g before took c.args.at_tick in
    let first_is = first c g orders me before took is_replica caught holds in
    let due_now = due c g orders me before took is_replica caught holds in
    speaks_from g orders me known taken said past
    (answered_in before ++ answered_by took c.in_ok-bodies.bodies.items) c.args.at_tick (answers g orders me before took c.args.at_tick)
    c.in_ok-bodies.bodies.items (words c) c.args.self.now c.args.self.now.knowledge
    c.due.new.self c.say_orders.new.order c.due-2.new.self c.say_views.new.views c.say_gifts.new.asks
    c.say_at_a_tick.new.summary c.say_at_a_tick.new.proposer c.say_vouchers.new.vouchers
    first_is (bodies_are c g orders me before took is_replica caught holds)
    (by c g orders me before took is_replica caught holds) due_now is_replica.own is_replica.knows
    (preordering c g orders me before took is_replica caught holds)
    (ordering_now c g orders me before took is_replica caught holds)
    c.due-2.ensures.ticks
    (c.in_ok-measures.ensures.counted g me past.told known said (is_replica.knows.measure first_is))
    (c.in_ok-views.ensures.said g me known said is_replica.knows.views)
    (c.in_ok-gifts.ensures.given g me known (said ++ (c.in_ok-asks.asks.early.items ++ c.in_ok-asks.asks.late.items))
    (asks_now c g orders me before took is_replica caught holds))
    (c.in_ok-at_a_tick.ensures.summary g me taken known past said is_replica.knows is_replica.own is_replica.summary)
    (c.in_ok-at_a_tick.ensures.proposer g me taken known past said is_replica.knows is_replica.own is_replica.proposer)
    (subst (λ v. c.say_at_a_tick.new.proposer.progress.view ≤ v) is_replica.knows.views.view
    c.in_ok-at_a_tick.ensures.view)
    (c.in_ok-vouchers.ensures.said (orders (executed g known))
    (listed c g orders me before took is_replica caught holds) said is_replica.vouchers)
