-- As under the rules first specified: each part says its share, and the shares put together in the order of the kinds are
-- the answers. What goes by all that is known is asked before any part counts words as said.
use Rattle.std.proofs.Common.{◌≡◌, ℕ, ◌≤◌, ◌<◌, ◌^◌, true, ◌&&◌, List, ◌++◌, Option, Some, filter, sym, ◌∙◌, ap, subst}
use Rattle.std.proofs.Common.{append_assoc}
use Rattle.std.specs.Prelude.{slice_get}
use Rattle.message_types.specs.declared.signed.Signed.{Signed}
use Rattle.message_types.specs.declared.updates.Update.{Update}
use Rattle.message_types.specs.declared.vouchers.Order.{Order}
use Rattle.message_types.specs.declared.body.Body.{Body}
use Rattle.quorum_sets.specs.declared.limits.TheConstants.{MOST_CLIENTS}
use Rattle.protocol_rules.specs.Group.{Group, is_live}
use Rattle.protocol_rules.specs.Facts.{facts_of}
use Rattle.protocol_rules.specs.Matrix.{reach}
use Rattle.protocol_rules.specs.Order.{ordered_run, commits_due}
use Rattle.protocol_rules.specs.Measures.{ticks_of}
use Rattle.protocol_rules.specs.Patience.{votes_due}
use Rattle.protocol_rules.specs.Turns.{is_slow_beat}
use Rattle.protocol_rules.specs.Worth.{worthy_prepares_due}
use Rattle.protocol_rules.specs.Lacking.{update_asks_due, order_asks_due, gift_due}
use Rattle.protocol_rules.specs.Views.{view, is_open}
use Rattle.protocol_rules.specs.Master.{Heard, known_at, taken_at, said_before, answered_in, answers, executed}
use Rattle.protocol_rules.specs.Master.{certified_requests, is_give, is_order_given, summaries_due, summary_again_due}
use Rattle.protocol_rules.specs.Master.{whole_preprepares_due}
use Rattle.execution.specs.Ran.{Ran, IsRunOf}
use Rattle.preorder.specs.Counted.{AreCounts}
use Rattle.preorder.specs.PreorderState.{IsPreorderOf, bodies_due_in_turn}
use Rattle.global_order.specs.OrderState.{HasSizes, IsOrderOf}
use Rattle.summary_matrix.specs.Held.{TellsEach}
use Rattle.leader_proposals.specs.Worthy.{worthy_bodies_due}
use Rattle.reconcile.specs.AskState.{AreAsksOf}
use Rattle.reconcile.specs.Shares.{AreSharesOf}
use Rattle.words_by_part.specs.Laws.{told_at, moments_at, waiting_at, AreByLivePart}
use Rattle.words_by_part.proofs.Answering.{answers_by_live_part}
use Rattle.master_knowledge.specs.declared.knowledge.Knowledge.{Knowledge}
use Rattle.master_knowledge.specs.Knows.{Knows, IsCaughtUp}
use Rattle.leader_proposals.specs.Saying.{IsSummaryOf}
use Rattle.words_by_part.specs.Kinds.{is_of, giving}
use Rattle.master_answers.specs.Asked.{ask_of, answered_by}
use Rattle.master_answers.specs.Replica.{IsReplicaOf, HoldsOrders, clients_of, past_at}
use Rattle.master_answers.proofs.Answered.{answered_are}
use Rattle.master_answers.proofs.Asking.{updates_asked_for, orders_asked_for}
use Rattle.master_answers.proofs.Caught.{still_known, offered_by_then, few_rows, view_few}
use Rattle.master_answers.proofs.Counted.{counts_are}
use Rattle.master_answers.proofs.Reporting.{view_alike}
use Rattle.master_answers.proofs.Requests.{words_said as requests_count}
use Rattle.master_answers.proofs.Speaking.{Words, vouchers_are}
use Rattle.master_answers.proofs.SpeakingAlive.{AreDueAlive, answers_are_alive, speaks_alive_from}
use Rattle.master_answers.proofs.Waited.{waited_so}
use Rattle.master_answers.proofs.replica_state.ReplicaState.answer_alive.Goals as goal
use Rattle.master_answers.proofs.replica_state.ReplicaState.answer_alive.Goals.{then-at_tick, else-at_tick}

-- what each part said
abbrev words : (c : goal.After-drop-lacking-3) → Words
words c = record {
  requests = c.in_ok-requests.requests.items;
  at_a_tick = c.in_ok-at_a_tick.at_a_tick.items;
  ordered = c.in_ok-orders.orders.early.items;
  measures = c.in_ok-votes.votes.items;
  views = c.in_ok-views.views.items;
  updates_asked = c.in_ok-asks.asks.early.items;
  gives = c.in_ok-gifts.gifts.gives.items;
  orders_asked = c.in_ok-asks.asks.late.items;
  given = c.in_ok-gifts.gifts.orders.items;
  vouchers = c.in_ok-vouchers.vouchers.items;
  marks = c.in_ok-orders.orders.late.items;
}

module _ (c : goal.After-drop-lacking-3) (g : Group) (orders : List Update → ℕ → List Order) (me : ℕ) (before : List Heard)
    (took : Option (Signed Body)) (asked : c.args.asked ≡ ask_of took)
    (is_replica : IsReplicaOf g me c.args.self.now (taken_at before took) (known_at before took)
    (past_at g before took c.args.at_tick) (said_before before))
    (caught : IsCaughtUp g c.args.self.now.knowledge (known_at before took))
    (holds : HoldsOrders g orders (known_at before took) c.args.points.now) where
  live : is_live g ≡ true
  live = ap is_live (sym is_replica.knows.preorder.group) ∙ c.requires.alive

  by : AreByLivePart g orders me (known_at before took) (taken_at before took) took (said_before before)
      (answered_in before) (moments_at g before took c.args.at_tick) (ticks_of (told_at g before took c.args.at_tick))
      c.args.at_tick (answers g orders me before took c.args.at_tick)
  by = answers_by_live_part g orders me before took c.args.at_tick live

  -- what is known, once the wait was asked for
  knows : Knows g me c.waiting-waiting.new.self (taken_at before took) (known_at before took)
      (past_at g before took c.args.at_tick) (said_before before)
  knows = c.waiting-waiting.ensures.knows g me (taken_at before took) (known_at before took)
      (past_at g before took c.args.at_tick) (said_before before) is_replica.knows caught

  caught_now : IsCaughtUp g c.waiting-waiting.new.self (known_at before took)
  caught_now = subst (λ (r : Ran). IsRunOf g r (certified_requests g (known_at before took))
      (ordered_run g (facts_of g (known_at before took))))
      (sym (ap (λ (k : Knowledge). k.run) c.waiting-waiting.ensures.others)) caught

  now_is : c.ticks-now.result ≡ ticks_of (told_at g before took c.args.at_tick)
  now_is = c.ticks-now.ensures ∙ is_replica.knows.ticks_told

  waiting_is : c.waiting-waiting.result ≡ waiting_at g (known_at before took) (moments_at g before took c.args.at_tick)
  waiting_is = waited_so g c.args.self.now.knowledge.wait before took c.args.at_tick c.waiting-waiting.result
      (is_replica.knows.wait live)
      (c.waiting-waiting.ensures.waiting g me (taken_at before took) (known_at before took)
      (past_at g before took c.args.at_tick) (said_before before) is_replica.knows live caught)

  view_is : c.view-view.result ≡ view g (known_at before took)
  view_is = c.view-view.ensures g me (known_at before took) (said_before before) knows.views

  open_is : c.is_open-is_open.result ≡ is_open g (known_at before took)
  open_is = c.is_open-is_open.ensures g me (known_at before took) (said_before before) knows.views

  counts : AreCounts c.waiting-waiting.new.self.preorder.group.clients c.counts-done.result.now
      (executed g (known_at before took))
  counts = counts_are g (known_at before took) c.waiting-waiting.new.self.preorder.group.clients
      c.counts-done.result.now
      (subst (λ n. n ≤ MOST_CLIENTS) (holds.clients ∙ sym (ap (λ (h : Group). h.clients) knows.preorder.group))
      c.requires.few)
      (c.counts-done.ensures g (certified_requests g (known_at before took))
      (ordered_run g (facts_of g (known_at before took))) caught_now)

  is_beat_now : c.if-at_tick.is_beat ≡ (c.args.at_tick && is_slow_beat c.ticks-now.result)
  is_beat_now = elim c.if-at_tick.branch [
    | then-at_tick w ↦ w.is_beat-is ∙ w.is_slow_beat-is_beat.ensures
        ∙ sym (ap (λ b. b && is_slow_beat c.ticks-now.result) w.if-at_tick.true)
    | else-at_tick w ↦ w.is_beat-is ∙ w.if-at_tick.false
        ∙ sym (ap (λ b. b && is_slow_beat c.ticks-now.result) w.if-at_tick.false)
  ]

  requests_due_now : c.in_ok-requests.requests.items ≡ bodies_due_in_turn g me (taken_at before took)
      (executed g (known_at before took)) (known_at before took) (said_before before)
      (ticks_of (told_at g before took c.args.at_tick)) c.args.at_tick
  requests_due_now = c.in_ok-requests.ensures.due (executed g (known_at before took)) c.ticks-now.result
      c.args.at_tick counts is_beat_now g me (taken_at before took) (known_at before took) (said_before before)
      knows.preorder
      ∙ ap (λ n. bodies_due_in_turn g me (taken_at before took) (executed g (known_at before took))
      (known_at before took) (said_before before) n c.args.at_tick) now_is

  preordering : IsPreorderOf g me c.due_in_turn.new.self (taken_at before took) (known_at before took)
      (said_before before ++ answers g orders me before took c.args.at_tick)
  preordering = requests_count g me c.due_in_turn.new.self (taken_at before took) (known_at before took)
      (said_before before) (answers g orders me before took c.args.at_tick) c.in_ok-requests.requests.items
      (by.requests ∙ sym requests_due_now)
      (c.in_ok-requests.ensures.said (executed g (known_at before took)) counts g me (taken_at before took)
      (known_at before took) (said_before before) knows.preorder)

  sizes_are : HasSizes g c.waiting-waiting.new.self.sizes.n c.waiting-waiting.new.self.sizes.q
  sizes_are = record { masters = sym knows.masters; quorum = sym knows.quorum }

  reach_is : TellsEach c.reach-reach.result.numbers (reach g (ordered_run g (facts_of g (known_at before took))))
  reach_is = c.reach-reach.ensures g (certified_requests g (known_at before took))
      (ordered_run g (facts_of g (known_at before took))) caught_now

  ordering_now : IsOrderOf g c.say_orders_alive.new.order (facts_of g (known_at before took))
      (said_before before ++ answers g orders me before took c.args.at_tick)
  ordering_now = c.in_ok-orders.ensures.said g (facts_of g (known_at before took)) (said_before before) knows.order
      (answers g orders me before took c.args.at_tick) sizes_are reach_is
      (by.orders_said
      ∙ ap (λ v. worthy_bodies_due g (facts_of g (known_at before took)) (said_before before) v
      (is_open g (known_at before took))) (sym view_is)
      ∙ ap (worthy_bodies_due g (facts_of g (known_at before took)) (said_before before) c.view-view.result)
      (sym open_is))

  early_asks : c.in_ok-asks.asks.early.items ≡ update_asks_due g (known_at before took)
      (facts_of g (known_at before took)) (said_before before) (moments_at g before took c.args.at_tick)
      (ticks_of (told_at g before took c.args.at_tick)) c.args.at_tick
  early_asks =
      c.in_ok-asks.ensures.early g me (known_at before took) (said_before before) knows.asks
      ∙ updates_asked_for g (known_at before took) (facts_of g (known_at before took)) (said_before before)
      (moments_at g before took c.args.at_tick) c.ticks-now.result c.args.at_tick
      c.in_ok-lacking.lacking.requests.items
      (λ tick. c.in_ok-lacking.ensures.requests_lacking g me (taken_at before took) (known_at before took)
      (past_at g before took c.args.at_tick) (said_before before) knows tick caught_now
      (c.ticks-now.ensures ∙ is_replica.knows.ticks))
      ∙ ap (λ n. update_asks_due g (known_at before took) (facts_of g (known_at before took)) (said_before before)
      (moments_at g before took c.args.at_tick) n c.args.at_tick) now_is

  late_asks : c.in_ok-asks.asks.late.items ≡ order_asks_due g (facts_of g (known_at before took)) (said_before before)
      (view g (known_at before took)) (is_open g (known_at before took))
      (waiting_at g (known_at before took) (moments_at g before took c.args.at_tick))
      (ticks_of (told_at g before took c.args.at_tick)) c.args.at_tick
  late_asks =
      c.in_ok-asks.ensures.late g me (known_at before took) (said_before before) knows.asks
      ∙ orders_asked_for g (facts_of g (known_at before took)) (said_before before) (view g (known_at before took))
      (is_open g (known_at before took)) c.waiting-waiting.result c.ticks-now.result c.args.at_tick
      c.in_ok-lacking.lacking.numbers.items
      (λ tick. c.in_ok-lacking.ensures.numbers_lacking g me (taken_at before took) (known_at before took)
      (past_at g before took c.args.at_tick) (said_before before) knows tick)
      ∙ ap (λ n. order_asks_due g (facts_of g (known_at before took)) (said_before before)
      (view g (known_at before took)) (is_open g (known_at before took)) n c.ticks-now.result c.args.at_tick)
      waiting_is
      ∙ ap (λ n. order_asks_due g (facts_of g (known_at before took)) (said_before before)
      (view g (known_at before took)) (is_open g (known_at before took))
      (waiting_at g (known_at before took) (moments_at g before took c.args.at_tick)) n c.args.at_tick) now_is

  asks_now : AreAsksOf g me c.say_asks_alive.new.asks (known_at before took)
      (said_before before ++ (c.in_ok-asks.asks.early.items ++ c.in_ok-asks.asks.late.items))
  asks_now = c.in_ok-asks.ensures.said g me (known_at before took) (said_before before) knows.asks

  gives_are : c.in_ok-gifts.gifts.gives.items ≡ filter is_give (gift_due g me (known_at before took)
      (facts_of g (known_at before took)) (answered_in before) took (ticks_of (told_at g before took c.args.at_tick)))
  gives_are = c.in_ok-gifts.ensures.gives g me (taken_at before took) (known_at before took)
      (past_at g before took c.args.at_tick) (said_before before) knows took is_replica.own asked
      (is_replica.shares live)
      ∙ ap (λ n. filter is_give (gift_due g me (known_at before took) (facts_of g (known_at before took))
      (answered_in before) took n)) now_is

  orders_are : c.in_ok-gifts.gifts.orders.items ≡ filter is_order_given (gift_due g me (known_at before took)
      (facts_of g (known_at before took)) (answered_in before) took (ticks_of (told_at g before took c.args.at_tick)))
  orders_are = c.in_ok-gifts.ensures.orders g me (taken_at before took) (known_at before took)
      (past_at g before took c.args.at_tick) (said_before before) knows took is_replica.own asked
      (is_replica.shares live)
      ∙ ap (λ n. filter is_order_given (gift_due g me (known_at before took) (facts_of g (known_at before took))
      (answered_in before) took n)) now_is

  asks_then : AreAsksOf g me c.count_gifts.new.asks (known_at before took)
      (((said_before before ++ (c.in_ok-asks.asks.early.items ++ c.in_ok-asks.asks.late.items))
      ++ c.in_ok-gifts.gifts.gives.items) ++ c.in_ok-gifts.gifts.orders.items)
  asks_then = subst (λ (ws : List Body). AreAsksOf g me c.count_gifts.new.asks (known_at before took) ws)
      (sym (append_assoc
      (said_before before ++ (c.in_ok-asks.asks.early.items ++ c.in_ok-asks.asks.late.items))
      c.in_ok-gifts.gifts.gives.items c.in_ok-gifts.gifts.orders.items))
      (c.in_ok-count_gifts.ensures.given c.in_ok-gifts.ensures.gives_ask_nothing
      c.in_ok-gifts.ensures.orders_ask_nothing g me (known_at before took)
      (said_before before ++ (c.in_ok-asks.asks.early.items ++ c.in_ok-asks.asks.late.items)) asks_now)

  listed : (n : ℕ) → n < clients_of c.args.points.now →
      slice_get c.args.points.now.lists n ≡ Some (orders (executed g (known_at before took)) n)
  listed n less = holds.lists n (subst (λ m. n < m) holds.clients less)

  due : AreDueAlive g orders me (known_at before took) (taken_at before took) took (said_before before)
      (answered_in before) (moments_at g before took c.args.at_tick)
      (ticks_of (told_at g before took c.args.at_tick)) c.args.at_tick (words c)
  due = record {
    requests = requests_due_now;
    at_a_tick = c.in_ok-at_a_tick.ensures.words g me (taken_at before took) (known_at before took)
        (past_at g before took c.args.at_tick) (said_before before) knows is_replica.own caught_now
        is_replica.summary is_replica.proposer
        ∙ ap (λ n. (summary_again_due g (facts_of g (known_at before took)) (said_before before) n c.args.at_tick
        ++ summaries_due g (known_at before took) (said_before before) c.args.at_tick)
        ++ whole_preprepares_due g me (known_at before took) (facts_of g (known_at before took))
        (said_before before) c.args.at_tick) now_is;
    ordered = c.in_ok-orders.ensures.early g (facts_of g (known_at before took)) (said_before before) knows.order
        sizes_are reach_is
        ∙ ap (λ v. worthy_prepares_due g (facts_of g (known_at before took)) (said_before before) v
        c.is_open-is_open.result ++ commits_due g (facts_of g (known_at before took)) (said_before before) v) view_is
        ∙ ap (λ b. worthy_prepares_due g (facts_of g (known_at before took)) (said_before before)
        (view g (known_at before took)) b ++ commits_due g (facts_of g (known_at before took))
        (said_before before) (view g (known_at before took))) open_is;
    votes = c.in_ok-votes.ensures.bodies g (known_at before took) (said_before before) (knows.patience live)
        ∙ ap (λ v. votes_due g (known_at before took) (said_before before) v c.waiting-waiting.result
        c.ticks-now.result c.args.at_tick) view_is
        ∙ ap (λ n. votes_due g (known_at before took) (said_before before) (view g (known_at before took)) n
        c.ticks-now.result c.args.at_tick) waiting_is
        ∙ ap (λ n. votes_due g (known_at before took) (said_before before) (view g (known_at before took))
        (waiting_at g (known_at before took) (moments_at g before took c.args.at_tick)) n c.args.at_tick) now_is;
    views = c.in_ok-views.ensures.words g me (known_at before took) (facts_of g (known_at before took))
        (said_before before ++ answers g orders me before took c.args.at_tick) (said_before before)
        ordering_now knows.views
        ∙ view_alike g me (known_at before took) (said_before before) (facts_of g (known_at before took))
        c.view-view.result (view g (known_at before took)) view_is;
    updates_asked = early_asks;
    gives = gives_are;
    orders_asked = late_asks;
    given = orders_are;
    vouchers = c.in_ok-vouchers.ensures.due (said_before before) (orders (executed g (known_at before took)))
        listed is_replica.vouchers
        ∙ vouchers_are g orders (known_at before took) c.args.points.now (said_before before) holds;
    marks = c.in_ok-orders.ensures.late g (facts_of g (known_at before took)) (said_before before) knows.order
        sizes_are reach_is;
  }

  bodies_are : c.in_ok-bodies.bodies.items ≡ answers g orders me before took c.args.at_tick
  bodies_are = c.in_ok-bodies.ensures
      ∙ ap (λ (first : List Body). first ++ c.in_ok-asks.asks.early.items ++ c.in_ok-gifts.gifts.gives.items
      ++ c.in_ok-asks.asks.late.items ++ c.in_ok-gifts.gifts.orders.items ++ c.in_ok-vouchers.vouchers.items
      ++ c.in_ok-orders.orders.late.items) c.in_ok-first.ensures
      ∙ answers_are_alive g orders me before took c.args.at_tick (words c) due live

  shares_are : AreSharesOf c.count_gifts.new.shares (answered_in before ++ answered_by took c.in_ok-bodies.bodies.items)
  shares_are = subst (λ (xs : List ℕ). AreSharesOf c.count_gifts.new.shares (answered_in before ++ xs))
      (answered_are g me (known_at before took) (facts_of g (known_at before took)) (answered_in before) took
      (ticks_of (told_at g before took c.args.at_tick)) c.args.asked c.in_ok-bodies.bodies.items
      c.in_ok-gifts.gifts.gives.items c.in_ok-gifts.gifts.orders.items asked
      (ap (filter (is_of giving)) bodies_are ∙ by.gifts) gives_are orders_are)
      (c.in_ok-count_gifts.ensures.answered (answered_in before) (is_replica.shares live))

pub returns-clause-answers : goal.returns-clause-answers
returns-clause-answers c g orders me before took asked is_replica caught holds =
    bodies_are c g orders me before took asked is_replica caught holds

pub returns-clause-is_replica : goal.returns-clause-is_replica
returns-clause-is_replica c g orders me before took asked is_replica caught holds =
    let known = known_at before took in
    let taken = taken_at before took in
    let said = said_before before in
    let past = past_at g before took c.args.at_tick in
    let now = ticks_of (told_at g before took c.args.at_tick) in
    let live_is = live c g orders me before took asked is_replica caught holds in
    let knows_is = knows c g orders me before took asked is_replica caught holds in
    let caught_is = caught_now c g orders me before took asked is_replica caught holds in
    speaks_alive_from g orders me known taken took said past now
    (answered_in before ++ answered_by took c.in_ok-bodies.bodies.items) c.args.at_tick
    (answers g orders me before took c.args.at_tick)
    c.in_ok-bodies.bodies.items (words c) c.args.self.now c.waiting-waiting.new.self
    c.due_in_turn.new.self c.say_orders_alive.new.order c.due.new.self c.say_views.new.views c.count_gifts.new.asks
    c.say_at_a_tick_alive.new.summary c.say_at_a_tick_alive.new.proposer c.say_vouchers.new.vouchers
    c.count_gifts.new.shares
    live_is (bodies_are c g orders me before took asked is_replica caught holds)
    (by c g orders me before took asked is_replica caught holds)
    (due c g orders me before took asked is_replica caught holds) is_replica.own knows_is
    (preordering c g orders me before took asked is_replica caught holds)
    (ordering_now c g orders me before took asked is_replica caught holds)
    (c.in_ok-votes.ensures.counted g known said (knows_is.patience live_is))
    (c.in_ok-views.ensures.said g me known said knows_is.views)
    (asks_then c g orders me before took asked is_replica caught holds)
    (subst (λ n. IsSummaryOf g c.say_at_a_tick_alive.new.summary
    (said ++ (summary_again_due g (facts_of g known) said n c.args.at_tick ++ summaries_due g known said c.args.at_tick)))
    (now_is c g orders me before took asked is_replica caught holds)
    (c.in_ok-at_a_tick.ensures.summary g me taken known past said knows_is is_replica.own caught_is
    is_replica.summary))
    (c.in_ok-at_a_tick.ensures.proposer g me taken known past said knows_is is_replica.own is_replica.proposer)
    (subst (λ v. c.say_at_a_tick_alive.new.proposer.progress.view ≤ v) knows_is.views.view
    c.in_ok-at_a_tick.ensures.view)
    (c.in_ok-vouchers.ensures.said (orders (executed g known))
    (listed c g orders me before took asked is_replica caught holds) said is_replica.vouchers)
    (shares_are c g orders me before took asked is_replica caught holds)

pub returns-clause-run : goal.returns-clause-run
returns-clause-run c = ap (λ (k : Knowledge). k.run) c.waiting-waiting.ensures.others

pub gifts_for-requires-clause-known : goal.gifts_for-requires-clause-known
gifts_for-requires-clause-known c = still_known c.args.self.now c.waiting-waiting.new.self c.requires.replica
    c.waiting-waiting.ensures.knows

pub gifts_for-requires-clause-ticks : goal.gifts_for-requires-clause-ticks
gifts_for-requires-clause-ticks c = subst (λ n. n ≤ 2 ^ 32) (sym c.ticks-now.ensures) c.requires.ticks

pub lacking_at-requires : goal.lacking_at-requires
lacking_at-requires c = still_known c.args.self.now c.waiting-waiting.new.self c.requires.replica
    c.waiting-waiting.ensures.knows

pub say_at_a_tick_alive-requires-clause-known : goal.say_at_a_tick_alive-requires-clause-known
say_at_a_tick_alive-requires-clause-known c = still_known c.args.self.now c.waiting-waiting.new.self
    c.requires.replica c.waiting-waiting.ensures.knows

pub say_at_a_tick_alive-requires-clause-view : goal.say_at_a_tick_alive-requires-clause-view
say_at_a_tick_alive-requires-clause-view c = offered_by_then c.args.self.now c.waiting-waiting.new.self
    c.requires.replica c.waiting-waiting.ensures.knows

pub due_in_turn-requires : goal.due_in_turn-requires
due_in_turn-requires c = ap (λ (k : Knowledge). is_live k.preorder.group) c.waiting-waiting.ensures.others
    ∙ c.requires.alive

pub say_orders_alive-requires : goal.say_orders_alive-requires
say_orders_alive-requires c = record {
  rows = few_rows c.waiting-waiting.new.self (still_known c.args.self.now c.waiting-waiting.new.self
      c.requires.replica c.waiting-waiting.ensures.knows);
}

pub due-requires : goal.due-requires
due-requires c = view_few c.waiting-waiting.new.self c.view-view.result
    (still_known c.args.self.now c.waiting-waiting.new.self c.requires.replica c.waiting-waiting.ensures.knows)
    c.view-view.ensures
