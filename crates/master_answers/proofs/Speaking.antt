-- All that a master says at an event, and what it keeps then.
use Rattle.std.proofs.Common.{◌≡◌, ℕ, ◌≤◌, Bool, false, true≢false, List, ◌++◌, Option, sym, ◌∙◌, ap, subst}
use Rattle.std.specs.List.{flat_map}
use Rattle.message_types.specs.declared.signed.Signed.{Signed}
use Rattle.message_types.specs.declared.updates.Update.{Update}
use Rattle.message_types.specs.declared.vouchers.Order.{Order}
use Rattle.message_types.specs.declared.body.Body.{Body}
use Rattle.quorum_sets.specs.Masters.{numbers_below}
use Rattle.protocol_rules.specs.declared.facts.OrderFact.{OrderFact}
use Rattle.protocol_rules.specs.Group.{Group, is_live}
use Rattle.protocol_rules.specs.Facts.{facts_of}
use Rattle.protocol_rules.specs.Preorder.{requests_due, acks_due}
use Rattle.protocol_rules.specs.Order.{stable, marks_for, certificates_below, prepares_due, commits_due, marks_due}
use Rattle.protocol_rules.specs.Views.{view, is_open, report_due, new_view_due}
use Rattle.protocol_rules.specs.Measures.{Told, ticks_of, waited, pings_due, pongs_due, round_trips_due}
use Rattle.protocol_rules.specs.Measures.{tat_reports_due, tat_bounds_due, suspects_due}
use Rattle.protocol_rules.specs.Reconcile.{ask_update_due, ask_order_due, gives_due, gives_ordered_due}
use Rattle.protocol_rules.specs.Master.{Heard, known_at, taken_at, said_before, waiting_for, gap_of, executed}
use Rattle.protocol_rules.specs.Master.{summaries_due, preprepares_due, vouchers_from, vouchers_due, answers, answers_by}
use Rattle.preorder.specs.PreorderState.{PreorderState, IsPreorderOf}
use Rattle.global_order.specs.OrderState.{OrderState, IsOrderOf}
use Rattle.suspect_leader.specs.MeasureState.{MeasureState, IsMeasureOf, measures_due}
use Rattle.view_change.specs.ViewState.{ViewState, AreViewsOf}
use Rattle.reconcile.specs.AskState.{AskState, AreAsksOf}
use Rattle.leader_proposals.specs.declared.vouchers.Vouchers.{Vouchers}
use Rattle.leader_proposals.specs.Offering.{Offered, AreOffersOf}
use Rattle.leader_proposals.specs.Saying.{SummedUp, IsSummaryOf, AreVouchersOf}
use Rattle.master_points.specs.Orders.{Held}
use Rattle.words_by_part.specs.Laws.{told_at, AreByPart}
use Rattle.master_knowledge.specs.declared.knowledge.Knowledge.{Knowledge}
use Rattle.master_knowledge.specs.Past.{Past}
use Rattle.master_knowledge.specs.Knows.{Knows}
use Rattle.master_answers.specs.declared.replica_state.ReplicaState.{ReplicaState}
use Rattle.master_answers.specs.Replica.{IsReplicaOf, HoldsOrders, clients_of}
use Rattle.master_answers.proofs.Counting.{summary_counted, offers_counted, vouchers_counted, views_counted}
use Rattle.master_answers.proofs.Counting.{measures_counted, asks_counted}
use Rattle.master_answers.proofs.Joining.{pair, all_joined}

-- the parts after an event, each of which counts all that was said at it, are those of the master
pub speaks_with : (g : Group) (me : ℕ) (kept : ReplicaState) (k : Knowledge) (p : PreorderState) (o : OrderState)
    (m : MeasureState) (v : ViewState) (a : AskState) (su : SummedUp) (proposer : Offered) (vo : Vouchers)
    (taken known : List (Signed Body)) (past : Past) (answered : List ℕ) (said all : List Body)
    → is_live g ≡ false → kept.me ≡ me → Knows g me k taken known past said
    → IsPreorderOf g me p taken known (said ++ all)
    → IsOrderOf g o (facts_of g known) (said ++ all)
    → m.ticks ≡ k.measure.ticks → IsMeasureOf g me m past.told known (said ++ all)
    → AreViewsOf g me v known (said ++ all)
    → AreAsksOf g me a known (said ++ all)
    → IsSummaryOf g su (said ++ all)
    → AreOffersOf g proposer (facts_of g known) (said ++ all)
    → proposer.progress.view ≤ view g known
    → AreVouchersOf vo.counts (said ++ all)
    → IsReplicaOf g me (record kept {
      knowledge = record k {
        preorder = p;
        order = o;
        measure = m;
        views = v;
        asks =
            a;
      };
      summary = su;
      proposer = proposer;
      vouchers = vo;
    }) taken known (record past { answered = answered }) (said ++ all)
speaks_with g me kept k p o m v a su proposer vo taken known past answered said all first own knows preorder order ticks measure views asks
    summary offers_are offers_view vouchers = record {
      own = own;
      knows = record {
        masters = knows.masters;
        quorum = knows.quorum;
        rules = knows.rules;
        whole = knows.whole;
        preorder = preorder;
        matrix = knows.matrix;
        order = order;
        run = knows.run;
        views = views;
        ticks_told = ticks ∙ knows.ticks_told;
        ticks = ticks ∙ knows.ticks;
        measure = λ is. measure;
        patience = λ live. absurd (true≢false (sym live ∙ first));
        wait = knows.wait;
        furthest = knows.furthest;
        earlier = knows.earlier;
        asks = asks;
        gifts = knows.gifts;
      };
      summary = summary;
      proposer = offers_are;
      view = offers_view;
      vouchers = vouchers;
      shares = λ live. absurd (true≢false (sym live ∙ first));
    }

-- what each part says at an event
pub record Words : Type 0 where
  pub requests : List Body
  pub at_a_tick : List Body
  pub ordered : List Body
  pub measures : List Body
  pub views : List Body
  pub updates_asked : List Body
  pub gives : List Body
  pub orders_asked : List Body
  pub given : List Body
  pub vouchers : List Body
  pub marks : List Body

-- in one list, in the order of the kinds
abbrev pub joined : Words → List Body
joined w = w.requests ++ w.at_a_tick ++ w.ordered ++ w.measures ++ w.views ++ w.updates_asked ++ w.gives
    ++ w.orders_asked ++ w.given ++ w.vouchers ++ w.marks

-- what each part says is what is due by its rules
pub record AreDue (g : Group) (orders : List Update → ℕ → List Order) (me : ℕ) (known taken : List (Signed Body))
    (said : List Body) (told : List Told) (at_tick : Bool) (w : Words) : Type 0 where
  pub requests : w.requests ≡ requests_due g me taken said (numbers_below g.clients) ++ acks_due g known said
  pub at_a_tick : w.at_a_tick ≡ summaries_due g known said at_tick ++ preprepares_due g me known
      (facts_of g known) said at_tick
  pub ordered : w.ordered ≡ prepares_due g (facts_of g known) said (view g known) (is_open g known)
      ++ commits_due g (facts_of g known) said (view g known)
  pub measures : w.measures ≡ measures_due g me told known said (view g known) at_tick
  pub views : w.views ≡ report_due g known said (stable g (facts_of g known))
      (marks_for g (facts_of g known) (stable g (facts_of g known)))
      (certificates_below g (facts_of g known) (view g known)) ++ new_view_due g me known said
  pub updates_asked : w.updates_asked ≡ ask_update_due said at_tick (waiting_for g known)
  pub gives : w.gives ≡ gives_due g me known said
  pub orders_asked : w.orders_asked ≡ ask_order_due said at_tick (gap_of g (facts_of g known))
  pub given : w.given ≡ gives_ordered_due g me known (facts_of g known) said
  pub vouchers : w.vouchers ≡ vouchers_due g orders known said
  pub marks : w.marks ≡ marks_due g (facts_of g known) said

pub answers_are : (g : Group) (orders : List Update → ℕ → List Order) (me : ℕ) (before : List Heard)
    (took : Option (Signed Body)) (at_tick : Bool) (w : Words)
    → AreDue g orders me (known_at before took) (taken_at before took) (said_before before)
    (told_at g before took at_tick) at_tick w → is_live g ≡ false → joined w ≡ answers g orders me before took at_tick
unfolding answers
answers_are g orders me before took at_tick w due first =
    let known : List (Signed Body) = known_at before took in
    let said : List Body = said_before before in
    let facts : List OrderFact = facts_of g known in
    let told : List Told = told_at g before took at_tick in
    let v : ℕ = view g known in
    all_joined (requests_due g me (taken_at before took) said (numbers_below g.clients)) (acks_due g known said)
    (summaries_due g known said at_tick) (preprepares_due g me known facts said at_tick)
    (prepares_due g facts said v (is_open g known)) (commits_due g facts said v)
    (pings_due (ticks_of told) at_tick) (pongs_due g me known said) (round_trips_due g me known said (ticks_of told))
    (tat_reports_due said v (waited v told) at_tick) (tat_bounds_due g me known said v at_tick)
    (suspects_due g known said v at_tick)
    (report_due g known said (stable g facts) (marks_for g facts (stable g facts)) (certificates_below g facts v))
    (new_view_due g me known said) (ask_update_due said at_tick (waiting_for g known)) (gives_due g me known said)
    (ask_order_due said at_tick (gap_of g facts)) (gives_ordered_due g me known facts said)
    (vouchers_due g orders known said) (marks_due g facts said)
    w.requests w.at_a_tick w.ordered w.measures w.views w.updates_asked w.gives w.orders_asked
    w.given w.vouchers w.marks
    due.requests due.at_a_tick due.ordered due.measures due.views due.updates_asked due.gives due.orders_asked
    due.given due.vouchers due.marks
    ∙ ap (λ b. answers_by b g orders me before took at_tick) (sym first)

-- each part counts its own words as said, and so all
pub speaks_from : (g : Group) (orders : List Update → ℕ → List Order) (me : ℕ) (known taken : List (Signed Body))
    (said : List Body) (past : Past) (answered : List ℕ) (at_tick : Bool) (all bodies : List Body) (w : Words)
    (kept : ReplicaState) (k : Knowledge) (p : PreorderState) (o : OrderState) (m : MeasureState) (v : ViewState)
    (a : AskState) (su : SummedUp) (proposer : Offered) (vo : Vouchers)
    → is_live g ≡ false → bodies ≡ all
    → AreByPart g orders me known taken said past.told at_tick all
    → AreDue g orders me known taken said past.told at_tick w
    → kept.me ≡ me → Knows g me k taken known past said
    → IsPreorderOf g me p taken known (said ++ all)
    → IsOrderOf g o (facts_of g known) (said ++ all)
    → m.ticks ≡ k.measure.ticks → IsMeasureOf g me m past.told known (said ++ w.measures)
    → AreViewsOf g me v known (said ++ w.views)
    → AreAsksOf g me a known (((said ++ (w.updates_asked ++ w.orders_asked)) ++ w.gives) ++ w.given)
    → IsSummaryOf g su (said ++ summaries_due g known said at_tick)
    → AreOffersOf g proposer (facts_of g known) (said ++ preprepares_due g me known (facts_of g known) said at_tick)
    → proposer.progress.view ≤ view g known
    → AreVouchersOf vo.counts (said ++ w.vouchers)
    → IsReplicaOf g me (record kept {
      knowledge = record k {
        preorder = p;
        order = o;
        measure = m;
        views = v;
        asks =
            a;
      };
      summary = su;
      proposer = proposer;
      vouchers = vo;
    }) taken known (record past { answered = answered }) (said ++ bodies)
speaks_from g orders me known taken said past answered at_tick all bodies w kept k p o m v a su proposer vo first same by due own
    knows preorder order ticks measure views asks summary offers_are offers_view vouchers =
    subst (λ (ws : List Body). IsReplicaOf g me
    (record kept {
      knowledge = record k { preorder = p; order = o; measure = m; views = v; asks = a };
      summary =
          su;
      proposer = proposer;
      vouchers = vo;
    }) taken known (record past { answered = answered }) (said ++ ws)) (sym same)
    (speaks_with g me kept k p o m v a su proposer vo taken known past answered said all first own knows preorder order ticks
    (measures_counted g me m past.told known said all
    (subst (λ (ws : List Body). IsMeasureOf g me m past.told known (said ++ ws))
    (due.measures ∙ sym by.measures) measure))
    (views_counted g me v known said all (subst (λ (ws : List Body). AreViewsOf g me v known (said ++ ws))
    (due.views ∙ sym by.views) views))
    (asks_counted g me a known said all (w.updates_asked ++ w.orders_asked) w.gives w.given
    (pair w.updates_asked w.orders_asked _ _ due.updates_asked due.orders_asked ∙ sym by.asks)
    (pair w.gives w.given _ _ due.gives due.given ∙ sym by.gifts) asks)
    (summary_counted g su said all
    (subst (λ (ws : List Body). IsSummaryOf g su (said ++ ws)) (sym by.summaries) summary))
    (offers_counted g proposer (facts_of g known) said all
    (subst (λ (ws : List Body). AreOffersOf g proposer (facts_of g known) (said ++ ws)) (sym by.offers) offers_are))
    offers_view
    (vouchers_counted vo.counts said all (subst (λ (ws : List Body). AreVouchersOf vo.counts (said ++ ws))
    (due.vouchers ∙ sym by.vouchers) vouchers)))

-- the vouchers due by a plant's lists
pub vouchers_are : (g : Group) (orders : List Update → ℕ → List Order) (known : List (Signed Body)) (points : Held)
    (said : List Body) → HoldsOrders g orders known points
    → flat_map (λ c. vouchers_from said c 1 (orders (executed g known) c)) (numbers_below (clients_of points)) ≡
    vouchers_due g orders known said
vouchers_are g orders known points said holds =
    ap (λ n. flat_map (λ c. vouchers_from said c 1 (orders (executed g known) c)) (numbers_below n)) holds.clients
