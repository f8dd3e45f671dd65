-- All that a master says at an event by the rules that stay alive, and what it keeps then.
use Rattle.std.proofs.Common.{◌≡◌, ℕ, ◌≤◌, Bool, true, true≢false, List, [], ◌++◌, Option, filter, refl, sym, ◌∙◌, ap}
use Rattle.std.proofs.Common.{subst}
use Rattle.message_types.specs.declared.signed.Signed.{Signed}
use Rattle.message_types.specs.declared.updates.Update.{Update}
use Rattle.message_types.specs.declared.vouchers.Order.{Order}
use Rattle.message_types.specs.declared.body.Body.{Body}
use Rattle.quorum_sets.specs.Masters.{numbers_below}
use Rattle.protocol_rules.specs.declared.facts.OrderFact.{OrderFact}
use Rattle.protocol_rules.specs.Group.{Group, is_live}
use Rattle.protocol_rules.specs.Facts.{facts_of}
use Rattle.protocol_rules.specs.Order.{stable, marks_for, certificates_below, commits_due, marks_due}
use Rattle.protocol_rules.specs.Views.{view, is_open, report_due, new_view_due}
use Rattle.protocol_rules.specs.Measures.{ticks_of, suspects_said}
use Rattle.protocol_rules.specs.Patience.{Moment, votes_due}
use Rattle.protocol_rules.specs.Turns.{requests_in_turn_due, request_again_due, acks_in_turn_due, acks_again_due}
use Rattle.protocol_rules.specs.Worth.{worthy_prepares_due}
use Rattle.protocol_rules.specs.Lacking.{update_asks_due, order_asks_due, gift_due}
use Rattle.protocol_rules.specs.Master.{Heard, known_at, taken_at, said_before, executed, answered_in, is_give}
use Rattle.protocol_rules.specs.Master.{is_order_given, summaries_due, summary_again_due, whole_preprepares_due}
use Rattle.protocol_rules.specs.Master.{vouchers_due, answers, answers_by}
use Rattle.preorder.specs.PreorderState.{PreorderState, IsPreorderOf}
use Rattle.global_order.specs.OrderState.{OrderState, IsOrderOf}
use Rattle.leader_patience.specs.PatienceState.{PatienceState, IsPatienceOf}
use Rattle.view_change.specs.ViewState.{ViewState, AreViewsOf}
use Rattle.reconcile.specs.AskState.{AskState, AreAsksOf}
use Rattle.reconcile.specs.Shares.{AreSharesOf}
use Rattle.leader_proposals.specs.declared.vouchers.Vouchers.{Vouchers}
use Rattle.leader_proposals.specs.Offering.{Offered, AreOffersOf}
use Rattle.leader_proposals.specs.Saying.{SummedUp, IsSummaryOf, AreVouchersOf}
use Rattle.words_by_part.specs.Kinds.{is_of, measuring}
use Rattle.words_by_part.specs.Laws.{told_at, moments_at, waiting_at, AreByLivePart}
use Rattle.words_by_part.proofs.Telling.{own_words_tell}
use Rattle.master_knowledge.specs.declared.knowledge.Knowledge.{Knowledge}
use Rattle.master_knowledge.specs.Past.{Past}
use Rattle.master_knowledge.specs.Knows.{Knows}
use Rattle.master_answers.specs.declared.replica_state.ReplicaState.{ReplicaState}
use Rattle.master_answers.specs.Replica.{IsReplicaOf}
use Rattle.master_answers.proofs.Alike.{any_alike}
use Rattle.master_answers.proofs.Counting.{summary_counted, offers_counted, vouchers_counted, views_counted, asks_counted}
use Rattle.master_answers.proofs.Joining.{pair, all_joined}
use Rattle.master_answers.proofs.Speaking.{Words, joined}

-- votes count among all that is said as the words of their kind
pub votes_counted : (g : Group) (kept : PatienceState) (known : List (Signed Body)) (said all : List Body) →
    IsPatienceOf g kept known (said ++ filter (is_of measuring) all) → IsPatienceOf g kept known (said ++ all)
votes_counted g kept known said all is = record {
  masters = is.masters;
  intruded = is.intruded;
  away = is.away;
  voted = is.voted;
  own = λ v. any_alike (suspects_said v) (is_of measuring) said all (filter (is_of measuring) all)
      ((own_words_tell all).suspicions v) refl ∙ is.own v;
}

-- the parts after an event, each of which counts all that was said at it, are those of the master
pub speaks_alive_with : (g : Group) (me : ℕ) (kept : ReplicaState) (k : Knowledge) (p : PreorderState) (o : OrderState)
    (m : PatienceState) (v : ViewState) (a : AskState) (su : SummedUp) (proposer : Offered)
    (vo : Vouchers) (shares : List ℕ)
    (taken known : List (Signed Body)) (past : Past) (answered : List ℕ) (said all : List Body)
    → is_live g ≡ true → kept.me ≡ me → Knows g me k taken known past said
    → IsPreorderOf g me p taken known (said ++ all)
    → IsOrderOf g o (facts_of g known) (said ++ all)
    → IsPatienceOf g m known (said ++ all)
    → AreViewsOf g me v known (said ++ all)
    → AreAsksOf g me a known (said ++ all)
    → IsSummaryOf g su (said ++ all)
    → AreOffersOf g proposer (facts_of g known) (said ++ all)
    → proposer.progress.view ≤ view g known
    → AreVouchersOf vo.counts (said ++ all)
    → AreSharesOf shares answered
    → IsReplicaOf g me (record kept {
      knowledge = record k {
        preorder = p;
        order = o;
        patience = m;
        views = v;
        asks = a;
      };
      summary = su;
      proposer = proposer;
      vouchers = vo;
      shares = shares;
    }) taken known (record past { answered = answered }) (said ++ all)
speaks_alive_with g me kept k p o m v a su proposer vo shares taken known past answered said all live own knows
    preorder order patience views asks summary offers_are offers_view vouchers shares_are = record {
      own = own;
      knows = record {
        masters = knows.masters;
        quorum = knows.quorum;
        rules = knows.rules;
        whole = knows.whole;
        preorder = preorder;
        matrix = knows.matrix;
        order = order;
        run = knows.run;
        views = views;
        ticks_told = knows.ticks_told;
        ticks = knows.ticks;
        measure = λ first. absurd (true≢false (sym live ∙ first));
        patience = λ is. patience;
        wait = knows.wait;
        furthest = knows.furthest;
        earlier = knows.earlier;
        asks = asks;
        gifts = knows.gifts;
      };
      summary = summary;
      proposer = offers_are;
      view = offers_view;
      vouchers = vouchers;
      shares = λ is. shares_are;
    }

-- what each part says is what is due by its rules; `measures` of the words are the votes here
pub record AreDueAlive (g : Group) (orders : List Update → ℕ → List Order) (me : ℕ) (known taken : List (Signed Body))
    (took : Option (Signed Body)) (said : List Body) (answered : List ℕ) (moments : List Moment) (now : ℕ)
    (at_tick : Bool) (w : Words) : Type 0 where
  pub requests : w.requests ≡ (requests_in_turn_due g me taken (executed g known) said (numbers_below g.clients)
      ++ request_again_due g me known said now at_tick)
      ++ (acks_in_turn_due g known said ++ acks_again_due g known said now at_tick)
  pub at_a_tick : w.at_a_tick ≡ (summary_again_due g (facts_of g known) said now at_tick
      ++ summaries_due g known said at_tick) ++ whole_preprepares_due g me known (facts_of g known) said at_tick
  pub ordered : w.ordered ≡ worthy_prepares_due g (facts_of g known) said (view g known) (is_open g known)
      ++ commits_due g (facts_of g known) said (view g known)
  pub votes : w.measures ≡ votes_due g known said (view g known) (waiting_at g known moments) now at_tick
  pub views : w.views ≡ report_due g known said (stable g (facts_of g known))
      (marks_for g (facts_of g known) (stable g (facts_of g known)))
      (certificates_below g (facts_of g known) (view g known)) ++ new_view_due g me known said
  pub updates_asked : w.updates_asked ≡ update_asks_due g known (facts_of g known) said moments now at_tick
  pub gives : w.gives ≡ filter is_give (gift_due g me known (facts_of g known) answered took now)
  pub orders_asked : w.orders_asked ≡ order_asks_due g (facts_of g known) said (view g known) (is_open g known)
      (waiting_at g known moments) now at_tick
  pub given : w.given ≡ filter is_order_given (gift_due g me known (facts_of g known) answered took now)
  pub vouchers : w.vouchers ≡ vouchers_due g orders known said
  pub marks : w.marks ≡ marks_due g (facts_of g known) said

pub answers_are_alive : (g : Group) (orders : List Update → ℕ → List Order) (me : ℕ) (before : List Heard)
    (took : Option (Signed Body)) (at_tick : Bool) (w : Words)
    → AreDueAlive g orders me (known_at before took) (taken_at before took) took (said_before before)
    (answered_in before) (moments_at g before took at_tick) (ticks_of (told_at g before took at_tick)) at_tick w
    → is_live g ≡ true → joined w ≡ answers g orders me before took at_tick
unfolding answers
answers_are_alive g orders me before took at_tick w due live =
    let known : List (Signed Body) = known_at before took in
    let said : List Body = said_before before in
    let facts : List OrderFact = facts_of g known in
    let v : ℕ = view g known in
    let now : ℕ = ticks_of (told_at g before took at_tick) in
    let moments : List Moment = moments_at g before took at_tick in
    let waiting : ℕ = waiting_at g known moments in
    let gifts : List Body = gift_due g me known facts (answered_in before) took now in
    all_joined
    (requests_in_turn_due g me (taken_at before took) (executed g known) said (numbers_below g.clients)
    ++ request_again_due g me known said now at_tick)
    (acks_in_turn_due g known said ++ acks_again_due g known said now at_tick)
    (summary_again_due g facts said now at_tick ++ summaries_due g known said at_tick)
    (whole_preprepares_due g me known facts said at_tick)
    (worthy_prepares_due g facts said v (is_open g known)) (commits_due g facts said v)
    [] [] [] [] [] (votes_due g known said v waiting now at_tick)
    (report_due g known said (stable g facts) (marks_for g facts (stable g facts)) (certificates_below g facts v))
    (new_view_due g me known said) (update_asks_due g known facts said moments now at_tick) (filter is_give gifts)
    (order_asks_due g facts said v (is_open g known) waiting now at_tick) (filter is_order_given gifts)
    (vouchers_due g orders known said) (marks_due g facts said)
    w.requests w.at_a_tick w.ordered w.measures w.views w.updates_asked w.gives w.orders_asked
    w.given w.vouchers w.marks
    due.requests due.at_a_tick due.ordered due.votes due.views due.updates_asked due.gives due.orders_asked
    due.given due.vouchers due.marks
    ∙ ap (λ b. answers_by b g orders me before took at_tick) (sym live)

-- each part counts its own words as said, and so all
pub speaks_alive_from : (g : Group) (orders : List Update → ℕ → List Order) (me : ℕ) (known taken : List (Signed Body))
    (took : Option (Signed Body)) (said : List Body) (past : Past) (now : ℕ) (answered : List ℕ) (at_tick : Bool)
    (all bodies : List Body) (w : Words) (kept : ReplicaState) (k : Knowledge) (p : PreorderState) (o : OrderState)
    (m : PatienceState) (v : ViewState) (a : AskState) (su : SummedUp) (proposer : Offered)
    (vo : Vouchers) (shares : List ℕ)
    → is_live g ≡ true → bodies ≡ all
    → AreByLivePart g orders me known taken took said past.answered past.moments now at_tick all
    → AreDueAlive g orders me known taken took said past.answered past.moments now at_tick w
    → kept.me ≡ me → Knows g me k taken known past said
    → IsPreorderOf g me p taken known (said ++ all)
    → IsOrderOf g o (facts_of g known) (said ++ all)
    → IsPatienceOf g m known (said ++ w.measures)
    → AreViewsOf g me v known (said ++ w.views)
    → AreAsksOf g me a known (((said ++ (w.updates_asked ++ w.orders_asked)) ++ w.gives) ++ w.given)
    → IsSummaryOf g su (said ++ (summary_again_due g (facts_of g known) said now at_tick
    ++ summaries_due g known said at_tick))
    → AreOffersOf g proposer (facts_of g known)
    (said ++ whole_preprepares_due g me known (facts_of g known) said at_tick)
    → proposer.progress.view ≤ view g known
    → AreVouchersOf vo.counts (said ++ w.vouchers)
    → AreSharesOf shares answered
    → IsReplicaOf g me (record kept {
      knowledge = record k {
        preorder = p;
        order = o;
        patience = m;
        views = v;
        asks = a;
      };
      summary = su;
      proposer = proposer;
      vouchers = vo;
      shares = shares;
    }) taken known (record past { answered = answered }) (said ++ bodies)
speaks_alive_from g orders me known taken took said past now answered at_tick all bodies w kept k p o m v a su
    proposer vo shares live same by due own knows preorder order patience views asks summary offers_are
    offers_view vouchers shares_are =
    subst (λ (ws : List Body). IsReplicaOf g me
    (record kept {
      knowledge = record k { preorder = p; order = o; patience = m; views = v; asks = a };
      summary = su;
      proposer = proposer;
      vouchers = vo;
      shares = shares;
    }) taken known (record past { answered = answered }) (said ++ ws)) (sym same)
    (speaks_alive_with g me kept k p o m v a su proposer vo shares taken known past answered said all live own knows
    preorder order
    (votes_counted g m known said all (subst (λ (ws : List Body). IsPatienceOf g m known (said ++ ws))
    (due.votes ∙ sym by.votes) patience))
    (views_counted g me v known said all (subst (λ (ws : List Body). AreViewsOf g me v known (said ++ ws))
    (due.views ∙ sym by.views) views))
    (asks_counted g me a known said all (w.updates_asked ++ w.orders_asked) w.gives w.given
    (pair w.updates_asked w.orders_asked _ _ due.updates_asked due.orders_asked ∙ sym by.asks)
    (pair w.gives w.given _ _ due.gives due.given ∙ sym by.gifts) asks)
    (summary_counted g su said all
    (subst (λ (ws : List Body). IsSummaryOf g su (said ++ ws)) (sym by.summaries) summary))
    (offers_counted g proposer (facts_of g known) said all
    (subst (λ (ws : List Body). AreOffersOf g proposer (facts_of g known) (said ++ ws)) (sym by.offers) offers_are))
    offers_view
    (vouchers_counted vo.counts said all (subst (λ (ws : List Body). AreVouchersOf vo.counts (said ++ ws))
    (due.vouchers ∙ sym by.vouchers) vouchers)) shares_are)
