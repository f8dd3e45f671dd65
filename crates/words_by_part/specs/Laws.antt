-- How all that a master says falls to its parts.
use Rattle.std.specs.Prelude.{◌≡◌, ℕ, Bool, true, false, List, [], ◌∷◌, ◌++◌, Option, filter}
use Rattle.std.specs.List.{list_any, filter_map}
use Rattle.message_types.specs.declared.signed.Signed.{Signed}
use Rattle.message_types.specs.declared.updates.Update.{Update}
use Rattle.message_types.specs.declared.vouchers.Order.{Order}
use Rattle.message_types.specs.declared.body.Body.{Body}
use Rattle.quorum_sets.specs.Masters.{numbers_below}
use Rattle.protocol_rules.specs.declared.facts.OrderFact.{OrderFact}
use Rattle.protocol_rules.specs.Group.{Group, is_live}
use Rattle.protocol_rules.specs.Preorder.{requests_due, acks_due}
use Rattle.protocol_rules.specs.Facts.{facts_of}
use Rattle.protocol_rules.specs.Matrix.{reach}
use Rattle.protocol_rules.specs.Order.{stable, marks_for, certificates_below, prepares_due, commits_due, marks_due}
use Rattle.protocol_rules.specs.Order.{ordered_run}
use Rattle.protocol_rules.specs.Views.{view, is_open, report_due, new_view_due, reports_said, new_views_said}
use Rattle.protocol_rules.specs.Measures.{Told, ticks_of, waited, pings_due, pongs_due, round_trips_due}
use Rattle.protocol_rules.specs.Measures.{tat_reports_due, tat_bounds_due, suspects_due}
use Rattle.protocol_rules.specs.Measures.{pings_said, pongs_said, round_trips_said, tat_reports_said, tat_bounds_said}
use Rattle.protocol_rules.specs.Measures.{suspects_said}
use Rattle.protocol_rules.specs.Reconcile.{ask_update_due, ask_order_due, gives_due, gives_ordered_due, updates_asked}
use Rattle.protocol_rules.specs.Reconcile.{orders_asked, updates_given, orders_given}
use Rattle.protocol_rules.specs.Patience.{Moment, wait, votes_due}
use Rattle.protocol_rules.specs.Turns.{requests_in_turn_due, request_again_due, acks_in_turn_due, acks_again_due}
use Rattle.protocol_rules.specs.Worth.{worthy_prepares_due}
use Rattle.protocol_rules.specs.Lacking.{update_asks_due, order_asks_due, gift_due}
use Rattle.protocol_rules.specs.Master.{executed, moments_of, summary_again_due, whole_preprepares_due, answered_in}
use Rattle.protocol_rules.specs.Master.{is_give, is_order_given}
use Rattle.protocol_rules.specs.Master.{Heard, known_at, taken_at, said_before, told_of, waiting_for, gap_of}
use Rattle.protocol_rules.specs.Master.{summaries_due, preprepares_due, vouchers_due, answers, summary_in}
use Rattle.protocol_rules.specs.Master.{offered_number, vouchers_said}
use Rattle.words_by_part.specs.Kinds.{is_of, preordering, summing, offering, ordering, measuring, changing_views}
use Rattle.words_by_part.specs.Kinds.{asking, giving, vouching}

-- the events so far as the measures are told of them, the present one included
abbrev pub told_at : Group → List Heard → Option (Signed Body) → Bool → List Told
told_at g before took at_tick = told_of g [] (before ++ record { took = took; is_tick = at_tick; said = [] } ∷ [])

-- The words of each part's kinds among all that a master says are what is due by that part's rules.
pub record AreByPart (g : Group) (orders : List Update → ℕ → List Order) (me : ℕ) (known taken : List (Signed Body))
    (said : List Body) (told : List Told) (at_tick : Bool) (all : List Body) : Type 0 where
  pub requests : filter (is_of preordering) all ≡ requests_due g me taken said (numbers_below g.clients)
      ++ acks_due g known said
  pub summaries : filter (is_of summing) all ≡ summaries_due g known said at_tick
  pub offers : filter (is_of offering) all ≡ preprepares_due g me known (facts_of g known) said at_tick
  pub orders_said : filter (is_of ordering) all ≡ prepares_due g (facts_of g known) said (view g known)
      (is_open g known) ++ commits_due g (facts_of g known) said (view g known) ++ marks_due g (facts_of g known) said
  pub measures : filter (is_of measuring) all ≡ pings_due (ticks_of told) at_tick ++ pongs_due g me known said
      ++ round_trips_due g me known said (ticks_of told)
      ++ tat_reports_due said (view g known) (waited (view g known) told) at_tick ++ tat_bounds_due g me known said
      (view g known) at_tick ++ suspects_due g known said (view g known) at_tick
  pub views : filter (is_of changing_views) all ≡ report_due g known said (stable g (facts_of g known))
      (marks_for g (facts_of g known) (stable g (facts_of g known)))
      (certificates_below g (facts_of g known) (view g known)) ++ new_view_due g me known said
  pub asks : filter (is_of asking) all ≡ ask_update_due said at_tick (waiting_for g known)
      ++ ask_order_due said at_tick (gap_of g (facts_of g known))
  pub gifts : filter (is_of giving) all ≡ gives_due g me known said
      ++ gives_ordered_due g me known (facts_of g known) said
  pub vouchers : filter (is_of vouching) all ≡ vouchers_due g orders known said

-- By the rules first specified.
abbrev pub AnswersByPart : Type 0
AnswersByPart =
    (g : Group) (orders : List Update → ℕ → List Order) (me : ℕ) (before : List Heard)
    (took : Option (Signed Body)) (at_tick : Bool)
    → is_live g ≡ false
    → AreByPart g orders me (known_at before took) (taken_at before took) (said_before before)
    (told_at g before took at_tick) at_tick (answers g orders me before took at_tick)

-- the moments of all events, the present one included
abbrev pub moments_at : Group → List Heard → Option (Signed Body) → Bool → List Moment
moments_at g before took at_tick =
    moments_of g [] (before ++ record { took = took; is_tick = at_tick; said = [] } ∷ [])

-- how long the master has waited in its view
abbrev pub waiting_at : Group → List (Signed Body) → List Moment → ℕ
waiting_at g known moments = wait g (view g known) (reach g (ordered_run g (facts_of g known))) moments

-- The same by the rules that stay alive; `now` ticks there were, and the asks of these masters were answered.
pub record AreByLivePart (g : Group) (orders : List Update → ℕ → List Order) (me : ℕ)
    (known taken : List (Signed Body)) (took : Option (Signed Body)) (said : List Body) (answered : List ℕ)
    (moments : List Moment) (now : ℕ) (at_tick : Bool) (all : List Body) : Type 0 where
  pub requests : filter (is_of preordering) all ≡
      (requests_in_turn_due g me taken (executed g known) said (numbers_below g.clients)
      ++ request_again_due g me known said now at_tick)
      ++ (acks_in_turn_due g known said ++ acks_again_due g known said now at_tick)
  pub summaries : filter (is_of summing) all ≡ summary_again_due g (facts_of g known) said now at_tick
      ++ summaries_due g known said at_tick
  pub offers : filter (is_of offering) all ≡ whole_preprepares_due g me known (facts_of g known) said at_tick
  pub orders_said : filter (is_of ordering) all ≡ worthy_prepares_due g (facts_of g known) said (view g known)
      (is_open g known) ++ commits_due g (facts_of g known) said (view g known) ++ marks_due g (facts_of g known) said
  pub votes : filter (is_of measuring) all ≡ votes_due g known said (view g known)
      (waiting_at g known moments) now at_tick
  pub views : filter (is_of changing_views) all ≡ report_due g known said (stable g (facts_of g known))
      (marks_for g (facts_of g known) (stable g (facts_of g known)))
      (certificates_below g (facts_of g known) (view g known)) ++ new_view_due g me known said
  pub asks : filter (is_of asking) all ≡ update_asks_due g known (facts_of g known) said moments now at_tick
      ++ order_asks_due g (facts_of g known) said (view g known) (is_open g known)
      (waiting_at g known moments) now at_tick
  pub gifts : filter (is_of giving) all ≡ filter is_give (gift_due g me known (facts_of g known) answered took now)
      ++ filter is_order_given (gift_due g me known (facts_of g known) answered took now)
  pub vouchers : filter (is_of vouching) all ≡ vouchers_due g orders known said

abbrev pub AnswersByLivePart : Type 0
AnswersByLivePart =
    (g : Group) (orders : List Update → ℕ → List Order) (me : ℕ) (before : List Heard)
    (took : Option (Signed Body)) (at_tick : Bool)
    → is_live g ≡ true
    → AreByLivePart g orders me (known_at before took) (taken_at before took) took (said_before before)
    (answered_in before) (moments_at g before took at_tick) (ticks_of (told_at g before took at_tick)) at_tick
    (answers g orders me before took at_tick)

-- The tests by which the parts look at the words said pass none of other kinds.
pub record TellByKind (words : List Body) : Type 0 where
  pub summaries : filter_map summary_in (filter (is_of summing) words) ≡ filter_map summary_in words
  pub offers : (v : ℕ) → filter_map (offered_number v) (filter (is_of offering) words) ≡ filter_map
      (offered_number v) words
  pub pings : (number : ℕ) → list_any (pings_said number) (filter (is_of measuring) words) ≡ list_any
      (pings_said number) words
  pub pongs : (to number : ℕ) → list_any (pongs_said to number) (filter (is_of measuring) words) ≡ list_any
      (pongs_said to number) words
  pub round_trips : (to number : ℕ) →
      list_any (round_trips_said to number) (filter (is_of measuring) words) ≡ list_any
      (round_trips_said to number) words
  pub tat_reports : (v ticks : ℕ) → list_any (tat_reports_said v ticks) (filter (is_of measuring) words) ≡ list_any
      (tat_reports_said v ticks) words
  pub tat_bounds : (v : ℕ) → list_any (tat_bounds_said v) (filter (is_of measuring) words) ≡ list_any
      (tat_bounds_said v) words
  pub suspicions : (v : ℕ) → list_any (suspects_said v) (filter (is_of measuring) words) ≡ list_any
      (suspects_said v) words
  pub reports : (v : ℕ) → list_any (reports_said v) (filter (is_of changing_views) words) ≡ list_any
      (reports_said v) words
  pub new_views : (v : ℕ) → list_any (new_views_said v) (filter (is_of changing_views) words) ≡ list_any
      (new_views_said v) words
  pub asked_updates : (j k : ℕ) → list_any (updates_asked j k) (filter (is_of asking) words) ≡ list_any
      (updates_asked j k) words
  pub asked_orders : (s : ℕ) → list_any (orders_asked s) (filter (is_of asking) words) ≡ list_any (orders_asked s) words
  pub given_updates : (j k : ℕ) → list_any (updates_given j k) (filter (is_of giving) words) ≡ list_any
      (updates_given j k) words
  pub given_orders : (s : ℕ) → list_any (orders_given s) (filter (is_of giving) words) ≡ list_any (orders_given s) words
  pub vouchers : (c x : ℕ) → list_any (vouchers_said c x) (filter (is_of vouching) words) ≡ list_any
      (vouchers_said c x) words

abbrev pub OwnWordsTell : Type 0
OwnWordsTell = (words : List Body) → TellByKind words
