-- A correct master: what it knows, what it executes, and what it says at each of its events, from the list of the
-- events alone. What it says joins what it knows at its next event.
use Rattle.std.specs.Prelude.{ℕ, ◌+◌, ◌-◌, Bool, true, false, ◌&&◌, ◌||◌, not, List, [], ◌∷◌, ◌++◌, Option, Some}
use Rattle.std.specs.Prelude.{None, filter, length, map, max, reverse, nat_eq, nat_le, nat_lt, if◌then◌else◌}
use Rattle.std.specs.List.{list_any, find, filter_map, flat_map, slice_index}
use Rattle.std.specs.Option.{option_to_list}
use Rattle.std.specs.Str.{bytes_eq}
use Rattle.message_types.specs.declared.signed.Signed.{Signed}
use Rattle.message_types.specs.declared.updates.Update.{Update}
use Rattle.message_types.specs.declared.vouchers.Order.{Order}
use Rattle.message_types.specs.declared.views.Plan.{Plan}
use Rattle.message_types.specs.declared.body.Body.{Body}
use Rattle.message_types.specs.declared.body.Body.TheVariants as body
use Rattle.message_types.specs.Parts.{parts}
use Rattle.quorum_sets.specs.Masters.{numbers_below}
use Rattle.protocol_rules.specs.declared.facts.OrderFact.{OrderFact}
use Rattle.protocol_rules.specs.Words.{greatest_of, in_order, numbers_from}
use Rattle.protocol_rules.specs.Group.{Group, is_live, most_number, window, leader_of}
use Rattle.protocol_rules.specs.Preorder.{certified, vector, requests_due, acks_due}
use Rattle.protocol_rules.specs.Matrix.{latest, latest_frames, column, eligible, reach, exceeds}
use Rattle.protocol_rules.specs.Facts.{facts_of}
use Rattle.protocol_rules.specs.Order.{ordered, ordered_run, gapless, stable, marks_for, certificates_below, offered}
use Rattle.protocol_rules.specs.Order.{plan_known, prepares_due, commits_due, marks_due}
use Rattle.protocol_rules.specs.Execution.{Request, executed_of, waiting_of}
use Rattle.protocol_rules.specs.Views.{view, is_open, report_due, new_view_due}
use Rattle.protocol_rules.specs.Measures.{Told, ticks_of, waited, pings_due, pongs_due, round_trips_due}
use Rattle.protocol_rules.specs.Measures.{tat_reports_due, tat_bounds_due, suspects_due}
use Rattle.protocol_rules.specs.Patience.{Moment, wait, votes_due}
use Rattle.protocol_rules.specs.Turns.{is_slow_beat, requests_in_turn_due, request_again_due, acks_in_turn_due}
use Rattle.protocol_rules.specs.Turns.{acks_again_due}
use Rattle.protocol_rules.specs.Worth.{worthy_prepares_due}
use Rattle.protocol_rules.specs.Lacking.{answers_ask, update_asks_due, order_asks_due, gift_due}
use Rattle.protocol_rules.specs.Reconcile.{ask_update_due, ask_order_due, gives_due, gives_ordered_due}

-- one event of a master: the frame that it took, if any, whether it was a tick, and the frames that it said
pub record Heard : Type 0 where
  pub took : Option (Signed Body)
  pub is_tick : Bool
  pub said : List (Signed Body)

abbrev pub taken_frames : Option (Signed Body) → List (Signed Body)
taken_frames None = []
taken_frames (Some f) = f ∷ []

-- what one event makes known: the parts of the frame taken, then those of what was said
abbrev pub learned : Heard → List (Signed Body)
learned e = flat_map parts (taken_frames e.took) ++ flat_map parts e.said

-- all words known at an event: those of the events before, with what was said at them, and the frame taken
unfoldable pub known_at : List Heard → Option (Signed Body) → List (Signed Body)
known_at before took = flat_map learned before ++ flat_map parts (taken_frames took)

-- the frames taken as frames of their own, the present one included
abbrev pub taken_at : List Heard → Option (Signed Body) → List (Signed Body)
taken_at before took = flat_map (λ e. taken_frames e.took) before ++ taken_frames took

-- the bodies said at earlier events
abbrev pub said_before : List Heard → List Body
said_before before = flat_map (λ e. map (λ f. f.body) e.said) before

-- the certificates that these words make
abbrev pub certified_requests : Group → List (Signed Body) → Request → Option Update
certified_requests g known r = certified g known r.j r.k

-- what is executed where these words are known
unfoldable pub executed : Group → List (Signed Body) → List Update
executed g known = executed_of g (certified_requests g known) (ordered_run g (facts_of g known))

abbrev pub waiting_for : Group → List (Signed Body) → Option Request
waiting_for g known = waiting_of g (certified_requests g known) (ordered_run g (facts_of g known))

-- the numbers of all masters' latest summaries as rows, empty ones where there is none
abbrev pub latest_rows : Group → List (Signed Body) → List (List ℕ)
latest_rows g known = map (λ j. elim (latest known j) [ None ↦ [] | Some f ↦ f.body.numbers ]) (numbers_below g.n)

-- The master waits for its leader: the view isn't open, or its summaries make more eligible than is ordered without a
-- gap.
unfoldable pub waits : Group → List (Signed Body) → Bool
waits g known = not (is_open g known) || exceeds g (latest_rows g known) (reach g (ordered_run g (facts_of g known)))

-- each event so far as the measures are told of it; `before` are the events already told
abbrev pub told_of : Group → List Heard → List Heard → List Told
told_of g before [] = []
told_of g before (e ∷ rest) =
    record { is_tick = e.is_tick; view = view g (known_at before e.took); waits = waits g (known_at before e.took) }
    ∷ told_of g (before ++ e ∷ []) rest

-- what the latest summaries make eligible of each master's requests, and how far f + 1 of them have these certified, of
-- whom one is correct
abbrev pub eligible_now : Group → List (Signed Body) → List ℕ
eligible_now g known = map (eligible g (latest_rows g known)) (numbers_below g.n)

abbrev pub shown_now : Group → List (Signed Body) → List ℕ
shown_now g known =
    map (λ j. slice_index (reverse (in_order (column (latest_rows g known) j))) g.f) (numbers_below g.n)

abbrev pub moment : Group → List (Signed Body) → Bool → Moment
moment g known at_tick = record {
  is_tick = at_tick;
  view = view g known;
  eligible = eligible_now g known;
  shown = shown_now g known;
}

-- the moments of these events; `before` are the events before them
abbrev pub moments_of : Group → List Heard → List Heard → List Moment
moments_of g before [] = []
moments_of g before (e ∷ rest) =
    moment g (known_at before e.took) e.is_tick ∷ moments_of g (before ++ e ∷ []) rest

-- the masters whose asks were answered at these events: each took an ask and said what it asks for
abbrev pub answered_in : List Heard → List ℕ
answered_in before = filter_map (λ e. elim e.took [
  | None ↦ None
  | Some f ↦ if list_any (λ said. answers_ask f.body said.body) e.said then Some f.signer else None
]) before

-- what is given of requests, and of numbers
abbrev pub is_give : Body → Bool
is_give word = elim word [ body.Give b ↦ true | _ ↦ false ]

abbrev pub is_order_given : Body → Bool
is_order_given word = elim word [ body.GiveOrdered b ↦ true | _ ↦ false ]

-- the least number that isn't ordered, where a greater one is
abbrev pub gap_of : Group → List OrderFact → Option ℕ
gap_of g facts =
    if list_any (λ s. nat_lt (gapless g facts + 1) s && is_ordered s) (numbers_from 1 most_number) then Some
    (gapless g facts + 1) else None
  where
    is_ordered : ℕ → Bool
    is_ordered s = elim (ordered g facts s) [ None ↦ false | Some rows ↦ true ]

-- the vector of the last summary said, at first none certified
abbrev pub summary_in : Body → Option (List ℕ)
summary_in word = elim word [ body.PoSummary b ↦ Some b.numbers | _ ↦ None ]

abbrev pub last_or : List ℕ → List (List ℕ) → List ℕ
last_or first [] = first
last_or first (x ∷ rest) = last_or x rest

-- at a tick: a summary where the vector isn't the last said
abbrev pub summaries_due : Group → List (Signed Body) → List Body → Bool → List Body
summaries_due g known said at_tick =
    let now = map (vector g known) (numbers_below g.n) in
    if at_tick && not (bytes_eq now (last_or (map (λ j. 0) (numbers_below g.n)) (filter_map summary_in said)))
    then body.PoSummary record { numbers = now } ∷ []
    else []

-- the last summary said, again at each 32nd tick while what it tells isn't ordered
abbrev pub is_summary : Body → Bool
is_summary word = elim word [ body.PoSummary b ↦ true | _ ↦ false ]

abbrev pub summary_again_due : Group → List OrderFact → List Body → ℕ → Bool → List Body
summary_again_due g facts said now at_tick =
    if at_tick && is_slow_beat now
    && list_any (λ j. nat_lt (reach g (ordered_run g facts) j)
    (slice_index (last_or [] (filter_map summary_in said)) j)) (numbers_below g.n)
    then option_to_list (find is_summary (reverse said)) else []

-- the numbers that the master offered in view v
abbrev pub offered_number : ℕ → Body → Option ℕ
offered_number v word = elim word [ body.PrePrepare b ↦ if nat_eq b.v v then Some b.s else None | _ ↦ None ]

-- the number that a leader offers next: after the plan and after all that it offered in the view
abbrev pub next_number : List Body → ℕ → Plan → ℕ
next_number said v plan = max (plan.base + length plan.rows) (greatest_of (filter_map (offered_number v) said)) + 1

-- the rows of number s that a leader counts as offered: up to the plan's base what is ordered, above it what the view
-- offers
abbrev pub counted_rows : Group → List OrderFact → ℕ → Plan → ℕ → Option (List (List ℕ))
counted_rows g facts v plan s = if nat_le s plan.base then ordered g facts s else offered facts v s

-- At a tick the leader of an open view offers the next number within the window, with all latest summaries, where they
-- make more eligible than what was offered before.
abbrev pub preprepares_due : Group → ℕ → List (Signed Body) → List OrderFact → List Body → Bool → List Body
preprepares_due g me known facts said at_tick = elim (plan_known facts (view g known)) [
  | None ↦ []
  | Some plan ↦
      let s = next_number said (view g known) plan in
      if at_tick && nat_eq me (leader_of g (view g known)) && is_open g known && nat_le s most_number
      && nat_le s (stable g facts + window)
      && exceeds g (latest_rows g known)
      (reach g (filter_map (counted_rows g facts (view g known) plan) (numbers_from 1 (s - 1))))
      then body.PrePrepare record { v = view g known; s = s; frames = latest_frames g known } ∷ []
      else []
]

-- By the rules that stay alive a leader offers nothing until it has ordered all up to the base of its plan: what it counts
-- as offered is then what everybody else counts.
abbrev pub whole_preprepares_due : Group → ℕ → List (Signed Body) → List OrderFact → List Body → Bool → List Body
whole_preprepares_due g me known facts said at_tick = elim (plan_known facts (view g known)) [
  | None ↦ []
  | Some plan ↦ if nat_le plan.base (gapless g facts) then preprepares_due g me known facts said at_tick else []
]

-- the word vouches for order x of client c
abbrev pub vouchers_said : ℕ → ℕ → Body → Bool
vouchers_said c x word = elim word [ body.Voucher b ↦ nat_eq b.client c && nat_eq b.number x | _ ↦ false ]

-- a voucher for each order of a client that none was said for; `x` numbers the first of the orders
abbrev pub vouchers_from : List Body → ℕ → ℕ → List Order → List Body
vouchers_from said c x [] = []
vouchers_from said c x (order ∷ rest) =
    (if list_any (vouchers_said c x) said then [] else body.Voucher record {
      client = c;
      number = x;
      order = order;
    } ∷ [])
    ++ vouchers_from said c (x + 1) rest

-- the orders of the executed list, client by client
abbrev pub vouchers_due : Group → (List Update → ℕ → List Order) → List (Signed Body) → List Body → List Body
vouchers_due g orders known said = flat_map (λ c. vouchers_from said c 1 (orders (executed g known) c))
    (numbers_below g.clients)

-- what is due by the rules that the group goes by: those first specified, or those that stay alive
abbrev pub by_rules : Bool → List Body → List Body → List Body
by_rules is_live first live = if is_live then live else first

-- All that a correct master says at an event where it is free to, in order of kinds. `orders` gives the orders of a
-- client that a list of executed updates makes, by the rules of the plant.
abbrev pub answers_by : Bool → Group → (List Update → ℕ → List Order) → ℕ → List Heard →
    Option (Signed Body) → Bool → List Body
answers_by live g orders me before took at_tick =
    let known = known_at before took in
    let facts = facts_of g known in
    let said = said_before before in
    let v = view g known in
    let told = told_of g [] (before ++ record { took = took; is_tick = at_tick; said = [] } ∷ []) in
    let moments = moments_of g [] (before ++ record { took = took; is_tick = at_tick; said = [] } ∷ []) in
    let now = ticks_of told in
    let waiting = wait g v (reach g (ordered_run g facts)) moments in
    let gifts = gift_due g me known facts (answered_in before) took now in
    by_rules live (requests_due g me (taken_at before took) said (numbers_below g.clients))
    (requests_in_turn_due g me (taken_at before took) (executed g known) said (numbers_below g.clients)
    ++ request_again_due g me known said now at_tick)
    ++ by_rules live (acks_due g known said) (acks_in_turn_due g known said ++ acks_again_due g known said now at_tick)
    ++ by_rules live (summaries_due g known said at_tick)
    (summary_again_due g facts said now at_tick ++ summaries_due g known said at_tick)
    ++ by_rules live (preprepares_due g me known facts said at_tick)
    (whole_preprepares_due g me known facts said at_tick)
    ++ by_rules live (prepares_due g facts said v (is_open g known)) (worthy_prepares_due g facts said v (is_open g known))
    ++ commits_due g facts said v
    ++ by_rules live (pings_due now at_tick) []
    ++ by_rules live (pongs_due g me known said) []
    ++ by_rules live (round_trips_due g me known said now) []
    ++ by_rules live (tat_reports_due said v (waited v told) at_tick) []
    ++ by_rules live (tat_bounds_due g me known said v at_tick) []
    ++ by_rules live (suspects_due g known said v at_tick) (votes_due g known said v waiting now at_tick)
    ++ report_due g known said (stable g facts) (marks_for g facts (stable g facts)) (certificates_below g facts v)
    ++ new_view_due g me known said
    ++ by_rules live (ask_update_due said at_tick (waiting_for g known))
    (update_asks_due g known facts said moments now at_tick)
    ++ by_rules live (gives_due g me known said) (filter is_give gifts)
    ++ by_rules live (ask_order_due said at_tick (gap_of g facts))
    (order_asks_due g facts said v (is_open g known) waiting now at_tick)
    ++ by_rules live (gives_ordered_due g me known facts said) (filter is_order_given gifts)
    ++ vouchers_due g orders known said
    ++ marks_due g facts said

-- the same by the rules that the group goes by
unfoldable pub answers : Group → (List Update → ℕ → List Order) → ℕ → List Heard → Option (Signed Body) → Bool → List Body
answers g orders me before took at_tick = answers_by (is_live g) g orders me before took at_tick
