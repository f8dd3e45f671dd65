-- Rules that stay alive: what a master lacks and asks for, and what it gives. What isn't answered is asked for again at each
-- 16th tick, and whoever asks is answered within a share that grows with what there is to be had. (After Prime's
-- reconciliation; asking by name, the figures and the shares are this project's own.)
use Rattle.std.specs.Prelude.{ℕ, ◌+◌, ◌-◌, ◌*◌, ◌/◌, ◌%◌, Bool, false, ◌&&◌, ◌||◌, not, List, [], ◌∷◌, Option}
use Rattle.std.specs.Prelude.{Some, None, is_some, filter, length, map, max, min, reverse, sum, take, nat_eq}
use Rattle.std.specs.Prelude.{nat_lt, slice_index, if◌then◌else◌}
use Rattle.std.specs.List.{list_any, filter_map, flat_map}
use Rattle.message_types.specs.declared.signed.Signed.{Signed}
use Rattle.message_types.specs.declared.body.Body.{Body}
use Rattle.message_types.specs.declared.body.Body.TheVariants as body
use Rattle.quorum_sets.specs.Masters.{numbers_below}
use Rattle.protocol_rules.specs.declared.facts.OrderFact.{OrderFact}
use Rattle.protocol_rules.specs.declared.facts.OrderFact.TheVariants as fact
use Rattle.protocol_rules.specs.Words.{greatest_of, in_order, numbers_from}
use Rattle.protocol_rules.specs.Group.{Group, most_number}
use Rattle.protocol_rules.specs.Preorder.{certified, vector}
use Rattle.protocol_rules.specs.Matrix.{reach}
use Rattle.protocol_rules.specs.Order.{ordered, ordered_run, gapless, plan_known}
use Rattle.protocol_rules.specs.Execution.{Request}
use Rattle.protocol_rules.specs.Reconcile.{updates_asked, orders_asked, updates_given, orders_given}
use Rattle.protocol_rules.specs.Reconcile.{request_gift, order_gift}
use Rattle.protocol_rules.specs.Patience.{Moment, is_beat}
use Rattle.protocol_rules.specs.declared.limits.TheConstants.{LONG_WAIT, BLIND_STEP, SHOWN_STEP, MOST_NUMBERS_ASKED}
use Rattle.protocol_rules.specs.declared.limits.TheConstants.{MOST_REQUESTS_ASKED, FIRST_SHARE, SHARE_STEP, SHARE_OF_EACH}

-- the greatest number that the master committed or marked
abbrev pub reached_by : ℕ → OrderFact → Option ℕ
reached_by master (fact.Commit f) = if nat_eq f.signer master then Some f.body.s else None
reached_by master (fact.Mark f) = if nat_eq f.signer master then Some f.body.s else None
reached_by master _ = None

abbrev pub committed_to : List OrderFact → ℕ → ℕ
committed_to facts master = greatest_of (filter_map (reached_by master) facts)

-- how far f + 1 masters committed or marked numbers, of whom one is correct
abbrev pub some_committed_to : Group → List OrderFact → ℕ
some_committed_to g facts = slice_index (reverse (in_order (map (committed_to facts) (numbers_below g.n)))) g.f

-- the base of the plan of view v, where it is open
abbrev pub open_base : List OrderFact → ℕ → Bool → ℕ
open_base facts v is_open = if is_open then (elim (plan_known facts v) [ None ↦ 0 | Some plan ↦ plan.base ]) else 0

-- The next number is asked for without a sign that it is there: at each 128th tick, and once where the one before had to be
-- asked for.
abbrev pub is_blind_due : Group → List OrderFact → List Body → ℕ → Bool
is_blind_due g facts said now =
    nat_eq (now % BLIND_STEP) 0
    || list_any (orders_asked (gapless g facts)) said && not (list_any (orders_asked (gapless g facts + 1)) said)

-- how far a master wants numbers: where it has waited for more than 16 ticks, or its view's plan stands on what it lacks, as
-- far as others are
abbrev pub wanted_to : Group → List OrderFact → List Body → ℕ → Bool → ℕ → ℕ → ℕ
wanted_to g facts said v is_open waiting now =
    let base = open_base facts v is_open in
    let far = if nat_lt LONG_WAIT waiting || nat_lt (gapless g facts) base then max (some_committed_to g facts) base else 0 in
    max far (if nat_lt LONG_WAIT waiting || is_blind_due g facts said now then gapless g facts + 1 else 0)

-- the numbers that a master lacks, from the least on, at most 64
abbrev pub numbers_lacking : Group → List OrderFact → List Body → ℕ → Bool → ℕ → ℕ → List ℕ
numbers_lacking g facts said v is_open waiting now =
    filter (λ s. not (is_some (ordered g facts s)))
    (numbers_from (gapless g facts + 1)
    (min MOST_NUMBERS_ASKED (min (wanted_to g facts said v is_open waiting now) most_number - gapless g facts)))

-- it wasn't asked for yet, or it is a tick at which what isn't answered is asked for again
abbrev pub may_ask : List Body → ℕ → (Body → Bool) → Bool
may_ask said now such = is_beat now || not (list_any such said)

-- at a tick, asks for the numbers that are lacking
abbrev pub order_asks_due : Group → List OrderFact → List Body → ℕ → Bool → ℕ → ℕ → Bool → List Body
order_asks_due g facts said v is_open waiting now at_tick =
    if at_tick
    then map (λ s. body.AskOrder record { s = s })
    (filter (λ s. may_ask said now (orders_asked s)) (numbers_lacking g facts said v is_open waiting now))
    else []

-- the moments up to the last tick before the present one that is a multiple of 4, latest first; `now` ticks there were
abbrev pub before_fourth : ℕ → List Moment → List Moment
before_fourth now [] = []
before_fourth now (m ∷ earlier) =
    if m.is_tick && nat_eq (now % SHOWN_STEP) 0 then m ∷ earlier else before_fourth (if m.is_tick then now - 1 else now) earlier

-- what f + 1 summaries had certified at the last tick that is a multiple of 4, by master
abbrev pub shown_before : List Moment → ℕ → List ℕ
shown_before [] now = []
shown_before (m ∷ earlier) now =
    elim (before_fourth (if m.is_tick then now - 1 else now) earlier) [ [] ↦ [] | m ∷ _ ↦ m.shown ]

-- How far a master wants the requests of master j: as far as the ordered numbers make them eligible, and at each 4th tick as
-- far as f + 1 summaries had them four ticks before. `moments` ends with the present one.
abbrev pub requests_wanted_to : Group → List OrderFact → List Moment → ℕ → ℕ → ℕ
requests_wanted_to g facts moments now j =
    min most_number (max (reach g (ordered_run g facts) j)
    (if nat_eq (now % SHOWN_STEP) 0 then slice_index (shown_before (reverse moments) now) j else 0))

-- the requests of master j that a master lacks
abbrev pub requests_lacking_of : Group → List (Signed Body) → List OrderFact → List Moment → ℕ → ℕ → List Request
requests_lacking_of g known facts moments now j =
    filter_map (λ k. elim (certified g known j k) [ None ↦ Some record { j = j; k = k } | Some u ↦ None ])
    (numbers_from (vector g known j + 1) (requests_wanted_to g facts moments now j - vector g known j))

-- at a tick, asks for the requests that are lacking, by j and then k, at most 16
abbrev pub update_asks_due : Group → List (Signed Body) → List OrderFact → List Body → List Moment → ℕ → Bool → List Body
update_asks_due g known facts said moments now at_tick =
    if at_tick
    then map (λ r. body.AskUpdate record { j = r.j; k = r.k })
    (take MOST_REQUESTS_ASKED (filter (λ r. may_ask said now (updates_asked r.j r.k))
    (flat_map (requests_lacking_of g known facts moments now) (numbers_below g.n))))
    else []

-- what gives what was asked for
abbrev pub answers_ask : Body → Body → Bool
answers_ask asked word = elim asked [
  | body.AskUpdate b ↦ updates_given b.j b.k word
  | body.AskOrder b ↦ orders_given b.s word
  | _ ↦ false
]

-- the gift that a body asks for
abbrev pub gift_for : Group → List (Signed Body) → List OrderFact → Body → List Body
gift_for g known facts asked = elim asked [
  | body.AskUpdate b ↦ request_gift g known b.j b.k
  | body.AskOrder b ↦ order_gift g facts b.s
  | _ ↦ []
]

-- how many answers a master may have had from this one before it gets one more: 64, one for each 4 ticks, and four for each
-- number ordered and each request certified here
abbrev pub share : Group → List (Signed Body) → List OrderFact → ℕ → ℕ
share g known facts now =
    FIRST_SHARE + now / SHARE_STEP + SHARE_OF_EACH * (gapless g facts + sum (map (vector g known) (numbers_below g.n)))

-- What is given for the frame taken, where it is another master's ask within that master's share; `answered` are the masters
-- whose asks were answered before.
abbrev pub gift_due : Group → ℕ → List (Signed Body) → List OrderFact → List ℕ → Option (Signed Body) → ℕ → List Body
gift_due g me known facts answered None now = []
gift_due g me known facts answered (Some f) now =
    if nat_lt f.signer g.n && not (nat_eq f.signer me)
    && nat_lt (length (filter (nat_eq f.signer) answered)) (share g known facts now)
    then gift_for g known facts f.body else []
