-- How long the leader keeps a master waiting, in ticks, and the votes against it. (After Prime's turnaround times; the
-- figures, their bounds and that they are counted in ticks are this project's own.)
use Rattle.std.specs.Prelude.{ℕ, ◌+◌, ◌-◌, ◌*◌, ◌/◌, ◌%◌, Bool, false, ◌&&◌, not, List, [], ◌∷◌, Option, Some, None}
use Rattle.std.specs.Prelude.{length, filter, map, reverse, unwrap_or, nat_eq, nat_lt, nat_le, slice_index}
use Rattle.std.specs.Prelude.{if◌then◌else◌}
use Rattle.std.specs.List.{list_any, filter_map, flat_map}
use Rattle.message_types.specs.declared.signed.Signed.{Signed}
use Rattle.message_types.specs.declared.measures.Rtt.{Rtt}
use Rattle.message_types.specs.declared.body.Body.{Body}
use Rattle.message_types.specs.declared.body.Body.TheVariants as body
use Rattle.quorum_sets.specs.Masters.{numbers_below}
use Rattle.protocol_rules.specs.Words.{first_of_list, greatest_of, best_by, in_order, each_once}
use Rattle.protocol_rules.specs.Group.{Group, most_view}

-- of one event: whether it was a tick, the view at it, and whether the master then waited for the leader
pub record Told : Type 0 where
  pub is_tick : Bool
  pub view : ℕ
  pub waits : Bool

-- how many ticks there were
abbrev pub ticks_of : List Told → ℕ
ticks_of told = length (filter (λ e. e.is_tick) told)

-- the ticks of the events, latest first, up to the first at which the master didn't wait or the view was another
abbrev pub ticks_while_waiting : ℕ → List Told → ℕ
ticks_while_waiting v [] = 0
ticks_while_waiting v (e ∷ earlier) =
    if e.waits && nat_eq e.view v then (if e.is_tick then 1 else 0) + ticks_while_waiting v earlier else 0

-- how long the master has waited in view v
abbrev pub waited : ℕ → List Told → ℕ
waited v told = ticks_while_waiting v (reverse told)

-- the greatest tatreport of the master for view v, 0 where none is known
abbrev pub report_in : ℕ → ℕ → Signed Body → Option ℕ
report_in v master f = elim f.body [
  | body.TatReport b ↦ if nat_eq f.signer master
      && nat_eq b.v v then Some b.ticks else None
  | _ ↦ None
]

-- the master's first known tatbound for view v, 16 where none is known
abbrev pub bound_in : ℕ → ℕ → Signed Body → Option ℕ
bound_in v master f = elim f.body [
  | body.TatBound b ↦ if nat_eq f.signer master
      && nat_eq b.v v then Some b.ticks else None
  | _ ↦ None
]

-- how long the leader of view v takes: the (f + 1)st lowest of the masters' greatest reports
unfoldable pub turnaround : Group → List (Signed Body) → ℕ → ℕ
turnaround g known v = slice_index
    (in_order (map (λ master. greatest_of (filter_map (report_in v master) known)) (numbers_below g.n))) g.f

-- how long it may take: the (f + 1)st highest of the masters' first bounds
unfoldable pub acceptable : Group → List (Signed Body) → ℕ → ℕ
acceptable g known v = slice_index
    (reverse (in_order (map (λ master. unwrap_or (first_of_list (filter_map (bound_in v master) known)) 16)
    (numbers_below g.n)))) g.f

-- the round trip that the master told of its pings to `me`
abbrev pub round_trip_in : ℕ → ℕ → Signed Body → Option Rtt
round_trip_in me master f =
    elim f.body [ body.Rtt b ↦ if nat_eq f.signer master && nat_eq b.to me then Some b else None | _ ↦ None ]

-- of each other master the figure of its latest round trip to `me`
abbrev pub round_trips : Group → ℕ → List (Signed Body) → List ℕ
round_trips g me known =
    map (λ b. 2 * b.ticks + 4)
    (filter_map (λ master. best_by (λ a b. nat_lt b.number a.number) (filter_map (round_trip_in me master) known))
    (filter (λ master. not (nat_eq master me)) (numbers_below g.n)))

-- the master's own bound: the (f + 1)st highest figure, once q - 1 others have one
unfoldable pub own_bound : Group → ℕ → List (Signed Body) → Option ℕ
own_bound g me known =
    if nat_le (g.q - 1) (length (round_trips g me known)) then Some
    (slice_index (reverse (in_order (round_trips g me known))) g.f) else None

-- the numbers of the master's known pings, and of its known pongs to `me`, each once, rising
abbrev pub ping_in : ℕ → Signed Body → Option ℕ
ping_in master f = elim f.body [ body.Ping b ↦ if nat_eq f.signer master then Some b.number else None | _ ↦ None ]

abbrev pub pong_in : ℕ → ℕ → Signed Body → Option ℕ
pong_in me master f = elim f.body [
  | body.Pong b ↦ if nat_eq f.signer master
      && nat_eq b.to me then Some b.number else None
  | _ ↦ None
]

-- what was said already
abbrev pub pings_said : ℕ → Body → Bool
pings_said number word = elim word [ body.Ping b ↦ nat_eq b.number number | _ ↦ false ]

abbrev pub pongs_said : ℕ → ℕ → Body → Bool
pongs_said to number word = elim word [ body.Pong b ↦ nat_eq b.to to && nat_eq b.number number | _ ↦ false ]

abbrev pub round_trips_said : ℕ → ℕ → Body → Bool
round_trips_said to number word = elim word [ body.Rtt b ↦ nat_eq b.to to && nat_eq b.number number | _ ↦ false ]

abbrev pub tat_reports_said : ℕ → ℕ → Body → Bool
tat_reports_said v ticks word = elim word [ body.TatReport b ↦ nat_eq b.v v && nat_eq b.ticks ticks | _ ↦ false ]

abbrev pub tat_bounds_said : ℕ → Body → Bool
tat_bounds_said v word = elim word [ body.TatBound b ↦ nat_eq b.v v | _ ↦ false ]

abbrev pub suspects_said : ℕ → Body → Bool
suspects_said v word = elim word [ body.Suspect b ↦ nat_eq b.v v | _ ↦ false ]

-- every 16 ticks a ping, numbered by them; `ticks` counts the present one
abbrev pub pings_due : ℕ → Bool → List Body
pings_due ticks at_tick = if at_tick && nat_eq (ticks % 16) 0 then body.Ping record { number = ticks / 16 } ∷ [] else []

-- a pong for each known ping of another master
abbrev pub pongs_due_to : List (Signed Body) → List Body → ℕ → List Body
pongs_due_to known said master =
    map (λ number. body.Pong record { to = master; number = number })
    (filter (λ number. not (list_any (pongs_said master number) said))
    (each_once (in_order (filter_map (ping_in master) known))))

abbrev pub pongs_due : Group → ℕ → List (Signed Body) → List Body → List Body
pongs_due g me known said =
    flat_map (pongs_due_to known said) (filter (λ master. not (nat_eq master me)) (numbers_below g.n))

-- the round trip of each known pong to `me` of a ping that was said
abbrev pub round_trips_due_from : ℕ → List (Signed Body) → List Body → ℕ → ℕ → List Body
round_trips_due_from me known said ticks master =
    map (λ number. body.Rtt record { to = master; number = number; ticks = ticks - 16 * number })
    (filter (λ number. list_any (pings_said number) said && not (list_any (round_trips_said master number) said))
    (each_once (in_order (filter_map (pong_in me master) known))))

abbrev pub round_trips_due : Group → ℕ → List (Signed Body) → List Body → ℕ → List Body
round_trips_due g me known said ticks = flat_map (round_trips_due_from me known said ticks) (numbers_below g.n)

-- at each 8th tick of waiting, how long it has been
abbrev pub tat_reports_due : List Body → ℕ → ℕ → Bool → List Body
tat_reports_due said v waiting at_tick =
    if at_tick && nat_lt 0 waiting && nat_eq (waiting % 8) 0 && not (list_any (tat_reports_said v waiting) said)
    then body.TatReport record { v = v; ticks = waiting } ∷ []
    else []

-- once in a view, the master's own bound
abbrev pub tat_bounds_due : Group → ℕ → List (Signed Body) → List Body → ℕ → Bool → List Body
tat_bounds_due g me known said v at_tick = elim (own_bound g me known) [
  | Some bound ↦ if at_tick && not (list_any (tat_bounds_said v) said) then body.TatBound record {
    v =
        v;
    ticks = bound;
  } ∷ [] else []
  | None ↦ []
]

-- a vote against a leader that takes longer than is acceptable
abbrev pub suspects_due : Group → List (Signed Body) → List Body → ℕ → Bool → List Body
suspects_due g known said v at_tick =
    if at_tick && nat_lt v most_view && nat_lt (acceptable g known v) (turnaround g known v)
    && not (list_any (suspects_said v) said)
    then body.Suspect record { v = v } ∷ []
    else []
