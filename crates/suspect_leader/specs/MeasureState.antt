-- What a master keeps of the measures, and when it is what these events, words and bodies make of it.
use Rattle.std.specs.Prelude.{◌≡◌, ℕ, ◌+◌, ◌-◌, ◌*◌, ◌%◌, ◌<◌, Bool, true, false, ◌&&◌, ◌||◌, not, length, map}
use Rattle.std.specs.Prelude.{reverse, slice_index, List, [], ◌∷◌, ◌++◌, Option, Some, None, nat_eq, nat_lt, nat_le}
use Rattle.std.specs.Prelude.{unwrap_or, option_map, if◌then◌else◌}
use Rattle.std.specs.List.{list_any, filter_map, slice_index_or}
use Rattle.std.specs.List.Sorted.{IsStrictlySortedBy}
use Rattle.std.specs.BTreeSet.{insert_key}
use Rattle.message_types.specs.declared.signed.Signed.{Signed}
use Rattle.message_types.specs.declared.measures.Rtt.{Rtt}
use Rattle.message_types.specs.declared.body.Body.{Body}
use Rattle.message_types.specs.declared.body.Body.TheVariants as body
use Rattle.quorum_sets.specs.Masters.{numbers_below}
use Rattle.protocol_rules.specs.Words.{greatest_of, first_of_list, best_by, in_order, put_in_order}
use Rattle.protocol_rules.specs.Parts as part
use Rattle.protocol_rules.specs.Group.{Group}
use Rattle.protocol_rules.specs.declared.limits.TheConstants.{MOST_VIEW}
use Rattle.protocol_rules.specs.Places.{in_place}
use Rattle.protocol_rules.specs.Measures.{Told, ticks_of, waited, report_in, bound_in, round_trip_in, pings_due}
use Rattle.protocol_rules.specs.Measures.{pongs_due, round_trips_due, tat_reports_due, tat_bounds_due, suspects_due}
use Rattle.suspect_leader.specs.declared.saying.Saying.{Saying}
use Rattle.suspect_leader.specs.declared.saying.Saying.TheVariants.{Ping, Pong, RoundTrip, Report, Bound, Vote}
use Rattle.suspect_leader.specs.contracts.saying.SayingOrd.TheImpl.{cmp-value}
use Rattle.suspect_leader.specs.Sayings.{says, is_among, is_pending}

-- the group (whose clients don't matter here) and the master; the ticks, the view of the last event and the ticks
-- waited in it; by view and master the greatest report and the first bound; by master the latest round trip; the
-- answers owed, also those that can't be given yet, and what was said
pub record MeasureState : Type 0 where
  pub group : Group
  pub me : ℕ
  pub ticks : ℕ
  pub view : ℕ
  pub waited : ℕ
  pub reports : List ((ℕ × ℕ) × ℕ)
  pub bounds : List ((ℕ × ℕ) × ℕ)
  pub trips : List (Option Rtt)
  pub pending : List Saying
  pub said : List Saying

-- a list in rising order with others put in at their places
abbrev pub with_all : List Saying → List Saying → List Saying
with_all list [] = list
with_all list (s ∷ rest) = insert_key cmp-value.it (with_all list rest) s

-- the round trip to one of the n masters whose ping isn't among what was said: it can't be answered yet
abbrev pub is_early : ℕ → List Saying → Saying → Bool
is_early n said (RoundTrip to number) = nat_lt to n && not (is_among said (Ping number))
is_early n said _ = false

-- Some that were early stand among the pending ones now: all in all the same are owed, none is early that wasn't, and
-- the pending ones keep their order.
pub record IsMoved (pending early pending_now early_now : List Saying) : Type 0 where
  pub owed : (s : Saying) → (is_among early_now s || is_among pending_now s) ≡ (is_among early s || is_among pending s)
  pub fewer : (s : Saying) → is_among early_now s ≡ true → is_among early s ≡ true
  pub rising : IsStrictlySortedBy cmp-value.it pending → IsStrictlySortedBy cmp-value.it pending_now

-- what a table by view and master has
abbrev pub told_at : List ((ℕ × ℕ) × ℕ) → ℕ → ℕ → Option ℕ
told_at [] v master = None
told_at (e ∷ rest) v master = if nat_eq v e.0.0 && nat_eq master e.0.1 then Some e.1 else told_at rest v master

-- the ticks waited in a view
abbrev pub waited_in : MeasureState → ℕ → ℕ
waited_in kept v = if nat_eq v kept.view then kept.waited else 0

-- The measures of master `me` where it was told of these events, knows these words and said these bodies.
pub record IsMeasureOf (g : Group) (me : ℕ) (kept : MeasureState) (told : List Told) (known : List (Signed Body))
    (said : List Body) : Type 0 where
  pub masters : kept.group.n ≡ g.n
  pub intruded : kept.group.f ≡ g.f
  pub quorum : kept.group.q ≡ g.q
  pub own : kept.me ≡ me
  pub ticks : kept.ticks ≡ ticks_of told
  pub waiting : (v : ℕ) → waited_in kept v ≡ waited v told
  pub reports : (v master : ℕ) → master < g.n → unwrap_or (told_at kept.reports v master) 0 ≡ greatest_of
      (filter_map (report_in v master) known)
  pub bounds : (v master : ℕ) → master < g.n →
      told_at kept.bounds v master ≡ first_of_list (filter_map (bound_in v master) known)
  pub trips : (master : ℕ) → master < g.n →
      slice_index_or kept.trips master None ≡ best_by (λ a b. nat_lt b.number a.number)
      (filter_map (round_trip_in me master) known)
  pub pending : (s : Saying) → is_among kept.pending s ≡ is_pending g me known said s
  pub counted : (s : Saying) → is_among kept.said s ≡ list_any (says s) said

-- The measures learn a word: whatever the master was told, knew and said, they are the measures where this is known
-- too.
abbrev pub Learns : MeasureState → MeasureState → Signed Body → Type 0
Learns old new f = (g : Group) (me : ℕ) (told : List Told) →
    part.Learns (IsMeasureOf g me old told) (IsMeasureOf g me new told) (f ∷ [])

-- They say bodies.
abbrev pub Says : MeasureState → MeasureState → List Body → Type 0
Says old new bodies = (g : Group) (me : ℕ) (told : List Told) →
    part.Says (IsMeasureOf g me old told) (IsMeasureOf g me new told) bodies

-- They are told of an event.
abbrev pub IsTold : MeasureState → MeasureState → Told → Type 0
IsTold old new event =
    (g : Group) (me : ℕ) (told : List Told) (known : List (Signed Body)) (said : List Body) →
    IsMeasureOf g me old told known said → IsMeasureOf g me new (told ++ event ∷ []) known said

-- what holds of all that may be told, known and said where these are the measures
abbrev pub Where : MeasureState → (Group → ℕ → List Told → List (Signed Body) → List Body → Type 0) → Type 0
Where kept Holds =
    (g : Group) (me : ℕ) (told : List Told) (known : List (Signed Body)) (said : List Body) →
    IsMeasureOf g me kept told known said → Holds g me told known said

-- All that is due of these kinds at an event of which the master was told: `told` ends with it.
abbrev pub measures_due : Group → ℕ → List Told → List (Signed Body) → List Body → ℕ → Bool → List Body
measures_due g me told known said view at_tick =
    pings_due (ticks_of told) at_tick ++ pongs_due g me known said ++ round_trips_due g me known said (ticks_of told)
    ++ tat_reports_due said view (waited view told) at_tick ++ tat_bounds_due g me known said view at_tick
    ++ suspects_due g known said view at_tick

-- the body is in its place as a word of the master
abbrev pub is_word_in_place : Group → ℕ → Body → Bool
is_word_in_place g me word = in_place g record { signer = me; body = word; sig = [] }

-- the body that answers: a round trip only once its ping was said
abbrev pub answer_to : ℕ → List Saying → Saying → Option Body
answer_to ticks said (Pong to number) = Some (body.Pong record { to = to; number = number })
answer_to ticks said (RoundTrip to number) =
    if is_among said (Ping number) then Some
    (body.Rtt record { to = to; number = number; ticks = ticks - 16 * number }) else None
answer_to ticks said _ = None

-- the numbers, each put in order, the last first
abbrev pub put_each : List ℕ → List ℕ → List ℕ
put_each [] list = list
put_each (x ∷ rest) list = put_in_order x (put_each rest list)

-- the ticks of a round trip, 0 where there is none
abbrev pub ticks_in : Option Rtt → ℕ
ticks_in None = 0
ticks_in (Some b) = b.ticks

-- a round trip takes the place of the one held where its number is greater
abbrev pub later_of : Option Rtt → Rtt → Rtt
later_of None b = b
later_of (Some best) b = if nat_lt best.number b.number then b else best

-- the figure of another master's latest round trip, as the own bound has it
abbrev pub figure_of : Rtt → ℕ
figure_of b = 2 * b.ticks + 4

abbrev pub figure_at : MeasureState → ℕ → Option ℕ
figure_at kept master = if nat_eq master kept.me then None else option_map figure_of
    (slice_index_or kept.trips master None)

-- What the tables make of the figures that the votes rest on, of the own bound, and of what is due.
abbrev pub turnaround_kept : MeasureState → ℕ → ℕ
turnaround_kept kept v = slice_index
    (in_order (map (λ j. unwrap_or (told_at kept.reports v j) 0) (numbers_below kept.group.n))) kept.group.f

abbrev pub acceptable_kept : MeasureState → ℕ → ℕ
acceptable_kept kept v = slice_index
    (reverse (in_order (map (λ j. unwrap_or (told_at kept.bounds v j) 16) (numbers_below kept.group.n)))) kept.group.f

abbrev pub figures_kept : MeasureState → List ℕ
figures_kept kept = filter_map (figure_at kept) (numbers_below kept.group.n)

abbrev pub bound_kept : MeasureState → Option ℕ
bound_kept kept = if nat_le (kept.group.q - 1) (length (figures_kept kept)) then Some
    (slice_index (reverse (in_order (figures_kept kept))) kept.group.f) else None

abbrev pub report_due_kept : MeasureState → ℕ → Bool → List Body
report_due_kept kept v at_tick =
    if at_tick && nat_lt 0 (waited_in kept v) && nat_eq (waited_in kept v % 8) 0
    && not (is_among kept.said (Report v (waited_in kept v)))
    then body.TatReport record { v = v; ticks = waited_in kept v } ∷ []
    else []

abbrev pub bound_due_kept : MeasureState → ℕ → Bool → List Body
bound_due_kept kept v at_tick = elim (bound_kept kept) [
  | Some bound ↦ if at_tick && not (is_among kept.said (Bound v)) then body.TatBound record { v = v; ticks = bound }
      ∷ [] else []
  | None ↦ []
]

abbrev pub vote_due_kept : MeasureState → ℕ → Bool → List Body
vote_due_kept kept v at_tick =
    if at_tick && nat_lt v MOST_VIEW && nat_lt (acceptable_kept kept v) (turnaround_kept kept v)
    && not (is_among kept.said (Vote v))
    then body.Suspect record { v = v } ∷ []
    else []

abbrev pub due_kept : MeasureState → ℕ → Bool → List Body
due_kept kept v at_tick =
    pings_due kept.ticks at_tick ++ filter_map (answer_to kept.ticks kept.said) kept.pending
    ++ report_due_kept kept v at_tick
    ++ bound_due_kept kept v at_tick ++ vote_due_kept kept v at_tick
