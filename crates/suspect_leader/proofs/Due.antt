-- What is due, and what it changes once it was said.
use Rattle.std.proofs.Common.{◌≡◌, ℕ, ◌%◌, Bool, true, false, cond, ◌&&◌, ◌||◌, not, List, [], ◌∷◌, ◌++◌, Option}
use Rattle.std.proofs.Common.{Some, None, nat_eq, nat_lt, refl, sym, ◌∙◌, ap}
use Rattle.std.specs.List.{list_any, filter_map}
use Rattle.std.proofs.lemmas.List.{append_assoc}
use Rattle.std.proofs.lemmas.List.Folds.{list_any-append}
use Rattle.message_types.specs.declared.signed.Signed.{Signed}
use Rattle.message_types.specs.declared.body.Body.{Body}
use Rattle.message_types.specs.declared.body.Body.TheVariants as body
use Rattle.protocol_rules.specs.Group.{Group, most_view}
use Rattle.protocol_rules.specs.Measures.{Told, ticks_of, waited, ping_in, pong_in, pongs_said, round_trips_said}
use Rattle.protocol_rules.specs.Measures.{tat_reports_said, own_bound, acceptable, pings_due, pongs_due}
use Rattle.protocol_rules.specs.Measures.{round_trips_due, tat_reports_due, tat_bounds_due, suspects_due}
use Rattle.suspect_leader.specs.declared.saying.Saying.{Saying}
use Rattle.suspect_leader.specs.declared.saying.Saying.TheVariants.{Ping, Pong, RoundTrip, Report, Bound, Vote}
use Rattle.suspect_leader.specs.Sayings.{says, is_among, is_pending}
use Rattle.suspect_leader.specs.MeasureState.{MeasureState, IsMeasureOf, waited_in, answer_to, measures_due}
use Rattle.suspect_leader.specs.MeasureState.{turnaround_kept, acceptable_kept, report_due_kept, bound_due_kept}
use Rattle.suspect_leader.specs.MeasureState.{vote_due_kept, due_kept}
use Rattle.suspect_leader.proofs.Order.{Rising}
use Rattle.suspect_leader.proofs.Masters.{turnaround_is, acceptable_is, own_bound_is}
use Rattle.suspect_leader.proofs.Owed.{answers_are}
use Rattle.suspect_leader.proofs.Taken.{measured}

reports_are : (g : Group) (me : ℕ) (kept : MeasureState) (told : List Told) (known : List (Signed Body))
    (said : List Body) (v : ℕ) (at_tick : Bool) → IsMeasureOf g me kept told known said →
    report_due_kept kept v at_tick ≡ tat_reports_due said v (waited v told) at_tick
reports_are g me kept told known said v at_tick is =
    ap (λ b. cond (at_tick && nat_lt 0 (waited_in kept v) && nat_eq (waited_in kept v % 8) 0 && not b)
    (body.TatReport record { v = v; ticks = waited_in kept v } ∷ []) []) (is.counted (Report v (waited_in kept v)))
    ∙ ap (λ w. cond (at_tick && nat_lt 0 w && nat_eq (w % 8) 0 && not (list_any (tat_reports_said v w) said))
    (body.TatReport record { v = v; ticks = w } ∷ []) []) (is.waiting v)

bounds_are : (g : Group) (me : ℕ) (kept : MeasureState) (told : List Told) (known : List (Signed Body))
    (said : List Body) (v : ℕ) (at_tick : Bool) → IsMeasureOf g me kept told known said →
    bound_due_kept kept v at_tick ≡ tat_bounds_due g me known said v at_tick
bounds_are g me kept told known said v at_tick is =
    ap (λ (o : Option ℕ). elim o [
      | Some bound ↦ cond (at_tick && not (is_among kept.said (Bound v)))
          (body.TatBound record { v = v; ticks = bound } ∷ []) []
      | None ↦ []
    ])
    (own_bound_is g me kept told known said is)
    ∙ ap (λ (b : Bool). elim (own_bound g me known)
    [ Some bound ↦ cond (at_tick && not b) (body.TatBound record { v = v; ticks = bound } ∷ []) [] | None ↦ [] ])
    (is.counted (Bound v))

votes_are : (g : Group) (me : ℕ) (kept : MeasureState) (told : List Told) (known : List (Signed Body))
    (said : List Body) (v : ℕ) (at_tick : Bool) → IsMeasureOf g me kept told known said →
    vote_due_kept kept v at_tick ≡ suspects_due g known said v at_tick
unfolding most_view
votes_are g me kept told known said v at_tick is =
    ap (λ b. cond (at_tick && nat_lt v 255 && nat_lt (acceptable_kept kept v) (turnaround_kept kept v) && not b)
    (body.Suspect record { v = v } ∷ []) []) (is.counted (Vote v))
    ∙ ap (λ x. cond (at_tick && nat_lt v 255 && nat_lt x (turnaround_kept kept v)
    && not (list_any (says (Vote v)) said)) (body.Suspect record { v = v } ∷ []) [])
    (acceptable_is g me kept told known said v is)
    ∙ ap (λ x. cond (at_tick && nat_lt v 255 && nat_lt (acceptable g known v) x
    && not (list_any (says (Vote v)) said)) (body.Suspect record { v = v } ∷ []) [])
    (turnaround_is g me kept told known said v is)

joined : (a a' b p t r r' d d' v v' : List Body) → a ≡ a' → b ≡ p ++ t → r ≡ r' → d ≡ d' → v ≡ v' →
    a ++ b ++ r ++ d ++ v ≡ a' ++ p ++ t ++ r' ++ d' ++ v'
joined a a' b p t r r' d d' v v' one two three four five =
    ap (λ x. x ++ b ++ r ++ d ++ v) one ∙ ap (λ x. a' ++ x ++ r ++ d ++ v) two
    ∙ ap (λ x. a' ++ (p ++ t) ++ x ++ d ++ v) three ∙ ap (λ x. a' ++ (p ++ t) ++ r' ++ x ++ v) four
    ∙ ap (λ x. a' ++ (p ++ t) ++ r' ++ d' ++ x) five
    ∙ ap (λ x. x ++ r' ++ d' ++ v') (sym (append_assoc a' p t))

pub due_is : (g : Group) (me : ℕ) (kept : MeasureState) (told : List Told) (known : List (Signed Body))
    (said : List Body) (v : ℕ) (at_tick : Bool) → Rising kept.pending → IsMeasureOf g me kept told known said →
    due_kept kept v at_tick ≡ measures_due g me told known said v at_tick
due_is g me kept told known said v at_tick up is =
    joined (pings_due kept.ticks at_tick) (pings_due (ticks_of told) at_tick)
    (filter_map (answer_to kept.ticks kept.said) kept.pending) (pongs_due g me known said)
    (round_trips_due g me known said (ticks_of told))
    (report_due_kept kept v at_tick) (tat_reports_due said v (waited v told) at_tick) (bound_due_kept kept v at_tick)
    (tat_bounds_due g me known said v at_tick) (vote_due_kept kept v at_tick) (suspects_due g known said v at_tick)
    (ap (λ t. pings_due t at_tick) is.ticks)
    (answers_are g me known said kept.ticks kept.pending kept.said up is.pending is.counted
    ∙ ap (λ t. pongs_due g me known said ++ round_trips_due g me known said t) is.ticks)
    (reports_are g me kept told known said v at_tick is) (bounds_are g me kept told known said v at_tick is)
    (votes_are g me kept told known said v at_tick is)

or_swap : (a b : Bool) → (a || b) ≡ (b || a)
or_swap true true = refl
or_swap true false = refl
or_swap false true = refl
or_swap false false = refl

trip_less : (l a n m : Bool) → (not m && (l && a && not n)) ≡ (l && a && not (n || m))
trip_less false a n true = refl
trip_less false a n false = refl
trip_less true false n true = refl
trip_less true false n false = refl
trip_less true true true true = refl
trip_less true true true false = refl
trip_less true true false true = refl
trip_less true true false false = refl

owed_less : (l e a n m : Bool) → (not m && (l && e && a && not n)) ≡ (l && e && a && not (n || m))
owed_less false e a n true = refl
owed_less false e a n false = refl
owed_less true false a n true = refl
owed_less true false a n false = refl
owed_less true true a n m = trip_less true a n m

and_nothing : (b : Bool) → (not b && false) ≡ false
and_nothing true = refl
and_nothing false = refl

-- what was said isn't owed any longer
still_owed : (g : Group) (me : ℕ) (known : List (Signed Body)) (said bodies : List Body) (s : Saying) →
    (not (list_any (says s) bodies) && is_pending g me known said s) ≡ is_pending g me known (said ++ bodies) s
still_owed g me known said bodies (Pong to number) =
    owed_less (nat_lt to g.n) (not (nat_eq to me)) (list_any (nat_eq number) (filter_map (ping_in to) known))
    (list_any (pongs_said to number) said) (list_any (pongs_said to number) bodies)
    ∙ ap (λ b. nat_lt to g.n && not (nat_eq to me) && list_any (nat_eq number) (filter_map (ping_in to) known)
    && not b) (sym (list_any-append (pongs_said to number) said bodies))
still_owed g me known said bodies (RoundTrip to number) =
    trip_less (nat_lt to g.n) (list_any (nat_eq number) (filter_map (pong_in me to) known))
    (list_any (round_trips_said to number) said) (list_any (round_trips_said to number) bodies)
    ∙ ap (λ b. nat_lt to g.n && list_any (nat_eq number) (filter_map (pong_in me to) known) && not b)
    (sym (list_any-append (round_trips_said to number) said bodies))
still_owed g me known said bodies (Ping number) = and_nothing (list_any (says (Ping number)) bodies)
still_owed g me known said bodies (Report v ticks) = and_nothing (list_any (says (Report v ticks)) bodies)
still_owed g me known said bodies (Bound v) = and_nothing (list_any (says (Bound v)) bodies)
still_owed g me known said bodies (Vote v) = and_nothing (list_any (says (Vote v)) bodies)

pub all_said : (g : Group) (me : ℕ) (kept : MeasureState) (told : List Told) (known : List (Signed Body))
    (said bodies : List Body) (pending counted : List Saying)
    → ((s : Saying) → is_among counted s ≡ (list_any (says s) bodies || is_among kept.said s)) →
    ((s : Saying) → is_among pending s ≡ (not (list_any (says s) bodies) && is_among kept.pending s))
    → IsMeasureOf g me kept told known said →
    IsMeasureOf g me record kept { pending = pending; said = counted } told known (said ++ bodies)
all_said g me kept told known said bodies pending counted more less is =
    measured is.reports is.bounds is.trips
    (λ s. less s ∙ ap (λ b. not (list_any (says s) bodies) && b) (is.pending s)
    ∙ still_owed g me known said bodies s)
    (λ s. more s ∙ ap (λ b. list_any (says s) bodies || b) (is.counted s)
    ∙ or_swap (list_any (says s) bodies) (list_any (says s) said)
    ∙ sym (list_any-append (says s) said bodies)) is
