-- What a word known changes.
use Rattle.std.proofs.Common.{◌≡◌, ℕ, ◌<◌, ◌≤◌, Bool, true, false, cond, ◌&&◌, ◌||◌, not, List, [], ◌∷◌, ◌++◌, Option}
use Rattle.std.proofs.Common.{Some, None, filter, max, nat_eq, nat_lt, length, get_or, set, get_or-set_same}
use Rattle.std.proofs.Common.{get_or-set_other, refl, sym, ◌∙◌, ap, subst, arith}
use Rattle.std.specs.List.{list_any, filter_map, cons_option, slice_index_or}
use Rattle.std.specs.Option.{unwrap_or}
use Rattle.std.proofs.lemmas.Bool.{and_parts, not-true, eqb-true, eqb-false, eq-eqb, ltb-true, true≢false}
use Rattle.std.proofs.lemmas.List.Folds.{list_any-append}
use Rattle.message_types.specs.declared.signed.Signed.{Signed}
use Rattle.message_types.specs.declared.measures.Ping.{Ping as PingWord}
use Rattle.message_types.specs.declared.measures.Pong.{Pong as PongWord}
use Rattle.message_types.specs.declared.measures.Rtt.{Rtt}
use Rattle.message_types.specs.declared.measures.TatReport.{TatReport}
use Rattle.message_types.specs.declared.measures.TatBound.{TatBound}
use Rattle.message_types.specs.declared.body.Body.{Body}
use Rattle.message_types.specs.declared.body.Body.TheVariants as body
use Rattle.protocol_rules.specs.Words.{greatest_of, first_of_list, best_by, or_else}
use Rattle.protocol_rules.specs.Group.{Group}
use Rattle.protocol_rules.specs.Measures.{Told, report_in, bound_in, round_trip_in, ping_in, pong_in, pongs_said}
use Rattle.protocol_rules.specs.Measures.{round_trips_said}
use Rattle.suspect_leader.specs.declared.heard.Heard.{Heard}
use Rattle.suspect_leader.specs.declared.heard.Heard.TheVariants as heard
use Rattle.suspect_leader.specs.declared.saying.Saying.{Saying}
use Rattle.suspect_leader.specs.declared.saying.Saying.TheVariants.{Ping, Pong, RoundTrip, Report, Bound, Vote}
use Rattle.suspect_leader.specs.Sayings.{heard_in, is_measure, says, same_saying, is_among, is_pending}
use Rattle.suspect_leader.specs.MeasureState.{MeasureState, IsMeasureOf, told_at, later_of}
use Rattle.suspect_leader.proofs.Words.{told_after, same_after, greatest_if, first_more, best_more, later_trip}
use Rattle.plain_lists.proofs.Booleans.{nat_eq-flipped}

-- the word tells nothing of a master of the group that counts
pub record IsSilent (me master : ℕ) (f : Signed Body) : Type 0 where
  pub report : (v : ℕ) → report_in v master f ≡ None
  pub bound : (v : ℕ) → bound_in v master f ≡ None
  pub trip : round_trip_in me master f ≡ None
  pub ping : nat_eq master me ≡ false → ping_in master f ≡ None
  pub pong : pong_in me master f ≡ None

-- What the tables, the answers owed and the sayings counted have to be where these words are known and these bodies
-- were said.
abbrev Reports : Group → List (Signed Body) → List ((ℕ × ℕ) × ℕ) → Type 0
Reports g known reports = (v master : ℕ) → master < g.n →
    unwrap_or (told_at reports v master) 0 ≡ greatest_of (filter_map (report_in v master) known)

abbrev Bounds : Group → List (Signed Body) → List ((ℕ × ℕ) × ℕ) → Type 0
Bounds g known bounds = (v master : ℕ) → master < g.n →
    told_at bounds v master ≡ first_of_list (filter_map (bound_in v master) known)

abbrev Trips : Group → ℕ → List (Signed Body) → List (Option Rtt) → Type 0
Trips g me known trips = (master : ℕ) → master < g.n →
    slice_index_or trips master None ≡ best_by later_trip (filter_map (round_trip_in me master) known)

abbrev Owed : Group → ℕ → List (Signed Body) → List Body → List Saying → Type 0
Owed g me known said pending = (s : Saying) → is_among pending s ≡ is_pending g me known said s

abbrev Counted : List Body → List Saying → Type 0
Counted said counted = (s : Saying) → is_among counted s ≡ list_any (says s) said

-- the same measures but for these
pub measured : {g : Group} {me : ℕ} {kept : MeasureState} {told : List Told} {known words : List (Signed Body)}
    {said bodies : List Body} {reports bounds : List ((ℕ × ℕ) × ℕ)} {trips : List (Option Rtt)}
    {pending counted : List Saying}
    → Reports g words reports → Bounds g words bounds → Trips g me words trips → Owed g me words bodies pending
    → Counted bodies counted → IsMeasureOf g me kept told known said
    → IsMeasureOf g me
    record kept { reports = reports; bounds = bounds; trips = trips; pending = pending; said = counted }
    told words bodies
measured of_reports of_bounds of_trips of_owed of_counted is = record {
  masters = is.masters;
  intruded = is.intruded;
  quorum = is.quorum;
  own = is.own;
  ticks = is.ticks;
  waiting = is.waiting;
  reports = of_reports;
  bounds = of_bounds;
  trips = of_trips;
  pending = of_owed;
  counted = of_counted;
}

-- what a word leaves of which it tells nothing
reports_stay : {g : Group} {me : ℕ} {kept : MeasureState} {told : List Told} {known : List (Signed Body)}
    {said : List Body} (f : Signed Body) → ((v master : ℕ) → master < g.n → report_in v master f ≡ None)
    → IsMeasureOf g me kept told known said → Reports g (known ++ f ∷ []) kept.reports
reports_stay {known = known} f none is = λ v master lt.
    is.reports v master lt ∙ ap greatest_of (sym (same_after (report_in v master) known f (none v master lt)))

bounds_stay : {g : Group} {me : ℕ} {kept : MeasureState} {told : List Told} {known : List (Signed Body)}
    {said : List Body} (f : Signed Body) → ((v master : ℕ) → master < g.n → bound_in v master f ≡ None)
    → IsMeasureOf g me kept told known said → Bounds g (known ++ f ∷ []) kept.bounds
bounds_stay {known = known} f none is = λ v master lt.
    is.bounds v master lt ∙ ap first_of_list (sym (same_after (bound_in v master) known f (none v master lt)))

trips_stay : {g : Group} {me : ℕ} {kept : MeasureState} {told : List Told} {known : List (Signed Body)}
    {said : List Body} (f : Signed Body) → ((master : ℕ) → master < g.n → round_trip_in me master f ≡ None)
    → IsMeasureOf g me kept told known said → Trips g me (known ++ f ∷ []) kept.trips
trips_stay {me = me} {known = known} f none is = λ master lt.
    is.trips master lt ∙ ap (best_by later_trip) (sym (same_after (round_trip_in me master) known f (none master lt)))

-- a number that is asked for, and wasn't given: the same where the same are asked for, and with one more
same_asked : (may given : Bool) (number : ℕ) (old new : List ℕ) → (may ≡ true → new ≡ old) →
    (may && list_any (nat_eq number) old && not given) ≡ (may && list_any (nat_eq number) new && not given)
same_asked true given number old new same = ap (λ l. list_any (nat_eq number) l && not given) (sym (same refl))
same_asked false given number old new same = refl

one_asked : (may given : Bool) (one number : ℕ) (old new : List ℕ) → may ≡ true → new ≡ old ++ one ∷ [] →
    (nat_eq one number && not given || may && list_any (nat_eq number) old && not given)
    ≡ (may && list_any (nat_eq number) new && not given)
one_asked may given one number old new on more =
    ap (λ b. nat_eq one number && not given || b && list_any (nat_eq number) old && not given) on
    ∙ ap (λ b. b && not given || list_any (nat_eq number) old && not given) (nat_eq-flipped one number)
    ∙ either (list_any (nat_eq number) old) (nat_eq number one) (not given)
    ∙ sym (ap (λ b. b && list_any (nat_eq number) new && not given) on
    ∙ ap (λ l. list_any (nat_eq number) l && not given) more
    ∙ ap (λ b. b && not given) (list_any-append (nat_eq number) old (one ∷ [])))
  where
    either : (a o n : Bool) → (o && n || a && n) ≡ ((a || (o || false)) && n)
    either true true true = refl
    either true true false = refl
    either true false n = refl
    either false true true = refl
    either false true false = refl
    either false false n = refl

trip_same : (g : Group) (me : ℕ) (known : List (Signed Body)) (said : List Body) (f : Signed Body) (to number : ℕ) →
    (to < g.n → pong_in me to f ≡ None) →
    is_pending g me known said (RoundTrip to number) ≡ is_pending g me (known ++ f ∷ []) said (RoundTrip to number)
trip_same g me known said f to number pongs =
    same_asked (nat_lt to g.n) (list_any (round_trips_said to number) said) number (filter_map (pong_in me to) known)
    (filter_map (pong_in me to) (known ++ f ∷ []))
    (λ e. same_after (pong_in me to) known f (pongs (ltb-true to g.n e)))

pong_same : (g : Group) (me : ℕ) (known : List (Signed Body)) (said : List Body) (f : Signed Body) (to number : ℕ) →
    (to < g.n → nat_eq to me ≡ false → ping_in to f ≡ None) →
    is_pending g me known said (Pong to number) ≡ is_pending g me (known ++ f ∷ []) said (Pong to number)
pong_same g me known said f to number pings =
    same_asked (nat_lt to g.n && not (nat_eq to me)) (list_any (pongs_said to number) said) number
    (filter_map (ping_in to) known) (filter_map (ping_in to) (known ++ f ∷ []))
    (λ e. let both : (nat_lt to g.n ≡ true) × (not (nat_eq to me) ≡ true) =
    and_parts (nat_lt to g.n) (not (nat_eq to me)) e in
    same_after (ping_in to) known f (pings (ltb-true to g.n both.0) (not-true (nat_eq to me) both.1)))

owed_stays : {g : Group} {me : ℕ} {kept : MeasureState} {told : List Told} {known : List (Signed Body)}
    {said : List Body} (f : Signed Body) → ((to : ℕ) → to < g.n → nat_eq to me ≡ false → ping_in to f ≡ None) →
    ((to : ℕ) → to < g.n → pong_in me to f ≡ None)
    → IsMeasureOf g me kept told known said → Owed g me (known ++ f ∷ []) said kept.pending
owed_stays {g} {me} {kept} {told} {known} {said} f pings pongs is = λ s. is.pending s ∙ same s
  where
    same : (s : Saying) → is_pending g me known said s ≡ is_pending g me (known ++ f ∷ []) said s
    same (Pong to number) = pong_same g me known said f to number (pings to)
    same (RoundTrip to number) = trip_same g me known said f to number (pongs to)
    same (Ping number) = refl
    same (Report v ticks) = refl
    same (Bound v) = refl
    same (Vote v) = refl

pub passed : (g : Group) (me : ℕ) (kept : MeasureState) (told : List Told) (known : List (Signed Body))
    (said : List Body) (f : Signed Body)
    → ((master : ℕ) → master < g.n → IsSilent me master f)
    → IsMeasureOf g me kept told known said → IsMeasureOf g me kept told (known ++ f ∷ []) said
passed g me kept told known said f silent is =
    measured (reports_stay f (λ v master lt. (silent master lt).report v) is)
    (bounds_stay f (λ v master lt. (silent master lt).bound v) is)
    (trips_stay f (λ master lt. (silent master lt).trip) is)
    (owed_stays f (λ to lt. (silent to lt).ping) (λ to lt. (silent to lt).pong) is) is.counted is

-- a word of another kind
no_ping : (master : ℕ) (f : Signed Body) → heard_in f.body ≡ None → ping_in master f ≡ None
no_ping master f = elim f.body as (λ w. heard_in w ≡ None → ping_in master record f { body = w } ≡ None)
    [ body.Ping b ↦ λ e. absurd (cc) | _ ↦ λ e. refl ]

pub kind_silent : (me master : ℕ) (f : Signed Body) → heard_in f.body ≡ None → IsSilent me master f
kind_silent me master f none = record {
  report = λ v. at_report v f.body none;
  bound = λ v. at_bound v f.body none;
  trip = at_trip f.body none;
  ping = λ _. no_ping master f none;
  pong = at_pong f.body none;
}
  where
    at_report : (v : ℕ) (word : Body) → heard_in word ≡ None → report_in v master record f { body = word } ≡ None
    at_report v word = elim word as (λ w. heard_in w ≡ None → report_in v master record f { body = w } ≡ None)
        [ body.TatReport b ↦ λ e. absurd (cc) | _ ↦ λ e. refl ]

    at_bound : (v : ℕ) (word : Body) → heard_in word ≡ None → bound_in v master record f { body = word } ≡ None
    at_bound v word = elim word as (λ w. heard_in w ≡ None → bound_in v master record f { body = w } ≡ None)
        [ body.TatBound b ↦ λ e. absurd (cc) | _ ↦ λ e. refl ]

    at_trip : (word : Body) → heard_in word ≡ None → round_trip_in me master record f { body = word } ≡ None
    at_trip word = elim word as (λ w. heard_in w ≡ None → round_trip_in me master record f { body = w } ≡ None)
        [ body.Rtt b ↦ λ e. absurd (cc) | _ ↦ λ e. refl ]

    at_pong : (word : Body) → heard_in word ≡ None → pong_in me master record f { body = word } ≡ None
    at_pong word = elim word as (λ w. heard_in w ≡ None → pong_in me master record f { body = w } ≡ None)
        [ body.Pong b ↦ λ e. absurd (cc) | _ ↦ λ e. refl ]

-- a word of one who is no master of the group
pub stranger_silent : (me master : ℕ) (f : Signed Body) → nat_eq f.signer master ≡ false → IsSilent me master f
stranger_silent me master f other = record {
  report = λ v. at_report v f.body;
  bound = λ v. at_bound v f.body;
  trip = at_trip f.body;
  ping = λ _. at_ping f.body;
  pong = at_pong f.body;
}
  where
    no : {Y : Type 0} (b : Bool) (y : Y) → cond (nat_eq f.signer master && b) (Some y) None ≡ None
    no b y = ap (λ t. cond (t && b) (Some y) None) other

    at_report : (v : ℕ) (word : Body) → report_in v master record f { body = word } ≡ None
    at_report v word = elim word as (λ w. report_in v master record f { body = w } ≡ None)
        [ body.TatReport b ↦ no (nat_eq b.v v) b.ticks | _ ↦ refl ]

    at_bound : (v : ℕ) (word : Body) → bound_in v master record f { body = word } ≡ None
    at_bound v word = elim word as (λ w. bound_in v master record f { body = w } ≡ None)
        [ body.TatBound b ↦ no (nat_eq b.v v) b.ticks | _ ↦ refl ]

    at_trip : (word : Body) → round_trip_in me master record f { body = word } ≡ None
    at_trip word = elim word as (λ w. round_trip_in me master record f { body = w } ≡ None)
        [ body.Rtt b ↦ no (nat_eq b.to me) b | _ ↦ refl ]

    at_ping : (word : Body) → ping_in master record f { body = word } ≡ None
    at_ping word = elim word as (λ w. ping_in master record f { body = w } ≡ None)
        [ body.Ping b ↦ ap (λ t. cond t (Some b.number) None) other | _ ↦ refl ]

    at_pong : (word : Body) → pong_in me master record f { body = word } ≡ None
    at_pong word = elim word as (λ w. pong_in me master record f { body = w } ≡ None)
        [ body.Pong b ↦ no (nat_eq b.to me) b.number | _ ↦ refl ]

below_isnt : (signer master n : ℕ) → n ≤ signer → master < n → nat_eq signer master ≡ false
below_isnt signer master n le lt = at (nat_eq signer master) refl
  where
    at : (b : Bool) → nat_eq signer master ≡ b → b ≡ false
    at false e = refl
    at true e = let same : signer ≡ master = eqb-true signer master e in absurd (omega (arith, same))

pub stranger_passed : (g : Group) (me : ℕ) (kept : MeasureState) (told : List Told) (known : List (Signed Body))
    (said : List Body) (f : Signed Body) (n : ℕ)
    → n ≡ kept.group.n → n ≤ f.signer
    → IsMeasureOf g me kept told known said → IsMeasureOf g me kept told (known ++ f ∷ []) said
stranger_passed g me kept told known said f n same above is =
    passed g me kept told known said f
    (λ master lt. stranger_silent me master f
    (below_isnt f.signer master g.n (subst (λ m. m ≤ f.signer) (same ∙ is.masters) above) lt)) is

pub kind_passed : (g : Group) (me : ℕ) (kept : MeasureState) (told : List Told) (known : List (Signed Body))
    (said : List Body) (f : Signed Body) → heard_in f.body ≡ None
    → IsMeasureOf g me kept told known said → IsMeasureOf g me kept told (known ++ f ∷ []) said
kind_passed g me kept told known said f none is =
    passed g me kept told known said f (λ master lt. kind_silent me master f none) is

-- a tatreport
pub took_report : (g : Group) (me : ℕ) (kept : MeasureState) (told : List Told) (known : List (Signed Body))
    (said : List Body) (signer : ℕ) (b : TatReport) (sig : List ℕ) (reports : List ((ℕ × ℕ) × ℕ))
    → ((w j : ℕ) → unwrap_or (told_at reports w j) 0 ≡ cond (nat_eq signer j && nat_eq b.v w)
    (max (unwrap_or (told_at kept.reports w j) 0) b.ticks) (unwrap_or (told_at kept.reports w j) 0))
    → IsMeasureOf g me kept told known said
    → IsMeasureOf g me record kept { reports = reports } told
    (known ++ record { signer = signer; body = body.TatReport b; sig = sig } ∷ []) said
took_report g me kept told known said signer b sig reports more is =
    measured
    (λ v master lt.
    more v master ∙ ap (λ x. cond (nat_eq signer master && nat_eq b.v v) (max x b.ticks) x) (is.reports v master lt)
    ∙ sym (ap greatest_of (told_after (report_in v master) known f
    (cond (nat_eq signer master && nat_eq b.v v) (Some b.ticks) None) refl)
    ∙ greatest_if (filter_map (report_in v master) known) (nat_eq signer master && nat_eq b.v v) b.ticks))
    (bounds_stay f (λ v master lt. refl) is) (trips_stay f (λ master lt. refl) is)
    (owed_stays f (λ to lt ne. refl) (λ to lt. refl) is) is.counted is
  where
    f : Signed Body
    f = record { signer = signer; body = body.TatReport b; sig = sig }

-- a tatbound
pub took_bound : (g : Group) (me : ℕ) (kept : MeasureState) (told : List Told) (known : List (Signed Body))
    (said : List Body) (signer : ℕ) (b : TatBound) (sig : List ℕ) (bounds : List ((ℕ × ℕ) × ℕ))
    → ((w j : ℕ) → told_at bounds w j ≡ or_else (told_at kept.bounds w j)
    (cond (nat_eq signer j && nat_eq b.v w) (Some b.ticks) None))
    → IsMeasureOf g me kept told known said
    → IsMeasureOf g me record kept { bounds = bounds } told
    (known ++ record { signer = signer; body = body.TatBound b; sig = sig } ∷ []) said
took_bound g me kept told known said signer b sig bounds more is =
    measured (reports_stay f (λ v master lt. refl) is)
    (λ v master lt. more v master ∙ ap (λ o. or_else o (one v master)) (is.bounds v master lt)
    ∙ sym (ap first_of_list (told_after (bound_in v master) known f (one v master) refl)
    ∙ first_more (filter_map (bound_in v master) known) (one v master)))
    (trips_stay f (λ master lt. refl) is) (owed_stays f (λ to lt ne. refl) (λ to lt. refl) is)
    is.counted is
  where
    f : Signed Body
    f = record { signer = signer; body = body.TatBound b; sig = sig }

    one : ℕ → ℕ → Option ℕ
    one v master = cond (nat_eq signer master && nat_eq b.v v) (Some b.ticks) None

-- a round trip to the master
pub took_trip : (g : Group) (me : ℕ) (kept : MeasureState) (told : List Told) (known : List (Signed Body))
    (said : List Body) (signer : ℕ) (b : Rtt) (sig : List ℕ) (trips : List (Option Rtt))
    → nat_eq b.to me ≡ true
    → ((j : ℕ) → j < g.n → slice_index_or trips j None ≡ cond (nat_eq signer j)
    (Some (later_of (slice_index_or kept.trips j None) b)) (slice_index_or kept.trips j None))
    → IsMeasureOf g me kept told known said
    → IsMeasureOf g me record kept { trips = trips } told
    (known ++ record { signer = signer; body = body.Rtt b; sig = sig } ∷ []) said
took_trip g me kept told known said signer b sig trips mine more is =
    measured (reports_stay f (λ v master lt. refl) is) (bounds_stay f (λ v master lt. refl) is)
    (λ master lt. more master lt
    ∙ ap (λ o. cond (nat_eq signer master) (Some (later_of o b)) o) (is.trips master lt)
    ∙ at master (nat_eq signer master) refl)
    (owed_stays f (λ to lt ne. refl) (λ to lt. refl) is) is.counted is
  where
    f : Signed Body
    f = record { signer = signer; body = body.Rtt b; sig = sig }

    at : (master : ℕ) (c : Bool) → nat_eq signer master ≡ c
        → cond c (Some (later_of (best_by later_trip (filter_map (round_trip_in me master) known)) b))
        (best_by later_trip (filter_map (round_trip_in me master) known))
        ≡ best_by later_trip (filter_map (round_trip_in me master) (known ++ f ∷ []))
    at master true e =
        sym (ap (best_by later_trip)
        (told_after (round_trip_in me master) known f (Some b)
        (ap (λ t. cond (t && nat_eq b.to me) (Some b) None) e ∙ ap (λ t. cond t (Some b) None) mine))
        ∙ best_more (filter_map (round_trip_in me master) known) b)
    at master false e = ap (best_by later_trip)
        (sym (same_after (round_trip_in me master) known f (ap (λ t. cond (t && nat_eq b.to me) (Some b) None) e)))

-- a round trip or a pong to another master, and a ping of its own
not_to_me : {Y : Type 0} (c : Bool) (to own me : ℕ) (y : Y) → nat_eq to own ≡ false → own ≡ me →
    cond (c && nat_eq to me) (Some y) None ≡ None
not_to_me true to own me y other same = ap (λ t. cond t (Some y) None) (ap (nat_eq to) (sym same) ∙ other)
not_to_me false to own me y other same = refl

pub trip_passed : (g : Group) (me : ℕ) (kept : MeasureState) (told : List Told) (known : List (Signed Body))
    (said : List Body) (signer : ℕ) (b : Rtt) (sig : List ℕ) → nat_eq b.to kept.me ≡ false
    → IsMeasureOf g me kept told known said →
    IsMeasureOf g me kept told (known ++ record { signer = signer; body = body.Rtt b; sig = sig } ∷ []) said
trip_passed g me kept told known said signer b sig other is =
    passed g me kept told known said record { signer = signer; body = body.Rtt b; sig = sig }
    (λ master lt. record {
      report = λ v. refl;
      bound = λ v. refl;
      trip = not_to_me (nat_eq signer master) b.to kept.me me b other is.own;
      ping = λ _. refl;
      pong = refl;
    }) is

pub pong_passed : (g : Group) (me : ℕ) (kept : MeasureState) (told : List Told) (known : List (Signed Body))
    (said : List Body) (signer : ℕ) (b : PongWord) (sig : List ℕ) → nat_eq b.to kept.me ≡ false
    → IsMeasureOf g me kept told known said →
    IsMeasureOf g me kept told (known ++ record { signer = signer; body = body.Pong b; sig = sig } ∷ []) said
pong_passed g me kept told known said signer b sig other is =
    passed g me kept told known said record { signer = signer; body = body.Pong b; sig = sig }
    (λ master lt. record {
      report = λ v. refl;
      bound = λ v. refl;
      trip = refl;
      ping = λ _. refl;
      pong = not_to_me (nat_eq signer master) b.to kept.me me b.number other is.own;
    }) is

pub own_ping_passed : (g : Group) (me : ℕ) (kept : MeasureState) (told : List Told) (known : List (Signed Body))
    (said : List Body) (signer : ℕ) (b : PingWord) (sig : List ℕ) → signer ≡ kept.me
    → IsMeasureOf g me kept told known said →
    IsMeasureOf g me kept told (known ++ record { signer = signer; body = body.Ping b; sig = sig } ∷ []) said
own_ping_passed g me kept told known said signer b sig own is =
    passed g me kept told known said record { signer = signer; body = body.Ping b; sig = sig }
    (λ master lt. record {
      report = λ v. refl;
      bound = λ v. refl;
      trip = refl;
      ping =
          λ ne. no master ne (nat_eq signer master) refl;
      pong = refl;
    }) is
  where
    no : (master : ℕ) → nat_eq master me ≡ false → (c : Bool) → nat_eq signer master ≡ c →
        cond c (Some b.number) None ≡ None
    no master ne false e = refl
    no master ne true e = absurd
        (true≢false (sym (eq-eqb master me (sym (eqb-true signer master e) ∙ own ∙ is.own)) ∙ ne))

-- a word that makes one more answer owed, and fills no table
took_asking : {g : Group} {me : ℕ} {kept : MeasureState} {told : List Told} {known : List (Signed Body)}
    {said : List Body} {pending : List Saying} (f : Signed Body) (one : Saying)
    → ((v master : ℕ) → report_in v master f ≡ None) → ((v master : ℕ) → bound_in v master f ≡ None)
    → ((master : ℕ) → round_trip_in me master f ≡ None)
    → ((s : Saying) → (same_saying one s && not (list_any (says s) said) || is_pending g me known said s)
    ≡ is_pending g me (known ++ f ∷ []) said s)
    → ((s : Saying) → is_among pending s ≡ (same_saying one s && not (is_among kept.said s)
    || is_among kept.pending s))
    → IsMeasureOf g me kept told known said
    → IsMeasureOf g me record kept { pending = pending } told (known ++ f ∷ []) said
took_asking {g} {me} {kept} {told} {known} {said} f one no_report no_bound no_trip now more is =
    measured (reports_stay f (λ v master lt. no_report v master) is)
    (bounds_stay f (λ v master lt. no_bound v master) is)
    (trips_stay f (λ master lt. no_trip master) is)
    (λ s. more s ∙ ap (λ b. same_saying one s && not b || is_among kept.pending s) (is.counted s)
    ∙ ap (λ b. same_saying one s && not (list_any (says s) said) || b) (is.pending s) ∙ now s) is.counted is

-- a ping of another master
pub took_ping : (g : Group) (me : ℕ) (kept : MeasureState) (told : List Told) (known : List (Signed Body))
    (said : List Body) (signer : ℕ) (b : PingWord) (sig : List ℕ) (pending : List Saying)
    → nat_lt signer g.n ≡ true → nat_eq signer me ≡ false
    → ((s : Saying) → is_among pending s ≡ (same_saying (Pong signer b.number) s && not (is_among kept.said s)
    || is_among kept.pending s))
    → IsMeasureOf g me kept told known said
    → IsMeasureOf g me record kept { pending = pending } told
    (known ++ record { signer = signer; body = body.Ping b; sig = sig } ∷ []) said
took_ping g me kept told known said signer b sig pending within other more is =
    took_asking f (Pong signer b.number) (λ v master. refl) (λ v master. refl) (λ master. refl) now more is
  where
    f : Signed Body
    f = record { signer = signer; body = body.Ping b; sig = sig }

    now : (s : Saying) → (same_saying (Pong signer b.number) s && not (list_any (says s) said)
        || is_pending g me known said s) ≡ is_pending g me (known ++ f ∷ []) said s
    now (Ping number) = refl
    now (RoundTrip to number) = trip_same g me known said f to number (λ lt. refl)
    now (Report v ticks) = refl
    now (Bound v) = refl
    now (Vote v) = refl
    now (Pong to number) = at (nat_eq signer to) refl
      where
        at : (c : Bool) → nat_eq signer to ≡ c →
            (c && nat_eq b.number number && not (list_any (pongs_said to number) said)
            || is_pending g me known said (Pong to number)) ≡ is_pending g me (known ++ f ∷ []) said (Pong to number)
        at true e =
            let here : signer ≡ to = eqb-true signer to e in
            one_asked (nat_lt to g.n && not (nat_eq to me)) (list_any (pongs_said to number) said) b.number number
            (filter_map (ping_in to) known) (filter_map (ping_in to) (known ++ f ∷ []))
            (ap (λ m. nat_lt m g.n && not (nat_eq m me)) (sym here) ∙ ap (λ t. t && not (nat_eq signer me)) within
            ∙ ap not other)
            (told_after (ping_in to) known f (Some b.number) (ap (λ t. cond t (Some b.number) None) e))
        at false e = pong_same g me known said f to number (λ lt ne. ap (λ t. cond t (Some b.number) None) e)

-- a pong to the master
pub took_pong : (g : Group) (me : ℕ) (kept : MeasureState) (told : List Told) (known : List (Signed Body))
    (said : List Body) (signer : ℕ) (b : PongWord) (sig : List ℕ) (pending : List Saying)
    → nat_lt signer g.n ≡ true → nat_eq b.to me ≡ true
    → ((s : Saying) → is_among pending s ≡ (same_saying (RoundTrip signer b.number) s && not (is_among kept.said s)
    || is_among kept.pending s))
    → IsMeasureOf g me kept told known said
    → IsMeasureOf g me record kept { pending = pending } told
    (known ++ record { signer = signer; body = body.Pong b; sig = sig } ∷ []) said
took_pong g me kept told known said signer b sig pending within mine more is =
    took_asking f (RoundTrip signer b.number) (λ v master. refl) (λ v master. refl) (λ master. refl) now more is
  where
    f : Signed Body
    f = record { signer = signer; body = body.Pong b; sig = sig }

    now : (s : Saying) → (same_saying (RoundTrip signer b.number) s && not (list_any (says s) said)
        || is_pending g me known said s) ≡ is_pending g me (known ++ f ∷ []) said s
    now (Ping number) = refl
    now (Pong to number) = pong_same g me known said f to number (λ lt ne. refl)
    now (Report v ticks) = refl
    now (Bound v) = refl
    now (Vote v) = refl
    now (RoundTrip to number) = at (nat_eq signer to) refl
      where
        at : (c : Bool) → nat_eq signer to ≡ c →
            (c && nat_eq b.number number && not (list_any (round_trips_said to number) said)
            || is_pending g me known said (RoundTrip to number)) ≡ is_pending g me (known ++ f ∷ [])
            said (RoundTrip to number)
        at true e =
            one_asked (nat_lt to g.n) (list_any (round_trips_said to number) said) b.number number
            (filter_map (pong_in me to) known) (filter_map (pong_in me to) (known ++ f ∷ []))
            (ap (λ m. nat_lt m g.n) (sym (eqb-true signer to e)) ∙ within)
            (told_after (pong_in me to) known f (Some b.number)
            (ap (λ t. cond (t && nat_eq b.to me) (Some b.number) None) e
            ∙ ap (λ t. cond t (Some b.number) None) mine))
        at false e = trip_same g me known said f to number
            (λ lt. ap (λ t. cond (t && nat_eq b.to me) (Some b.number) None) e)

-- the measures as the fields give them
pub viewed : {g : Group} {me : ℕ} {a b : MeasureState} {told : List Told} {known : List (Signed Body)}
    {said : List Body} → a ≡ b → IsMeasureOf g me b told known said → IsMeasureOf g me a told known said
viewed {g} {me} {a} {b} {told} {known} {said} e is = subst (λ k. IsMeasureOf g me k told known said) (sym e) is

pub trip_set : (trips : List (Option Rtt)) (signer j : ℕ) (now b : Rtt) → signer < length trips →
    now ≡ later_of (get_or trips signer None) b
    → get_or (set trips signer (Some now)) j None ≡ cond (nat_eq signer j) (Some (later_of (get_or trips j None) b))
    (get_or trips j None)
trip_set trips signer j now b within is = at (nat_eq signer j) refl
  where
    at : (c : Bool) → nat_eq signer j ≡ c → get_or (set trips signer (Some now)) j None ≡ cond c
        (Some (later_of (get_or trips j None) b)) (get_or trips j None)
    at true e = ap (λ k. get_or (set trips signer (Some now)) k None) (sym (eqb-true signer j e))
        ∙ get_or-set_same trips signer (Some now) None within
        ∙ ap Some (is ∙ ap (λ k. later_of (get_or trips k None) b) (eqb-true signer j e))
    at false e = get_or-set_other trips signer j (Some now) None (λ h. eqb-false signer j e (sym h))

-- the word that tells one of the measures
abbrev pub word_of : Heard → Body
word_of (heard.Ping b) = body.Ping b
word_of (heard.Pong b) = body.Pong b
word_of (heard.RoundTrip b) = body.Rtt b
word_of (heard.Report b) = body.TatReport b
word_of (heard.Bound b) = body.TatBound b

pub heard_is : (word : Body) (h : Heard) → heard_in word ≡ Some h → word ≡ word_of h
heard_is word h = elim word as (λ w. heard_in w ≡ Some h → w ≡ word_of h) [
  | body.Ping b ↦ one (heard.Ping b)
  | body.Pong b ↦ one (heard.Pong b)
  | body.Rtt b ↦ one (heard.RoundTrip b)
  | body.TatReport b ↦ one (heard.Report b)
  | body.TatBound b ↦ one (heard.Bound b)
  | _ ↦ λ e. absurd (cc)
]
  where
    one : (x : Heard) → Some x ≡ Some h → word_of x ≡ word_of h
    one x e = let same : x ≡ h = cc in ap word_of same

-- the measures know a word where they know the one that it is heard as
pub at_heard : {g : Group} {me : ℕ} {kept : MeasureState} {told : List Told} {said : List Body}
    (known : List (Signed Body)) (signer : ℕ) (sig : List ℕ) (word : Body) (h : Heard) → heard_in word ≡ Some h
    → IsMeasureOf g me kept told (known ++ record { signer = signer; body = word_of h; sig = sig } ∷ []) said
    → IsMeasureOf g me kept told (known ++ record { signer = signer; body = word; sig = sig } ∷ []) said
at_heard {g} {me} {kept} {told} {said} known signer sig word h e is =
    subst (λ w. IsMeasureOf g me kept told (known ++ record { signer = signer; body = w; sig = sig } ∷ []) said)
    (sym (heard_is word h e)) is

-- only measures count
is_none : {Y : Type 0} (p : Signed Body → Option Y) → ((f : Signed Body) → is_measure f ≡ false → p f ≡ None) →
    (known : List (Signed Body)) → filter_map p (filter is_measure known) ≡ filter_map p known
is_none p none [] = refl
is_none {Y} p none (f ∷ rest) = at (is_measure f) refl (is_none p none rest)
  where
    at : (b : Bool) → is_measure f ≡ b → filter_map p (filter is_measure rest) ≡ filter_map p rest →
        filter_map p (cond (is_measure f) (f ∷ filter is_measure rest) (filter is_measure rest)) ≡ cons_option
        (p f) (filter_map p rest)
    at true e more = ap (λ b. filter_map p (cond b (f ∷ filter is_measure rest) (filter is_measure rest))) e
        ∙ ap (cons_option (p f)) more
    at false e more = ap (λ b. filter_map p (cond b (f ∷ filter is_measure rest) (filter is_measure rest))) e ∙ more
        ∙ ap (λ o. cons_option o (filter_map p rest)) (sym (none f e))

other_kind : (word : Body) (signer : ℕ) (sig : List ℕ) →
    is_measure record { signer = signer; body = word; sig = sig } ≡ false → heard_in word ≡ None
other_kind word signer sig = elim word as (λ w. is_measure record { signer = signer; body = w; sig = sig } ≡ false →
    heard_in w ≡ None) [
      | body.Ping b ↦ λ e. absurd (cc)
      | body.Pong b ↦ λ e. absurd (cc)
      | body.Rtt b ↦ λ e. absurd (cc)
      | body.TatReport b ↦ λ e. absurd (cc)
      | body.TatBound b ↦ λ e. absurd (cc)
      | _ ↦ λ e. refl
    ]

silent : (me master : ℕ) (f : Signed Body) → is_measure f ≡ false → IsSilent me master f
silent me master f e = kind_silent me master f (other_kind f.body f.signer f.sig e)

pub only_measures : (g : Group) (me : ℕ) (kept : MeasureState) (told : List Told) (known : List (Signed Body))
    (said : List Body) → IsMeasureOf g me kept told (filter is_measure known) said →
    IsMeasureOf g me kept told known said
only_measures g me kept told known said is =
    measured
    (λ v master lt. is.reports v master lt
    ∙ ap greatest_of (is_none (report_in v master) (λ f e. (silent me master f e).report v) known))
    (λ v master lt. is.bounds v master lt
    ∙ ap first_of_list (is_none (bound_in v master) (λ f e. (silent me master f e).bound v) known))
    (λ master lt. is.trips master lt
    ∙ ap (best_by later_trip) (is_none (round_trip_in me master) (λ f e. (silent me master f e).trip) known))
    (λ s. is.pending s ∙ pending_of s) is.counted is
  where
    pending_of : (s : Saying) → is_pending g me (filter is_measure known) said s ≡ is_pending g me known said s
    pending_of (Pong to number) =
        same_asked (nat_lt to g.n && not (nat_eq to me)) (list_any (pongs_said to number) said) number
        (filter_map (ping_in to) (filter is_measure known)) (filter_map (ping_in to) known)
        (λ _. sym (is_none (ping_in to) (λ f e. no_ping to f (other_kind f.body f.signer f.sig e)) known))
    pending_of (RoundTrip to number) =
        same_asked (nat_lt to g.n) (list_any (round_trips_said to number) said) number
        (filter_map (pong_in me to) (filter is_measure known)) (filter_map (pong_in me to) known)
        (λ _. sym (is_none (pong_in me to) (λ f e. (silent me to f e).pong) known))
    pending_of (Ping number) = refl
    pending_of (Report v ticks) = refl
    pending_of (Bound v) = refl
    pending_of (Vote v) = refl

-- only these kinds count of what was said
pub only_own_kinds : (g : Group) (me : ℕ) (kept : MeasureState) (told : List Told) (known : List (Signed Body))
    (said other : List Body) → ((s : Saying) → list_any (says s) other ≡ list_any (says s) said)
    → IsMeasureOf g me kept told known said → IsMeasureOf g me kept told known other
only_own_kinds g me kept told known said other same is =
    measured is.reports is.bounds is.trips (λ s. is.pending s ∙ sym (pending_of s))
    (λ s. is.counted s ∙ sym (same s)) is
  where
    pending_of : (s : Saying) → is_pending g me known other s ≡ is_pending g me known said s
    pending_of (Pong to number) =
        ap (λ b. nat_lt to g.n && not (nat_eq to me) && list_any (nat_eq number) (filter_map (ping_in to) known)
        && not b) (same (Pong to number))
    pending_of (RoundTrip to number) =
        ap (λ b. nat_lt to g.n && list_any (nat_eq number) (filter_map (pong_in me to) known) && not b)
        (same (RoundTrip to number))
    pending_of (Ping number) = refl
    pending_of (Report v ticks) = refl
    pending_of (Bound v) = refl
    pending_of (Vote v) = refl
