-- The answers that are owed, in their order.
use Rattle.std.proofs.Common.{◌≡◌, ℕ, ◌-◌, ◌*◌, ◌<◌, Less, Bool, true, false, cond, ◌&&◌, ◌||◌, not, List, [], ◌∷◌}
use Rattle.std.proofs.Common.{◌++◌, Option, Some, None, map, filter, nat_eq, nat_lt, refl, sym, ◌∙◌, ap}
use Rattle.std.specs.List.{list_any, flat_map, filter_map, cons_option}
use Rattle.std.specs.List.Sorted.{IsStrictlySortedBy}
use Rattle.std.proofs.lemmas.Bool.{eqb-true}
use Rattle.std.proofs.lemmas.List.Folds.{list_any-append}
use Rattle.std.proofs.lemmas.List.Elements.{filter_map-append}
use Rattle.std.proofs.Math.Bool.{or-false}
use Rattle.quorum_sets.specs.Masters.{numbers_below}
use Rattle.message_types.specs.declared.signed.Signed.{Signed}
use Rattle.message_types.specs.declared.body.Body.{Body}
use Rattle.message_types.specs.declared.body.Body.TheVariants as body
use Rattle.protocol_rules.specs.Words.{in_order, each_once}
use Rattle.protocol_rules.specs.Group.{Group}
use Rattle.protocol_rules.specs.Measures.{ping_in, pong_in, pings_said, pongs_said, round_trips_said, pongs_due}
use Rattle.protocol_rules.specs.Measures.{pongs_due_to, round_trips_due, round_trips_due_from}
use Rattle.suspect_leader.specs.declared.saying.Saying.{Saying}
use Rattle.suspect_leader.specs.declared.saying.Saying.TheVariants.{Ping, Pong, RoundTrip, Report, Bound, Vote}
use Rattle.suspect_leader.specs.Sayings.{says, same_saying, is_among, is_pending}
use Rattle.suspect_leader.specs.MeasureState.{answer_to}
use Rattle.suspect_leader.proofs.Order.{order, Rising, unique, pair_less_first, pair_less_second}
use Rattle.suspect_leader.proofs.Rising.{Each, Steps, steps_in_order, steps_filter, steps_below, any_each_once}
use Rattle.suspect_leader.proofs.Rising.{each_append}
use Rattle.suspect_leader.proofs.Rising.{any_filter, any_below}

-- one saying for each master and number
abbrev pub pairs : (ℕ → ℕ → Saying) → (ℕ → List ℕ) → List ℕ → List Saying
pairs say numbers masters = flat_map (λ m. map (say m) (numbers m)) masters

rising_append : (xs ys : List Saying) → Rising xs → Rising ys → Each (λ x. Each (λ y. order x y ≡ Less) ys) xs →
    Rising (xs ++ ys)
unfolding IsStrictlySortedBy
rising_append [] ys one two across = two
rising_append (x ∷ rest) ys one two across =
    (each_append (λ y. order x y ≡ Less) rest ys one.0 across.0, rising_append rest ys one.1 two across.1)

each_say : (P : Saying → Type 0) (say : ℕ → Saying) (numbers : List ℕ) → ((i : ℕ) → P (say i)) →
    Each P (map say numbers)
each_say P say [] f = tt
each_say P say (i ∷ rest) f = (f i, each_say P say rest f)

each_pair : (P : Saying → Type 0) (say : ℕ → ℕ → Saying) (numbers : ℕ → List ℕ) (Q : ℕ → Type 0) (masters : List ℕ) →
    ((m i : ℕ) → Q m → P (say m i)) → Each Q masters → Each P (pairs say numbers masters)
each_pair P say numbers Q [] f all = tt
each_pair P say numbers Q (m ∷ rest) f all = each_append P (map (say m) (numbers m)) (pairs say numbers rest)
    (each_say P (say m) (numbers m) (λ i. f m i all.0)) (each_pair P say numbers Q rest f all.1)

each_step : (say : ℕ → Saying) → ((i j : ℕ) → i < j → order (say i) (say j) ≡ Less) → (i : ℕ) (rest : List ℕ) →
    Each (λ j. i < j) rest → Each (λ y. order (say i) y ≡ Less) (map say rest)
each_step say less i [] all = tt
each_step say less i (j ∷ rest) all = (less i j all.0, each_step say less i rest all.1)

rising_map : (say : ℕ → Saying) → ((i j : ℕ) → i < j → order (say i) (say j) ≡ Less) → (numbers : List ℕ) →
    Steps numbers → Rising (map say numbers)
unfolding IsStrictlySortedBy
rising_map say less [] up = tt
rising_map say less (i ∷ rest) up = (each_step say less i rest up.0, rising_map say less rest up.1)

pub rising_pairs : (say : ℕ → ℕ → Saying) → ((m i n j : ℕ) → m < n → order (say m i) (say n j) ≡ Less) →
    ((m i j : ℕ) → i < j → order (say m i) (say m j) ≡ Less)
    → (numbers : ℕ → List ℕ) → ((m : ℕ) → Steps (numbers m)) → (masters : List ℕ) → Steps masters →
    Rising (pairs say numbers masters)
unfolding IsStrictlySortedBy
rising_pairs say first second numbers steps [] up = tt
rising_pairs say first second numbers steps (m ∷ rest) up =
    rising_append (map (say m) (numbers m)) (pairs say numbers rest)
    (rising_map (say m) (second m) (numbers m) (steps m)) (rising_pairs say first second numbers steps rest up.1)
    (each_say (λ x. Each (λ y. order x y ≡ Less) (pairs say numbers rest)) (say m) (numbers m)
    (λ i. each_pair (λ y. order (say m i) y ≡ Less) say numbers (λ n. m < n) rest (λ n j lt. first m i n j lt) up.0))

-- which there are
and_or : (a b d : Bool) → (a && (b || d)) ≡ (a && b || a && d)
and_or true b d = refl
and_or false b d = refl

among_map : (say : ℕ → ℕ → Saying) (to number m : ℕ) →
    ((i : ℕ) → same_saying (say to number) (say m i) ≡ (nat_eq to m && nat_eq number i)) → (numbers : List ℕ)
    → is_among (map (say m) numbers) (say to number) ≡ (nat_eq to m && list_any (nat_eq number) numbers)
among_map say to number m same [] = at (nat_eq to m)
  where
    at : (b : Bool) → false ≡ (b && false)
    at true = refl
    at false = refl
among_map say to number m same (i ∷ rest) =
    ap (λ b. b || is_among (map (say m) rest) (say to number)) (same i)
    ∙ ap (λ b. nat_eq to m && nat_eq number i || b) (among_map say to number m same rest)
    ∙ sym (and_or (nat_eq to m) (nat_eq number i) (list_any (nat_eq number) rest))

pub among_pairs : (say : ℕ → ℕ → Saying) →
    ((to number m i : ℕ) → same_saying (say to number) (say m i) ≡ (nat_eq to m && nat_eq number i))
    → (numbers : ℕ → List ℕ) (masters : List ℕ) (to number : ℕ) →
    is_among (pairs say numbers masters) (say to number) ≡ (list_any (nat_eq to) masters
    && list_any (nat_eq number) (numbers to))
among_pairs say same numbers [] to number = refl
among_pairs say same numbers (m ∷ rest) to number =
    list_any-append (same_saying (say to number)) (map (say m) (numbers m)) (pairs say numbers rest)
    ∙ ap (λ b. b || is_among (pairs say numbers rest) (say to number))
    (among_map say to number m (same to number m) (numbers m))
    ∙ ap (λ b. nat_eq to m && list_any (nat_eq number) (numbers m) || b) (among_pairs say same numbers rest to number)
    ∙ at (nat_eq to m) refl
  where
    or_and : (a b : Bool) → (a || b && a) ≡ a
    or_and true b = refl
    or_and false true = refl
    or_and false false = refl

    at : (e : Bool) → nat_eq to m ≡ e →
        (e && list_any (nat_eq number) (numbers m) || list_any (nat_eq to) rest
        && list_any (nat_eq number) (numbers to)) ≡ ((e || list_any (nat_eq to) rest)
        && list_any (nat_eq number) (numbers to))
    at true e = ap (λ k. list_any (nat_eq number) (numbers k) || list_any (nat_eq to) rest
        && list_any (nat_eq number) (numbers to)) (sym (eqb-true to m e))
        ∙ or_and (list_any (nat_eq number) (numbers to)) (list_any (nat_eq to) rest)
    at false e = refl

none_map : (say : ℕ → ℕ → Saying) (s : Saying) (m : ℕ) → ((i : ℕ) → same_saying s (say m i) ≡ false) →
    (numbers : List ℕ) → is_among (map (say m) numbers) s ≡ false
none_map say s m other [] = refl
none_map say s m other (i ∷ rest) = ap (λ b. b || is_among (map (say m) rest) s) (other i) ∙ none_map say s m other rest

pub none_pairs : (say : ℕ → ℕ → Saying) (s : Saying) → ((m i : ℕ) → same_saying s (say m i) ≡ false) →
    (numbers : ℕ → List ℕ) (masters : List ℕ) → is_among (pairs say numbers masters) s ≡ false
none_pairs say s other numbers [] = refl
none_pairs say s other numbers (m ∷ rest) =
    list_any-append (same_saying s) (map (say m) (numbers m)) (pairs say numbers rest)
    ∙ ap (λ b. b || is_among (pairs say numbers rest) s) (none_map say s m (other m) (numbers m))
    ∙ none_pairs say s other numbers rest

-- the pongs and the round trips that are owed
abbrev pongs_to : List (Signed Body) → List Body → ℕ → List ℕ
pongs_to known said to = filter (λ number. not (list_any (pongs_said to number) said))
    (each_once (in_order (filter_map (ping_in to) known)))

abbrev trips_to : ℕ → List (Signed Body) → List Body → ℕ → List ℕ
trips_to me known said to = filter (λ number. not (list_any (round_trips_said to number) said))
    (each_once (in_order (filter_map (pong_in me to) known)))

abbrev others : Group → ℕ → List ℕ
others g me = filter (λ m. not (nat_eq m me)) (numbers_below g.n)

abbrev owed_pongs : Group → ℕ → List (Signed Body) → List Body → List Saying
owed_pongs g me known said = pairs Pong (pongs_to known said) (others g me)

abbrev owed_trips : Group → ℕ → List (Signed Body) → List Body → List Saying
owed_trips g me known said = pairs RoundTrip (trips_to me known said) (numbers_below g.n)

four : (lt ne any new : Bool) → ((ne && lt) && (new && any)) ≡ (lt && ne && any && new)
four true true true true = refl
four true true true false = refl
four true true false true = refl
four true true false false = refl
four true false any new = refl
four false true any new = refl
four false false any new = refl

three : (lt any new : Bool) → (lt && (new && any)) ≡ (lt && any && new)
three true true true = refl
three true true false = refl
three true false true = refl
three true false false = refl
three false any new = refl

pongs_among : (g : Group) (me : ℕ) (known : List (Signed Body)) (said : List Body) (to number : ℕ) →
    is_among (owed_pongs g me known said) (Pong to number) ≡ is_pending g me known said (Pong to number)
pongs_among g me known said to number =
    among_pairs Pong (λ a b m i. refl) (pongs_to known said) (others g me) to number
    ∙ ap (λ b. b && list_any (nat_eq number) (pongs_to known said to))
    (any_filter (λ m. not (nat_eq m me)) to (numbers_below g.n)
    ∙ ap (λ b. not (nat_eq to me) && b) (any_below g.n to))
    ∙ ap (λ b. (not (nat_eq to me) && nat_lt to g.n) && b)
    (any_filter (λ i. not (list_any (pongs_said to i) said)) number
    (each_once (in_order (filter_map (ping_in to) known)))
    ∙ ap (λ b. not (list_any (pongs_said to number) said) && b)
    (any_each_once (nat_eq number) (filter_map (ping_in to) known)))
    ∙ four (nat_lt to g.n) (not (nat_eq to me)) (list_any (nat_eq number) (filter_map (ping_in to) known))
    (not (list_any (pongs_said to number) said))

trips_among : (g : Group) (me : ℕ) (known : List (Signed Body)) (said : List Body) (to number : ℕ) →
    is_among (owed_trips g me known said) (RoundTrip to number) ≡ is_pending g me known said (RoundTrip to number)
trips_among g me known said to number =
    among_pairs RoundTrip (λ a b m i. refl) (trips_to me known said) (numbers_below g.n) to number
    ∙ ap (λ b. b && list_any (nat_eq number) (trips_to me known said to)) (any_below g.n to)
    ∙ ap (λ b. nat_lt to g.n && b) (any_filter (λ i. not (list_any (round_trips_said to i) said)) number
    (each_once (in_order (filter_map (pong_in me to) known)))
    ∙ ap (λ b. not (list_any (round_trips_said to number) said) && b)
    (any_each_once (nat_eq number) (filter_map (pong_in me to) known)))
    ∙ three (nat_lt to g.n) (list_any (nat_eq number) (filter_map (pong_in me to) known))
    (not (list_any (round_trips_said to number) said))

none_of : (g : Group) (me : ℕ) (known : List (Signed Body)) (said : List Body) (s : Saying) →
    ((m i : ℕ) → same_saying s (Pong m i) ≡ false) → ((m i : ℕ) → same_saying s (RoundTrip m i) ≡ false)
    → is_among (owed_pongs g me known said ++ owed_trips g me known said) s ≡ false
none_of g me known said s pong trip =
    list_any-append (same_saying s) (owed_pongs g me known said) (owed_trips g me known said)
    ∙ ap (λ b. b || is_among (owed_trips g me known said) s)
    (none_pairs Pong s pong (pongs_to known said) (others g me))
    ∙ none_pairs RoundTrip s trip (trips_to me known said) (numbers_below g.n)

each_any : (xs : List ℕ) → Each (λ m. Unit {0}) xs
each_any [] = tt
each_any (x ∷ rest) = (tt, each_any rest)

all_among : (g : Group) (me : ℕ) (known : List (Signed Body)) (said : List Body) (s : Saying) →
    is_among (owed_pongs g me known said ++ owed_trips g me known said) s ≡ is_pending g me known said s
all_among g me known said (Pong to number) =
    list_any-append (same_saying (Pong to number)) (owed_pongs g me known said) (owed_trips g me known said)
    ∙ ap (λ b. is_among (owed_pongs g me known said) (Pong to number) || b)
    (none_pairs RoundTrip (Pong to number) (λ m i. refl) (trips_to me known said) (numbers_below g.n))
    ∙ or-false (is_among (owed_pongs g me known said) (Pong to number)) ∙ pongs_among g me known said to number
all_among g me known said (RoundTrip to number) =
    list_any-append (same_saying (RoundTrip to number)) (owed_pongs g me known said) (owed_trips g me known said)
    ∙ ap (λ b. b || is_among (owed_trips g me known said) (RoundTrip to number))
    (none_pairs Pong (RoundTrip to number) (λ m i. refl) (pongs_to known said) (others g me))
    ∙ trips_among g me known said to number
all_among g me known said (Ping number) = none_of g me known said (Ping number) (λ m i. refl) (λ m i. refl)
all_among g me known said (Report v ticks) = none_of g me known said (Report v ticks) (λ m i. refl) (λ m i. refl)
all_among g me known said (Bound v) = none_of g me known said (Bound v) (λ m i. refl) (λ m i. refl)
all_among g me known said (Vote v) = none_of g me known said (Vote v) (λ m i. refl) (λ m i. refl)

pub owed_are : (g : Group) (me : ℕ) (known : List (Signed Body)) (said : List Body) (pending : List Saying) →
    Rising pending → ((s : Saying) → is_among pending s ≡ is_pending g me known said s)
    → pending ≡ owed_pongs g me known said ++ owed_trips g me known said
owed_are g me known said pending up same =
    unique pending (owed_pongs g me known said ++ owed_trips g me known said) up
    (rising_append (owed_pongs g me known said) (owed_trips g me known said)
    (rising_pairs Pong (λ m i n j lt. pair_less_first m i n j lt) (λ m i j lt. pair_less_second m i j lt)
    (pongs_to known said) (λ to. steps_filter (λ number. not (list_any (pongs_said to number) said))
    (each_once (in_order (filter_map (ping_in to) known))) (steps_in_order (filter_map (ping_in to) known)))
    (others g me) (steps_filter (λ m. not (nat_eq m me)) (numbers_below g.n) (steps_below g.n)))
    (rising_pairs RoundTrip (λ m i n j lt. pair_less_first m i n j lt) (λ m i j lt. pair_less_second m i j lt)
    (trips_to me known said) (λ to. steps_filter (λ number. not (list_any (round_trips_said to number) said))
    (each_once (in_order (filter_map (pong_in me to) known))) (steps_in_order (filter_map (pong_in me to) known)))
    (numbers_below g.n) (steps_below g.n))
    (each_pair (λ x. Each (λ y. order x y ≡ Less) (owed_trips g me known said)) Pong (pongs_to known said)
    (λ m. Unit {0}) (others g me)
    (λ m i _. each_pair (λ y. order (Pong m i) y ≡ Less) RoundTrip (trips_to me known said) (λ n. Unit {0})
    (numbers_below g.n) (λ n j _. refl) (each_any (numbers_below g.n))) (each_any (others g me))))
    (λ s. same s ∙ sym (all_among g me known said s))

-- the bodies that answer
answered_map : (a : Saying → Option Body) (say : ℕ → ℕ → Saying) (m : ℕ) (numbers : List ℕ) →
    filter_map a (map (say m) numbers) ≡ filter_map (λ i. a (say m i)) numbers
answered_map a say m [] = refl
answered_map a say m (i ∷ rest) = ap (λ l. cons_option (a (say m i)) l) (answered_map a say m rest)

answered_pairs : (a : Saying → Option Body) (say : ℕ → ℕ → Saying) (numbers : ℕ → List ℕ) (masters : List ℕ) →
    filter_map a (pairs say numbers masters) ≡ flat_map (λ m. filter_map (λ i. a (say m i)) (numbers m)) masters
answered_pairs a say numbers [] = refl
answered_pairs a say numbers (m ∷ rest) =
    filter_map-append a (map (say m) (numbers m)) (pairs say numbers rest)
    ∙ ap (λ l. l ++ filter_map a (pairs say numbers rest)) (answered_map a say m (numbers m))
    ∙ ap (λ l. filter_map (λ i. a (say m i)) (numbers m) ++ l) (answered_pairs a say numbers rest)

each_answered : (f : ℕ → Body) (numbers : List ℕ) → filter_map (λ i. Some (f i)) numbers ≡ map f numbers
each_answered f [] = refl
each_answered f (i ∷ rest) = ap (λ l. f i ∷ l) (each_answered f rest)

-- the answers to the numbers that are ready, and to a first number and others, by whether the first is new
abbrev answered_if : (ℕ → Body) → (ℕ → Bool) → List ℕ → List Body
answered_if f ready = filter_map (λ i. cond (ready i) (Some (f i)) None)

abbrev answered_by : (ℕ → Body) → (ready new : ℕ → Bool) → ℕ → List ℕ → Bool → List Body
answered_by f ready new i rest b = answered_if f ready (cond b (i ∷ filter new rest) (filter new rest))

-- the numbers that pass two tests
abbrev both : (now new : ℕ → Bool) → List ℕ → List ℕ
both now new = filter (λ i. now i && new i)

some_answered : (f : ℕ → Body) (ready now new : ℕ → Bool) → ((i : ℕ) → ready i ≡ now i) → (numbers : List ℕ)
    → answered_if f ready (filter new numbers) ≡ map f
    (both now new numbers)
some_answered f ready now new same [] = refl
some_answered f ready now new same (i ∷ rest) = at (new i) refl (ready i) refl (some_answered f ready now new same rest)
  where
    at : (n : Bool) → new i ≡ n → (r : Bool) → ready i ≡ r → answered_if f ready
        (filter new rest) ≡ map f (both now new rest)
        → answered_if f ready (cond (new i) (i ∷ filter new rest) (filter new rest)) ≡
        map f (cond (now i && new i) (i ∷ both now new rest) (both now new rest))
    at true e true h more =
        ap (answered_by f ready new i rest) e
        ∙ ap (λ b. cons_option (cond b (Some (f i)) None)
        (answered_if f ready (filter new rest))) h ∙ ap (λ l. f i ∷ l) more
        ∙ sym (ap (λ b. map f (cond (b && new i) (i ∷ both now new rest) (both now new rest))) (sym (same i) ∙ h)
        ∙ ap (λ b. map f (cond b (i ∷ both now new rest) (both now new rest))) e)
    at true e false h more =
        ap (answered_by f ready new i rest) e
        ∙ ap (λ b. cons_option (cond b (Some (f i)) None)
        (answered_if f ready (filter new rest))) h ∙ more
        ∙ sym (ap (λ b. map f (cond (b && new i) (i ∷ both now new rest) (both now new rest))) (sym (same i) ∙ h))
    at false e r h more =
        ap (answered_by f ready new i rest)
        e ∙ more
        ∙ sym (ap (λ b. map f (cond (now i && b) (i ∷ both now new rest) (both now new rest))) e
        ∙ ap (λ b. map f (cond b (i ∷ both now new rest) (both now new rest)))
        (and_nothing (now i)))
      where
        and_nothing : (b : Bool) → (b && false) ≡ false
        and_nothing true = refl
        and_nothing false = refl

flat_same : (f h : ℕ → List Body) (xs : List ℕ) → ((m : ℕ) → f m ≡ h m) → flat_map f xs ≡ flat_map h xs
flat_same f h [] same = refl
flat_same f h (m ∷ rest) same = ap (λ l. l ++ flat_map f rest) (same m) ∙ ap (λ l. h m ++ l) (flat_same f h rest same)

pub answers_are : (g : Group) (me : ℕ) (known : List (Signed Body)) (said : List Body) (ticks : ℕ)
    (pending counted : List Saying) → Rising pending →
    ((s : Saying) → is_among pending s ≡ is_pending g me known said s) →
    ((s : Saying) → is_among counted s ≡ list_any (says s) said)
    → filter_map (answer_to ticks counted) pending ≡ pongs_due g me known said ++ round_trips_due g me known said ticks
answers_are g me known said ticks pending counted up owed said_is =
    ap (filter_map (answer_to ticks counted)) (owed_are g me known said pending up owed)
    ∙ filter_map-append (answer_to ticks counted) (owed_pongs g me known said) (owed_trips g me known said)
    ∙ ap (λ l. l ++ filter_map (answer_to ticks counted) (owed_trips g me known said))
    (answered_pairs (answer_to ticks counted) Pong (pongs_to known said) (others g me)
    ∙ flat_same (λ m. filter_map (λ i. answer_to ticks counted (Pong m i)) (pongs_to known said m))
    (pongs_due_to known said) (others g me)
    (λ m. each_answered (λ i. body.Pong record { to = m; number = i }) (pongs_to known said m)))
    ∙ ap (λ l. pongs_due g me known said ++ l)
    (answered_pairs (answer_to ticks counted) RoundTrip (trips_to me known said) (numbers_below g.n)
    ∙ flat_same (λ m. filter_map (λ i. answer_to ticks counted (RoundTrip m i)) (trips_to me known said m))
    (round_trips_due_from me known said ticks) (numbers_below g.n)
    (λ m. some_answered (λ i. body.Rtt record { to = m; number = i; ticks = ticks - 16 * i })
    (λ i. is_among counted (Ping i)) (λ i. list_any (pings_said i) said)
    (λ i. not (list_any (round_trips_said m i) said)) (λ i. said_is (Ping i))
    (each_once (in_order (filter_map (pong_in me m) known)))))
