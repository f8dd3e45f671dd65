-- The answers owed, where round trips that wait for their pings are kept apart.
use Rattle.std.proofs.Common.{◌≡◌, ℕ, ◌-◌, ◌*◌, ◌/◌, ◌%◌, ◌+◌, ◌<◌, Less, Equal, Greater, Bool, true, false, cond}
use Rattle.std.proofs.Common.{◌&&◌, ◌||◌, not, List, [], ◌∷◌, ◌++◌, length, take, Option, Some, None, nat_eq, nat_lt}
use Rattle.std.proofs.Common.{refl, sym, ◌∙◌, ap, inl, inr, ◌⊎◌, arith}
use Rattle.std.specs.List.{list_any, filter_map, cons_option, slice_index_or}
use Rattle.std.specs.List.Sorted.{IsStrictlySortedBy}
use Rattle.std.specs.BTreeSet.{BTreeSet, insert_key, Updates, UpdatesBy}
use Rattle.std.specs.declared.result.Result.{Result}
use Rattle.std.specs.declared.result.Result.TheVariants.{Ok, Err}
use Rattle.std.specs.Result.{OnErr}
use Rattle.std.specs.Cmp.{IsTotalOrder}
use Rattle.std.specs.Ordering.{is_eq, nat_cmp, ordering_reverse, match_ordering, on, then_cmp}
use Rattle.std.specs.declared.cmp.Ordering.{Ordering}
use Rattle.std.proofs.lemmas.Bool.{and_parts, not-true, eqb-true, eqb-false, or_cases, true≢false}
use Rattle.std.proofs.lemmas.Cmp.{nat_cmp_total, on_total, then_total}
use Rattle.std.proofs.lemmas.List.{take_more}
use Rattle.std.proofs.lemmas.List.Folds.{list_any-append}
use Rattle.std.proofs.Math.Bool.{and-false, or-true}
use Rattle.message_types.specs.declared.body.Body.{Body}
use Rattle.message_types.specs.declared.body.Body.TheVariants as body
use Rattle.protocol_rules.specs.Measures.{pings_said, round_trips_said, pings_due}
use Rattle.suspect_leader.specs.declared.saying.Saying.{Saying}
use Rattle.suspect_leader.specs.declared.saying.Saying.TheVariants.{Ping, Pong, RoundTrip, Report, Bound, Vote}
use Rattle.suspect_leader.specs.Sayings.{says, same_saying, is_among}
use Rattle.suspect_leader.specs.MeasureState.{MeasureState, IsMoved, with_all, is_early, answer_to, waited_in}
use Rattle.suspect_leader.specs.MeasureState.{bound_kept, turnaround_kept, acceptable_kept, report_due_kept}
use Rattle.suspect_leader.specs.MeasureState.{bound_due_kept, vote_due_kept, due_kept}
use Rattle.suspect_leader.proofs.Order.{order, order_same, same_is, same_itself, Rising, unique}
use Rattle.suspect_leader.proofs.Sets.{among_put, among_removed}
use Rattle.suspect_leader.proofs.Rising.{Each, each_then, or_twice}
use Rattle.plain_lists.proofs.Booleans.{or_middle}

or_assoc : (a b d : Bool) → (a || (b || d)) ≡ ((a || b) || d)
or_assoc true b d = refl
or_assoc false b d = refl

same_swap : (x s : Saying) → same_saying x s ≡ same_saying s x
same_swap x s = at (same_saying x s) refl (same_saying s x) refl
  where
    at : (a : Bool) → same_saying x s ≡ a → (b : Bool) → same_saying s x ≡ b → a ≡ b
    at true e true h = refl
    at false e false h = refl
    at true e false h = absurd (true≢false (sym (ap (λ y. same_saying y x) (sym (same_is x s e)) ∙ same_itself x) ∙ h))
    at false e true h = absurd (true≢false (sym (ap (λ y. same_saying y s) (sym (same_is s x h)) ∙ same_itself s) ∙ e))

-- a round trip put in at its place
pairs : IsTotalOrder (then_cmp (on (λ (p : ℕ × ℕ). p.0) nat_cmp) (on (λ (p : ℕ × ℕ). p.1) nat_cmp))
pairs = then_total (on_total (λ (p : ℕ × ℕ). p.0) nat_cmp_total) (on_total (λ (p : ℕ × ℕ). p.1) nat_cmp_total)

trip_turn : (a b : ℕ) (y : Saying) → order (RoundTrip a b) y ≡ Greater → order y (RoundTrip a b) ≡ Less
trip_turn a b (RoundTrip c d) e = pairs.antisymm (c, d) (a, b) ∙ ap ordering_reverse e
trip_turn a b (Ping c) e = refl
trip_turn a b (Pong c d) e = refl
trip_turn a b (Report c d) e = absurd (cc)
trip_turn a b (Bound c) e = absurd (cc)
trip_turn a b (Vote c) e = absurd (cc)

trip_on : (a b : ℕ) (y z : Saying) → order (RoundTrip a b) y ≡ Less → order y z ≡ Less → order (RoundTrip a b) z ≡ Less
trip_on a b (RoundTrip c d) (RoundTrip u v) one two = pairs.trans (a, b) (c, d) (u, v) one two
trip_on a b _ (Report u v) one two = refl
trip_on a b _ (Bound u) one two = refl
trip_on a b _ (Vote u) one two = refl
trip_on a b _ _ one two = absurd (cc)

each_put_in : (P : Saying → Type 0) (x : Saying) (list : List Saying) → P x → Each P list →
    Each P (insert_key order list x)
each_put_in P x [] one all = (one, tt)
each_put_in P x (y ∷ rest) one all = at (order x y) (each_put_in P x rest one all.1)
  where
    at : (o : Ordering) → Each P (insert_key order rest x) →
        Each P (match_ordering o (x ∷ y ∷ rest) (y ∷ rest) (y ∷ insert_key order rest x))
    at Less more = (one, all)
    at Equal more = all
    at Greater more = (all.0, more)

rising_trip : (a b : ℕ) (list : List Saying) → Rising list → Rising (insert_key order list (RoundTrip a b))
unfolding IsStrictlySortedBy
rising_trip a b [] up = (tt, tt)
rising_trip a b (y ∷ rest) up = at (order (RoundTrip a b) y) refl (rising_trip a b rest up.1)
  where
    at : (o : Ordering) → order (RoundTrip a b) y ≡ o → Rising (insert_key order rest (RoundTrip a b)) →
        Rising (match_ordering o (RoundTrip a b ∷ y ∷ rest) (y ∷ rest) (y ∷ insert_key order rest (RoundTrip a b)))
    at Less e more = (
      (
        e,
        each_then (λ z. order y z ≡ Less) (λ z. order (RoundTrip a b) z ≡ Less) rest
            (λ z h. trip_on a b y z e h) up.0,
      ),
      up,
    )
    at Equal e more = up
    at Greater e more = (each_put_in (λ z. order y z ≡ Less) (RoundTrip a b) rest (trip_turn a b y e) up.0, more)

among_put_in : (x s : Saying) (list : List Saying) →
    is_among (insert_key order list x) s ≡ (same_saying x s || is_among list s)
among_put_in x s [] = ap (λ b. b || false) (same_swap s x)
among_put_in x s (y ∷ rest) = at (order x y) refl (among_put_in x s rest)
  where
    at : (o : Ordering) → order x y ≡ o → is_among (insert_key order rest x) s ≡ (same_saying x s || is_among rest s)
        → is_among (match_ordering o (x ∷ y ∷ rest) (y ∷ rest) (y ∷ insert_key order rest x))
        s ≡ (same_saying x s || (same_saying s y || is_among rest s))
    at Less e more = ap (λ b. b || (same_saying s y || is_among rest s)) (same_swap s x)
    at Equal e more =
        or_twice (same_saying s y) (is_among rest s)
        ∙ ap (λ b. b || (same_saying s y || is_among rest s))
        (sym (same_swap x s ∙ ap (same_saying s) (same_is x y (sym (order_same x y) ∙ ap is_eq e))))
    at Greater e more = ap (λ b. same_saying s y || b) more ∙ or_middle (same_saying s y)
        (same_saying x s) (is_among rest s)

among_with : (list others : List Saying) (s : Saying) →
    is_among (with_all list others) s ≡ (is_among others s || is_among list s)
among_with list [] s = refl
among_with list (x ∷ rest) s =
    among_put_in x s (with_all list rest) ∙ ap (λ b. same_saying x s || b) (among_with list rest s)
    ∙ ap (λ b. b || (is_among rest s || is_among list s)) (same_swap x s)
    ∙ or_assoc (same_saying s x) (is_among rest s) (is_among list s)

-- each of them waits for its ping
abbrev pub AllEarly : ℕ → List Saying → List Saying → Type 0
AllEarly n said early = (s : Saying) → is_among early s ≡ true → is_early n said s ≡ true

first_early : (n : ℕ) (said : List Saying) (x : Saying) (rest : List Saying) → AllEarly n said (x ∷ rest) →
    is_early n said x ≡ true
first_early n said x rest all = all x (ap (λ b. b || is_among rest x) (same_itself x))

rest_early : (n : ℕ) (said : List Saying) (x : Saying) (rest : List Saying) → AllEarly n said (x ∷ rest) →
    AllEarly n said rest
rest_early n said x rest all = λ s h. all s (ap (λ b. same_saying s x || b) h ∙ or-true (same_saying s x))

pub rising_with : (n : ℕ) (said list early : List Saying) → Rising list → AllEarly n said early →
    Rising (with_all list early)
rising_with n said list [] up all = up
rising_with n said list (x ∷ rest) up all = put x (first_early n said x rest all) (with_all list rest)
    (rising_with n said list rest up (rest_early n said x rest all))
  where
    put : (y : Saying) → is_early n said y ≡ true → (l : List Saying) → Rising l → Rising (insert_key order l y)
    put (RoundTrip a b) e l above = rising_trip a b l above
    put (Ping a) e l above = absurd (true≢false (sym e))
    put (Pong a b) e l above = absurd (true≢false (sym e))
    put (Report a b) e l above = absurd (true≢false (sym e))
    put (Bound a) e l above = absurd (true≢false (sym e))
    put (Vote a) e l above = absurd (true≢false (sym e))

-- where some are moved the same are owed
pub moved_same : (n : ℕ) (said pending early pending_now early_now : List Saying) → Rising pending →
    AllEarly n said early → IsMoved pending early pending_now early_now →
    with_all pending_now early_now ≡ with_all pending early
moved_same n said pending early pending_now early_now up all moved =
    unique (with_all pending_now early_now) (with_all pending early)
    (rising_with n said pending_now early_now (moved.rising up) (λ s h. all s (moved.fewer s h)))
    (rising_with n said pending early up all)
    (λ s. among_with pending_now early_now s ∙ moved.owed s ∙ sym (among_with pending early s))

pub not_moved : (pending early : List Saying) → IsMoved pending early pending early
not_moved pending early = record { owed = λ s. refl; fewer = λ s h. h; rising = λ up. up }

pub moved_again : (p e p1 e1 p2 e2 : List Saying) → IsMoved p e p1 e1 → IsMoved p1 e1 p2 e2 → IsMoved p e p2 e2
moved_again p e p1 e1 p2 e2 one two =
    record {
      owed = λ s. two.owed s ∙ one.owed s;
      fewer = λ s h. one.fewer s (two.fewer s h);
      rising =
          λ up. two.rising (one.rising up);
    }

-- what isn't early stays so
pub gone_on : (p e p1 e1 : List Saying) (s : Saying) → IsMoved p e p1 e1 → is_among e s ≡ false → is_among e1 s ≡ false
gone_on p e p1 e1 s moved gone = at (is_among e1 s) refl
  where
    at : (b : Bool) → is_among e1 s ≡ b → b ≡ false
    at false h = refl
    at true h = absurd (true≢false (sym (moved.fewer s h) ∙ gone))

pub moved_one : (pending pending_now early early_now : BTreeSet Saying) (x : Saying) → is_among early.keys x ≡ true →
    Updates order pending pending_now x true → UpdatesBy order (order x) early early_now false → Rising pending_now.keys
    → IsMoved pending.keys early.keys pending_now.keys early_now.keys
moved_one pending pending_now early early_now x there put removed up = record {
  owed = λ s.
      ap (λ b. b || is_among pending_now.keys s) (among_removed early early_now x s removed)
      ∙ ap (λ b. cond (same_saying x s) false (is_among early.keys s) || b) (among_put pending pending_now x s put)
      ∙ both s (same_saying x s) refl;
  fewer = λ s h. less s (same_saying x s) (sym (among_removed early early_now x s removed) ∙ h);
  rising = λ _. up;
}
  where
    both : (s : Saying) (b : Bool) → same_saying x s ≡ b →
        (cond b false (is_among early.keys s) || (b || is_among pending.keys s)) ≡ (is_among early.keys s
        || is_among pending.keys s)
    both s true e = sym (ap (λ b. b || is_among pending.keys s)
        (ap (is_among early.keys) (sym (same_is x s e)) ∙ there))
    both s false e = refl

    less : (s : Saying) (b : Bool) → cond b false (is_among early.keys s) ≡ true → is_among early.keys s ≡ true
    less s true h = absurd (true≢false (sym h))
    less s false h = h

pub gone_step : (p e p1 e1 : List Saying) (number to : ℕ) → IsMoved p e p1 e1 →
    ((j : ℕ) → j < to → is_among e (RoundTrip j number) ≡ false) → is_among e1 (RoundTrip to number) ≡ false
    → (j : ℕ) → j < to + 1 → is_among e1 (RoundTrip j number) ≡ false
gone_step p e p1 e1 number to moved before now j lt = at (nat_eq j to) refl
  where
    at : (b : Bool) → nat_eq j to ≡ b → is_among e1 (RoundTrip j number) ≡ false
    at true same = ap (λ k. is_among e1 (RoundTrip k number)) (eqb-true j to same) ∙ now
    at false other = let ne : j ≡ to → ⊥ = eqb-false j to other in
        gone_on p e p1 e1 (RoundTrip j number) moved (before j (omega (arith, lt, ne)))

pub gone_more : (p e p1 e1 : List Saying) (bodies : List Body) (i : ℕ) (word d : Body) (to number : ℕ) →
    i < length bodies → word ≡ slice_index_or bodies i d → IsMoved p e p1 e1
    → (list_any (pings_said number) (take i bodies) ≡ true → is_among e (RoundTrip to number) ≡ false) →
    (pings_said number word ≡ true → is_among e1 (RoundTrip to number) ≡ false)
    → list_any (pings_said number) (take (i + 1) bodies) ≡ true → is_among e1 (RoundTrip to number) ≡ false
gone_more p e p1 e1 bodies i word d to number lt at moved before now h =
    by (or_cases (list_any (pings_said number) (take i bodies)) (pings_said number word || false)
    (sym (ap (list_any (pings_said number)) (take_more bodies i d lt ∙ ap (λ w. take i bodies ++ w ∷ []) (sym at))
    ∙ list_any-append (pings_said number) (take i bodies) (word ∷ [])) ∙ h))
  where
    by : (list_any (pings_said number) (take i bodies) ≡ true) ⊎ ((pings_said number word || false) ≡ true) →
        is_among e1 (RoundTrip to number) ≡ false
    by (inl was) = gone_on p e p1 e1 (RoundTrip to number) moved (before was)
    by (inr is) = now (or_none (pings_said number word) is)
      where
        or_none : (b : Bool) → (b || false) ≡ true → b ≡ true
        or_none true g = refl
        or_none false g = g

-- an early one isn't answered
unanswered : (n : ℕ) (said : List Saying) (ticks : ℕ) (s : Saying) → is_early n said s ≡ true →
    answer_to ticks said s ≡ None
unanswered n said ticks (RoundTrip to number) e = at (nat_lt to n) (is_among said (Ping number)) e
  where
    at : (l b : Bool) → (l && not b) ≡ true →
        cond b (Some (body.Rtt record { to = to; number = number; ticks = ticks - 16 * number })) None ≡ None
    at true false h = refl
    at true true h = absurd (true≢false (sym h))
    at false b h = absurd (true≢false (sym h))
unanswered n said ticks (Ping a) e = refl
unanswered n said ticks (Pong a b) e = absurd (true≢false (sym e))
unanswered n said ticks (Report a b) e = refl
unanswered n said ticks (Bound a) e = refl
unanswered n said ticks (Vote a) e = refl

none_put_in : (f : Saying → Option Body) (x : Saying) (list : List Saying) → f x ≡ None →
    filter_map f (insert_key order list x) ≡ filter_map f list
none_put_in f x [] none = ap (λ (o : Option Body). cons_option o []) none
none_put_in f x (y ∷ rest) none = at (order x y) (none_put_in f x rest none)
  where
    at : (o : Ordering) → filter_map f (insert_key order rest x) ≡ filter_map f rest →
        filter_map f (match_ordering o (x ∷ y ∷ rest) (y ∷ rest) (y ∷ insert_key order rest x)) ≡ cons_option
        (f y) (filter_map f rest)
    at Less more = ap (λ (o : Option Body). cons_option o (cons_option (f y) (filter_map f rest))) none
    at Equal more = refl
    at Greater more = ap (cons_option (f y)) more

pub answers_with : (n : ℕ) (said : List Saying) (ticks : ℕ) (list early : List Saying) → AllEarly n said early →
    filter_map (answer_to ticks said) (with_all list early) ≡ filter_map (answer_to ticks said) list
answers_with n said ticks list [] all = refl
answers_with n said ticks list (x ∷ rest) all =
    none_put_in (answer_to ticks said) x (with_all list rest)
    (unanswered n said ticks x (first_early n said x rest all)) ∙ answers_with n said ticks list rest
    (rest_early n said x rest all)

pub answers_begin : (n : ℕ) (kept : MeasureState) (pending early iterator : List Saying) (items : List Body) →
    iterator ≡ pending → with_all pending early ≡ kept.pending → AllEarly n kept.said early
    → items ++ filter_map (answer_to kept.ticks kept.said) iterator ≡ items
    ++ filter_map (answer_to kept.ticks kept.said) kept.pending
answers_begin n kept pending early iterator items same is all =
    ap (λ l. items ++ filter_map (answer_to kept.ticks kept.said) l) same
    ∙ ap (λ l. items ++ l) (sym (answers_with n kept.said kept.ticks pending early all))
    ∙ ap (λ l. items ++ filter_map (answer_to kept.ticks kept.said) l) is

-- one more that is owed
pub more_pending : (pending pending_now early said : List Saying) (x s : Saying) →
    is_among pending_now s ≡ (same_saying x s && not (is_among said s) || is_among pending s)
    → is_among (with_all pending_now early) s ≡ (same_saying x s && not (is_among said s)
    || is_among (with_all pending early) s)
more_pending pending pending_now early said x s more =
    among_with pending_now early s ∙ ap (λ b. is_among early s || b) more ∙ or_middle (is_among early s)
    (same_saying x s && not (is_among said s)) (is_among pending s)
    ∙ ap (λ b. same_saying x s && not (is_among said s) || b) (sym (among_with pending early s))

pub more_early : (pending early early_now said : List Saying) (x s : Saying) →
    is_among early_now s ≡ (same_saying x s && not (is_among said s) || is_among early s)
    → is_among (with_all pending early_now) s ≡ (same_saying x s && not (is_among said s)
    || is_among (with_all pending early) s)
more_early pending early early_now said x s more =
    among_with pending early_now s ∙ ap (λ b. b || is_among pending s) more
    ∙ sym (or_assoc (same_saying x s && not (is_among said s)) (is_among early s) (is_among pending s))
    ∙ ap (λ b. same_saying x s && not (is_among said s) || b) (sym (among_with pending early s))

-- what was said is no longer owed
pub settled_with : (pending pending_now early : List Saying) (bodies : List Body) (s : Saying) →
    is_among pending_now s ≡ (not (list_any (says s) bodies) && is_among pending s) →
    (is_among early s ≡ true → list_any (says s) bodies ≡ false)
    → is_among (with_all pending_now early) s ≡ (not (list_any (says s) bodies) && is_among (with_all pending early) s)
settled_with pending pending_now early bodies s less unsaid =
    among_with pending_now early s ∙ ap (λ b. is_among early s || b) less ∙ at (is_among early s) refl
    ∙ ap (λ b. not (list_any (says s) bodies) && b) (sym (among_with pending early s))
  where
    at : (b : Bool) → is_among early s ≡ b →
        (b || (not (list_any (says s) bodies) && is_among pending s)) ≡ (not (list_any (says s) bodies)
        && (b || is_among pending s))
    at false h = refl
    at true h = sym (ap (λ t. not t && true) (unsaid h))

-- no round trip is due whose ping isn't said
none_append : (p : Body → Bool) (xs ys : List Body) → list_any p xs ≡ false → list_any p ys ≡ false →
    list_any p (xs ++ ys) ≡ false
none_append p xs ys one two = list_any-append p xs ys ∙ ap (λ b. b || list_any p ys) one ∙ two

none_if : (p : Body → Bool) (b : Bool) (word : Body) → p word ≡ false → list_any p (cond b (word ∷ []) []) ≡ false
none_if p true word e = ap (λ t. t || false) e
none_if p false word e = refl

no_answer : (to number ticks : ℕ) (said list : List Saying) → is_among said (Ping number) ≡ false →
    list_any (round_trips_said to number) (filter_map (answer_to ticks said) list) ≡ false
no_answer to number ticks said [] unsaid = refl
no_answer to number ticks said (RoundTrip j m ∷ rest) unsaid =
    at (is_among said (Ping m)) refl (no_answer to number ticks said rest unsaid)
  where
    differ : is_among said (Ping m) ≡ true → (e : Bool) → nat_eq m number ≡ e → (nat_eq j to && e) ≡ false
    differ known false h = and-false (nat_eq j to)
    differ known true h = absurd
        (true≢false (sym known ∙ ap (λ i. is_among said (Ping i)) (eqb-true m number h) ∙ unsaid))

    at : (b : Bool) → is_among said (Ping m) ≡ b →
        list_any (round_trips_said to number) (filter_map (answer_to ticks said) rest) ≡ false
        → list_any (round_trips_said to number)
        (cons_option (cond b (Some (body.Rtt record { to = j; number = m; ticks = ticks - 16 * m })) None)
        (filter_map (answer_to ticks said) rest)) ≡ false
    at false e more = more
    at true e more = ap (λ t. t || list_any (round_trips_said to number) (filter_map (answer_to ticks said) rest))
        (differ e (nat_eq m number) refl) ∙ more
no_answer to number ticks said (Ping a ∷ rest) unsaid = no_answer to number ticks said rest unsaid
no_answer to number ticks said (Pong a b ∷ rest) unsaid = no_answer to number ticks said rest unsaid
no_answer to number ticks said (Report a b ∷ rest) unsaid = no_answer to number ticks said rest unsaid
no_answer to number ticks said (Bound a ∷ rest) unsaid = no_answer to number ticks said rest unsaid
no_answer to number ticks said (Vote a ∷ rest) unsaid = no_answer to number ticks said rest unsaid

pub trip_not_due : (kept : MeasureState) (v : ℕ) (at_tick : Bool) (to number : ℕ) →
    is_among kept.said (Ping number) ≡ false → list_any (round_trips_said to number) (due_kept kept v at_tick) ≡ false
trip_not_due kept v at_tick to number unsaid =
    none_append trip (pings ++ answers ++ report_due_kept kept v at_tick ++ bound_due_kept kept v at_tick)
    (vote_due_kept kept v at_tick)
    (none_append trip (pings ++ answers ++ report_due_kept kept v at_tick) (bound_due_kept kept v at_tick)
    (none_append trip (pings ++ answers) (report_due_kept kept v at_tick)
    (none_append trip pings answers
    (none_if trip (at_tick && nat_eq (kept.ticks % 16) 0) (body.Ping record { number = kept.ticks / 16 }) refl)
    (no_answer to number kept.ticks kept.said kept.pending unsaid))
    (none_if trip (at_tick && nat_lt 0 (waited_in kept v) && nat_eq (waited_in kept v % 8) 0
    && not (is_among kept.said (Report v (waited_in kept v))))
    (body.TatReport record { v = v; ticks = waited_in kept v }) refl))
    (bound (bound_kept kept)))
    (none_if trip (at_tick && nat_lt v 255 && nat_lt (acceptable_kept kept v) (turnaround_kept kept v)
    && not (is_among kept.said (Vote v))) (body.Suspect record { v = v }) refl)
  where
    trip : Body → Bool
    trip = round_trips_said to number

    pings : List Body
    pings = pings_due kept.ticks at_tick

    answers : List Body
    answers = filter_map (answer_to kept.ticks kept.said) kept.pending

    bound : (o : Option ℕ) → list_any (round_trips_said to number)
        (elim o [
          | Some b ↦ cond (at_tick && not (is_among kept.said (Bound v)))
              (body.TatBound record { v = v; ticks = b } ∷ []) []
          | None ↦ []
        ]) ≡ false
    bound None = refl
    bound (Some b) = none_if (round_trips_said to number) (at_tick && not (is_among kept.said (Bound v)))
        (body.TatBound record { v = v; ticks = b }) refl

waits : (n : ℕ) (said : List Saying) (to number : ℕ) → is_early n said (RoundTrip to number) ≡ true →
    is_among said (Ping number) ≡ false
waits n said to number e =
    not-true (is_among said (Ping number)) ((and_parts (nat_lt to n) (not (is_among said (Ping number))) e).1)

pub early_not_due : (n : ℕ) (kept : MeasureState) (v : ℕ) (at_tick : Bool) (s : Saying) →
    is_early n kept.said s ≡ true → list_any (says s) (due_kept kept v at_tick) ≡ false
early_not_due n kept v at_tick (RoundTrip to number) e =
    trip_not_due kept v at_tick to number (waits n kept.said to number e)
early_not_due n kept v at_tick (Ping a) e = absurd (true≢false (sym e))
early_not_due n kept v at_tick (Pong a b) e = absurd (true≢false (sym e))
early_not_due n kept v at_tick (Report a b) e = absurd (true≢false (sym e))
early_not_due n kept v at_tick (Bound a) e = absurd (true≢false (sym e))
early_not_due n kept v at_tick (Vote a) e = absurd (true≢false (sym e))

-- the same measures with other answers owed, and other words said
abbrev pub with_owed : MeasureState → List Saying → List Saying → MeasureState
with_owed kept pending said = record kept { pending = pending; said = said }

pub on_any_err : {X E P : Type 0} (r : Result X E) → P → OnErr r P
on_any_err (Ok x) p = tt
on_any_err (Err e) p = p
