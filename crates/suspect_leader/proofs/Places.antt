-- What is due is in its place as a word of the master.
use Rattle.std.proofs.Common.{◌≡◌, ℕ, zero, suc, ◌-◌, ◌*◌, ◌%◌, ◌<◌, ◌≤◌, Bool, true, false, cond, ◌&&◌, ◌||◌, not}
use Rattle.std.proofs.Common.{List, [], ◌∷◌, Option, Some, None, length, reverse, get_or, nat_eq, nat_lt, nat_le}
use Rattle.std.proofs.Common.{refl, sym, ◌∙◌, ap, subst, inl, inr, ◌⊎◌, arith}
use Rattle.std.specs.List.{list_all, filter_map, cons_option, slice_index_or}
use Rattle.std.specs.Option.{option_map}
use Rattle.std.proofs.lemmas.Bool.{or_right, true≢false, le-leb, lt-ltb, cases_lt}
use Rattle.std.proofs.lemmas.List.{get_or-reverse, get_or_past, length-reverse}
use Rattle.quorum_sets.specs.Masters.{numbers_below}
use Rattle.message_types.specs.declared.signed.Signed.{Signed}
use Rattle.message_types.specs.declared.measures.Rtt.{Rtt}
use Rattle.message_types.specs.declared.body.Body.{Body}
use Rattle.message_types.specs.declared.body.Body.TheVariants as body
use Rattle.protocol_rules.specs.Words.{in_order}
use Rattle.protocol_rules.specs.Group.{Group, most_view}
use Rattle.protocol_rules.specs.Measures.{Told, pings_due}
use Rattle.suspect_leader.specs.declared.saying.Saying.{Saying}
use Rattle.suspect_leader.specs.declared.saying.Saying.TheVariants.{Ping, Pong, RoundTrip, Report, Bound, Vote}
use Rattle.suspect_leader.specs.Sayings.{same_saying, is_among, is_pending}
use Rattle.suspect_leader.specs.MeasureState.{MeasureState, IsMeasureOf, waited_in, ticks_in, figure_of, figure_at}
use Rattle.suspect_leader.specs.MeasureState.{figures_kept, acceptable_kept, turnaround_kept, answer_to}
use Rattle.suspect_leader.specs.MeasureState.{report_due_kept, bound_due_kept, vote_due_kept, due_kept}
use Rattle.suspect_leader.specs.MeasureState.{is_word_in_place}
use Rattle.suspect_leader.proofs.Order.{same_itself}
use Rattle.suspect_leader.proofs.Rising.{Each, each_put, each_append}

abbrev Fit : Group → ℕ → Body → Type 0
Fit g me word = is_word_in_place g me word ≡ true

pub all_fit : (g : Group) (me : ℕ) (bodies : List Body) → Each (Fit g me) bodies →
    list_all (is_word_in_place g me) bodies ≡ true
all_fit g me [] all = refl
all_fit g me (word ∷ rest) all = ap (λ b. b && list_all (is_word_in_place g me) rest) all.0 ∙ all_fit g me rest all.1

if_due : (P : Body → Type 0) (b : Bool) (word : Body) → (b ≡ true → P word) → Each P (cond b (word ∷ []) [])
if_due P true word f = (f refl, tt)
if_due P false word f = tt

pings_fit : (g : Group) (me ticks : ℕ) (at_tick : Bool) → nat_lt me g.n ≡ true →
    Each (Fit g me) (pings_due ticks at_tick)
pings_fit g me ticks at_tick own = if_due (Fit g me) (at_tick && nat_eq (ticks % 16) 0) _ (λ _. ap (λ b. b && true) own)

-- whose answer it is
abbrev IsOfGroup : Group → Saying → Type 0
IsOfGroup g (Pong to number) = nat_lt to g.n ≡ true
IsOfGroup g (RoundTrip to number) = nat_lt to g.n ≡ true
IsOfGroup g (Ping number) = Unit {0}
IsOfGroup g (Report v ticks) = Unit {0}
IsOfGroup g (Bound v) = Unit {0}
IsOfGroup g (Vote v) = Unit {0}

first_of_four : (a b d e : Bool) → (a && b && d && e) ≡ true → a ≡ true
first_of_four true b d e h = refl
first_of_four false b d e h = absurd (true≢false (sym h))

first_of_three : (a b d : Bool) → (a && b && d) ≡ true → a ≡ true
first_of_three true b d h = refl
first_of_three false b d h = absurd (true≢false (sym h))

pending_of_group : (g : Group) (me : ℕ) (known : List (Signed Body)) (said : List Body) (s : Saying) →
    is_pending g me known said s ≡ true → IsOfGroup g s
pending_of_group g me known said (Pong to number) h = first_of_four (nat_lt to g.n) _ _ _ h
pending_of_group g me known said (RoundTrip to number) h = first_of_three (nat_lt to g.n) _ _ h
pending_of_group g me known said (Ping number) h = tt
pending_of_group g me known said (Report v ticks) h = tt
pending_of_group g me known said (Bound v) h = tt
pending_of_group g me known said (Vote v) h = tt

each_among : (P : Saying → Type 0) (xs : List Saying) → ((s : Saying) → is_among xs s ≡ true → P s) → Each P xs
each_among P [] f = tt
each_among P (x ∷ rest) f = (
  f x (ap (λ b. b || is_among rest x) (same_itself x)),
  each_among P rest (λ s h. f s (or_right (same_saying s x) (is_among rest s) h)),
)

answers_fit : (g : Group) (me ticks : ℕ) (counted pending : List Saying) → nat_lt me g.n ≡ true → ticks ≤ 4294967296 →
    Each (IsOfGroup g) pending → Each (Fit g me) (filter_map (answer_to ticks counted) pending)
answers_fit g me ticks counted [] own few all = tt
answers_fit g me ticks counted (Pong to number ∷ rest) own few all =
    (ap (λ b. b && nat_lt to g.n) own ∙ all.0, answers_fit g me ticks counted rest own few all.1)
answers_fit g me ticks counted (RoundTrip to number ∷ rest) own few all =
    at (is_among counted (Ping number)) (answers_fit g me ticks counted rest own few all.1)
  where
    at : (b : Bool) → Each (Fit g me) (filter_map (answer_to ticks counted) rest) →
        Each (Fit g me) (cons_option
        (cond b (Some (body.Rtt record { to = to; number = number; ticks = ticks - 16 * number })) None)
        (filter_map (answer_to ticks counted) rest))
    at false more = more
    at true more = (
      ap (λ b. b && (nat_lt to g.n && nat_le (ticks - 16 * number) 4294967296)) own
          ∙ ap (λ b. b && nat_le (ticks - 16 * number) 4294967296) all.0 ∙ le-leb (ticks - 16 * number) 4294967296
          (omega (arith, few)),
      more,
    )
answers_fit g me ticks counted (Ping number ∷ rest) own few all = answers_fit g me ticks counted rest own few all.1
answers_fit g me ticks counted (Report v t ∷ rest) own few all = answers_fit g me ticks counted rest own few all.1
answers_fit g me ticks counted (Bound v ∷ rest) own few all = answers_fit g me ticks counted rest own few all.1
answers_fit g me ticks counted (Vote v ∷ rest) own few all = answers_fit g me ticks counted rest own few all.1

waited_few : (kept : MeasureState) (v most : ℕ) → kept.waited ≤ most → waited_in kept v ≤ most
waited_few kept v most few = at (nat_eq v kept.view)
  where
    at : (b : Bool) → cond b kept.waited 0 ≤ most
    at true = few
    at false = omega arith

view_fits : (v : ℕ) → v ≤ most_view → nat_le v most_view ≡ true
view_fits v h = le-leb v most_view h

reports_fit : (g : Group) (me : ℕ) (kept : MeasureState) (v : ℕ) (at_tick : Bool) → nat_lt me g.n ≡ true →
    v ≤ most_view → kept.waited ≤ 4294967296 → Each (Fit g me) (report_due_kept kept v at_tick)
reports_fit g me kept v at_tick own view few =
    if_due (Fit g me) (at_tick && nat_lt 0 (waited_in kept v) && nat_eq (waited_in kept v % 8) 0
    && not (is_among kept.said (Report v (waited_in kept v)))) _
    (λ _. ap (λ b. b && (nat_le v most_view && nat_le (waited_in kept v) 4294967296)) own
    ∙ ap (λ b. b && nat_le (waited_in kept v) 4294967296) (view_fits v view)
    ∙ le-leb (waited_in kept v) 4294967296 (waited_few kept v 4294967296 few))

-- no figure is above twice the most ticks and four
figures_few : (kept : MeasureState) → ((j : ℕ) → ticks_in (slice_index_or kept.trips j None) ≤ 4294967296) →
    (masters : List ℕ) → Each (λ x. x ≤ 8589934596) (filter_map (figure_at kept) masters)
figures_few kept few [] = tt
figures_few kept few (m ∷ rest) = at (nat_eq m kept.me) (slice_index_or kept.trips m None) (few m)
    (figures_few kept few rest)
  where
    at : (b : Bool) (o : Option Rtt) → ticks_in o ≤ 4294967296 →
        Each (λ x. x ≤ 8589934596) (filter_map (figure_at kept) rest) →
        Each (λ x. x ≤ 8589934596)
        (cons_option (cond b None (option_map figure_of o)) (filter_map (figure_at kept) rest))
    at true o h more = more
    at false None h more = more
    at false (Some b) h more = (omega (arith, h), more)

in_order_few : (most : ℕ) (xs : List ℕ) → Each (λ x. x ≤ most) xs → Each (λ x. x ≤ most) (in_order xs)
unfolding in_order
in_order_few most [] all = tt
in_order_few most (x ∷ rest) all = each_put (λ y. y ≤ most) x (in_order rest) all.0 (in_order_few most rest all.1)

at_few : (most : ℕ) (xs : List ℕ) (k : ℕ) → Each (λ x. x ≤ most) xs → get_or xs k 0 ≤ most
at_few most [] k all = omega arith
at_few most (x ∷ rest) zero all = all.0
at_few most (x ∷ rest) (suc k) all = at_few most rest k all.1

reverse_few : (most : ℕ) (xs : List ℕ) (k : ℕ) → Each (λ x. x ≤ most) xs → get_or (reverse xs) k 0 ≤ most
reverse_few most xs k all = by (cases_lt k (length xs))
  where
    by : (k < length xs) ⊎ (length xs ≤ k) → get_or (reverse xs) k 0 ≤ most
    by (inl lt) = subst (λ y. y ≤ most) (sym (get_or-reverse xs k 0 lt)) (at_few most xs (length xs - 1 - k) all)
    by (inr le) =
        let past : get_or (reverse xs) k 0 ≡ 0 =
        get_or_past (reverse xs) k 0 (subst (λ n. n ≤ k) (sym (length-reverse xs)) le) in
        omega (arith, past)

bounds_fit : (g : Group) (me : ℕ) (kept : MeasureState) (v : ℕ) (at_tick : Bool) → nat_lt me g.n ≡ true →
    v ≤ most_view → ((j : ℕ) → ticks_in (slice_index_or kept.trips j None) ≤ 4294967296) →
    Each (Fit g me) (bound_due_kept kept v at_tick)
bounds_fit g me kept v at_tick own view few = at (nat_le (kept.group.q - 1) (length (figures_kept kept)))
  where
    most : get_or (reverse (in_order (figures_kept kept))) kept.group.f 0 ≤ 8589934596
    most = reverse_few 8589934596 (in_order (figures_kept kept)) kept.group.f
        (in_order_few 8589934596 (figures_kept kept) (figures_few kept few (numbers_below kept.group.n)))

    at : (b : Bool) → Each (Fit g me)
        (elim (cond b (Some (get_or (reverse (in_order (figures_kept kept))) kept.group.f 0)) None) [
          | Some bound ↦ cond (at_tick && not (is_among kept.said (Bound v)))
              (body.TatBound record { v = v; ticks = bound } ∷ []) []
          | None ↦ []
        ])
    at false = tt
    at true =
        if_due (Fit g me) (at_tick && not (is_among kept.said (Bound v))) _
        (λ _. ap (λ b. b && (nat_le v most_view
        && nat_le (get_or (reverse (in_order (figures_kept kept))) kept.group.f 0) 8589934596)) own
        ∙ ap (λ b. b && nat_le (get_or (reverse (in_order (figures_kept kept))) kept.group.f 0) 8589934596)
        (view_fits v view) ∙ le-leb (get_or (reverse (in_order (figures_kept kept))) kept.group.f 0)
        8589934596 most)

second_of_four : (a b d e : Bool) → (a && b && d && e) ≡ true → b ≡ true
second_of_four true true d e h = refl
second_of_four true false d e h = absurd (true≢false (sym h))
second_of_four false b d e h = absurd (true≢false (sym h))

votes_fit : (g : Group) (me : ℕ) (kept : MeasureState) (v : ℕ) (at_tick : Bool) → nat_lt me g.n ≡ true →
    Each (Fit g me) (vote_due_kept kept v at_tick)
unfolding most_view
votes_fit g me kept v at_tick own =
    if_due (Fit g me) (at_tick && nat_lt v 255 && nat_lt (acceptable_kept kept v) (turnaround_kept kept v)
    && not (is_among kept.said (Vote v))) _
    (λ due. ap (λ b. b && nat_lt v 255) own ∙ second_of_four at_tick (nat_lt v 255)
    (nat_lt (acceptable_kept kept v) (turnaround_kept kept v)) (not (is_among kept.said (Vote v))) due)

pub due_fit : (g : Group) (me : ℕ) (kept : MeasureState) (told : List Told) (known : List (Signed Body))
    (said : List Body) (v : ℕ) (at_tick : Bool)
    → kept.ticks ≤ 4294967296 → kept.waited ≤ kept.ticks →
    ((j : ℕ) → ticks_in (slice_index_or kept.trips j None) ≤ 4294967296) → me < g.n → v ≤ most_view
    → IsMeasureOf g me kept told known said → list_all (is_word_in_place g me) (due_kept kept v at_tick) ≡ true
due_fit g me kept told known said v at_tick few less trips within view is =
    all_fit g me (due_kept kept v at_tick)
    (each_append (Fit g me) _ (vote_due_kept kept v at_tick)
    (each_append (Fit g me) _ (bound_due_kept kept v at_tick)
    (each_append (Fit g me) _ (report_due_kept kept v at_tick)
    (each_append (Fit g me) (pings_due kept.ticks at_tick) (filter_map (answer_to kept.ticks kept.said) kept.pending)
    (pings_fit g me kept.ticks at_tick own)
    (answers_fit g me kept.ticks kept.said kept.pending own few
    (each_among (IsOfGroup g) kept.pending (λ s h. pending_of_group g me known said s (sym (is.pending s) ∙ h)))))
    (reports_fit g me kept v at_tick own view (omega (arith, few, less))))
    (bounds_fit g me kept v at_tick own view trips))
    (votes_fit g me kept v at_tick own))
  where
    own : nat_lt me g.n ≡ true
    own = lt-ltb me g.n within
