-- What loops over the masters make.
use Rattle.std.proofs.Common.{◌≡◌, ℕ, ◌+◌, ◌-◌, ◌*◌, ◌<◌, ◌≤◌, Bool, true, false, cond, not, List, [], ◌∷◌, Option}
use Rattle.std.proofs.Common.{Some, None, map, filter, length, reverse, nat_eq, nat_le, refl, sym, ◌∙◌, ap, arith}
use Rattle.std.specs.List.{filter_map, cons_option, slice_index_or}
use Rattle.std.specs.Option.{option_map, unwrap_or}
use Rattle.std.specs.Prelude.{slice_index}
use Rattle.std.proofs.lemmas.Bool.{le-leb, lt-leb}
use Rattle.std.proofs.lemmas.List.{length-map}
use Rattle.quorum_sets.specs.Masters.{numbers_below}
use Rattle.quorum_sets.specs.declared.sizes.Sizes.{Sizes}
use Rattle.message_types.specs.declared.signed.Signed.{Signed}
use Rattle.message_types.specs.declared.measures.Rtt.{Rtt}
use Rattle.message_types.specs.declared.body.Body.{Body}
use Rattle.protocol_rules.specs.Words.{in_order, greatest_of, first_of_list, best_by}
use Rattle.protocol_rules.specs.Group.{Group}
use Rattle.protocol_rules.specs.Measures.{Told, report_in, bound_in, round_trip_in, turnaround, acceptable}
use Rattle.protocol_rules.specs.Measures.{round_trips, own_bound}
use Rattle.suspect_leader.specs.MeasureState.{MeasureState, IsMeasureOf, told_at, figure_of, figure_at}
use Rattle.suspect_leader.specs.MeasureState.{turnaround_kept, acceptable_kept, figures_kept, bound_kept}
use Rattle.suspect_leader.proofs.Words.{later_trip}
use Rattle.suspect_leader.proofs.Ranks.{length_in_order}
use Rattle.quorum_sets.proofs.Numbered.{filter_map_few, length-numbers_below, filter_map_below, map_below}

pub intruded_few : (sizes : Sizes) → sizes.f < sizes.n
intruded_few sizes = few sizes.f sizes.k sizes.n sizes.all
  where
    few : (f k n : ℕ) → n ≡ 3 * f + 2 * k + 1 → f < n
    few f k n e = omega arith

-- one figure for each master below n
pub ranked_length : (f : ℕ → ℕ) (n : ℕ) → length (in_order (map f (numbers_below n))) ≡ n
ranked_length f n = length_in_order (map f (numbers_below n)) ∙ length-map (numbers_below n) f ∙ length-numbers_below n

pub ranked_some : (f : ℕ → Option ℕ) (n : ℕ) → length (in_order (filter_map f (numbers_below n))) ≤ n
ranked_some f n = omega (arith, length_in_order (filter_map f (numbers_below n)), filter_map_few f n)

pub turnaround_is : (g : Group) (me : ℕ) (kept : MeasureState) (told : List Told) (known : List (Signed Body))
    (said : List Body) (v : ℕ) → IsMeasureOf g me kept told known said
    → turnaround_kept kept v ≡ turnaround g known v
unfolding turnaround
turnaround_is g me kept told known said v is =
    ap (λ n. slice_index (in_order (map (λ j. unwrap_or (told_at kept.reports v j) 0) (numbers_below n)))
    kept.group.f) is.masters
    ∙ ap (slice_index (in_order (map (λ j. unwrap_or (told_at kept.reports v j) 0) (numbers_below g.n)))) is.intruded
    ∙ ap (λ xs. slice_index (in_order xs) g.f)
    (map_below (λ j. unwrap_or (told_at kept.reports v j) 0) (λ j. greatest_of (filter_map (report_in v j) known))
    g.n (λ j lt. is.reports v j lt))

pub acceptable_is : (g : Group) (me : ℕ) (kept : MeasureState) (told : List Told) (known : List (Signed Body))
    (said : List Body) (v : ℕ) → IsMeasureOf g me kept told known said
    → acceptable_kept kept v ≡ acceptable g known v
unfolding acceptable
acceptable_is g me kept told known said v is =
    ap (λ n. slice_index (reverse (in_order (map (λ j. unwrap_or (told_at kept.bounds v j) 16) (numbers_below n))))
    kept.group.f) is.masters
    ∙ ap (slice_index (reverse (in_order (map (λ j. unwrap_or (told_at kept.bounds v j) 16) (numbers_below g.n)))))
    is.intruded
    ∙ ap (λ xs. slice_index (reverse (in_order xs)) g.f)
    (map_below (λ j. unwrap_or (told_at kept.bounds v j) 16)
    (λ j. unwrap_or (first_of_list (filter_map (bound_in v j) known)) 16) g.n
    (λ j lt. ap (λ o. unwrap_or o 16) (is.bounds v j lt)))

-- the figure of a master that passes and has one
abbrev figure_if : (ℕ → Option Rtt) → (ℕ → Bool) → ℕ → Option ℕ
figure_if best p m = cond (p m) (option_map figure_of (best m)) None

-- the figures of a first master and others, by the first one's test: as they are filtered, and one by one
abbrev figures_kept_by : (ℕ → Option Rtt) → (ℕ → Bool) → ℕ → List ℕ → Bool → List ℕ
figures_kept_by best p x rest b = map figure_of (filter_map best (cond b (x ∷ filter p rest) (filter p rest)))

abbrev figures_with : (ℕ → Option Rtt) → (ℕ → Bool) → ℕ → List ℕ → Bool → List ℕ
figures_with best p x rest b =
    cons_option (cond b (option_map figure_of (best x)) None) (filter_map (figure_if best p) rest)

-- the figures of the masters that pass
figures_are : (best : ℕ → Option Rtt) (p : ℕ → Bool) (xs : List ℕ) →
    map figure_of (filter_map best (filter p xs)) ≡ filter_map (figure_if best p) xs
figures_are best p [] = refl
figures_are best p (x ∷ rest) = at (p x) refl (best x) refl (figures_are best p rest)
  where
    at : (b : Bool) → p x ≡ b → (o : Option Rtt) → best x ≡ o →
        map figure_of (filter_map best (filter p rest)) ≡ filter_map
        (figure_if best p) rest
        → map figure_of (filter_map best (filter p (x ∷ rest))) ≡ filter_map
        (figure_if best p) (x ∷ rest)
    at false e o h more =
        ap (figures_kept_by best p x rest) e ∙ more
        ∙ sym (ap (figures_with best p x rest) e)
    at true e None h more =
        ap (figures_kept_by best p x rest) e
        ∙ ap (λ v. map figure_of (cons_option v (filter_map best (filter p rest)))) h ∙ more
        ∙ sym (ap (figures_with best p x rest) e
        ∙ ap (λ v. cons_option (option_map figure_of v)
        (filter_map (figure_if best p) rest)) h)
    at true e (Some y) h more =
        ap (figures_kept_by best p x rest) e
        ∙ ap (λ v. map figure_of (cons_option v (filter_map best (filter p rest)))) h ∙ ap (λ l. figure_of y ∷ l) more
        ∙ sym (ap (figures_with best p x rest) e
        ∙ ap (λ v. cons_option (option_map figure_of v)
        (filter_map (figure_if best p) rest)) h)

cond_not : {X : Type 0} (b : Bool) (o : Option X) → cond b None o ≡ cond (not b) o None
cond_not true o = refl
cond_not false o = refl

round_trips_are : (g : Group) (me : ℕ) (kept : MeasureState) (told : List Told) (known : List (Signed Body))
    (said : List Body) → IsMeasureOf g me kept told known said
    → filter_map (figure_at kept) (numbers_below kept.group.n) ≡ round_trips g me known
round_trips_are g me kept told known said is =
    ap (λ n. filter_map (figure_at kept) (numbers_below n)) is.masters
    ∙ filter_map_below (figure_at kept)
    (λ m. cond (not (nat_eq m me))
    (option_map figure_of (best_by later_trip (filter_map (round_trip_in me m) known))) None) g.n
    (λ j lt. ap (λ i. cond (nat_eq j i) None (option_map figure_of (slice_index_or kept.trips j None))) is.own
    ∙ ap (λ o. cond (nat_eq j me) None (option_map figure_of o)) (is.trips j lt)
    ∙ cond_not (nat_eq j me) (option_map figure_of (best_by later_trip (filter_map (round_trip_in me j) known))))
    ∙ sym (figures_are (λ m. best_by later_trip (filter_map (round_trip_in me m) known)) (λ m. not (nat_eq m me))
    (numbers_below g.n))

pub own_bound_is : (g : Group) (me : ℕ) (kept : MeasureState) (told : List Told) (known : List (Signed Body))
    (said : List Body) → IsMeasureOf g me kept told known said → bound_kept kept ≡ own_bound g me known
unfolding own_bound
own_bound_is g me kept told known said is =
    ap (λ xs. cond (nat_le (kept.group.q - 1) (length xs)) (Some (slice_index (reverse (in_order xs)) kept.group.f))
    None) (round_trips_are g me kept told known said is)
    ∙ ap (λ q. cond (nat_le (q - 1) (length (round_trips g me known)))
    (Some (slice_index (reverse (in_order (round_trips g me known))) kept.group.f)) None) is.quorum
    ∙ ap (λ f. cond (nat_le (g.q - 1) (length (round_trips g me known)))
    (Some (slice_index (reverse (in_order (round_trips g me known))) f)) None) is.intruded

pub quorum_size : (sizes : Sizes) → sizes.f + 2 ≤ sizes.q
quorum_size sizes = some sizes.f sizes.k sizes.q sizes.group.some_may_be_intruded sizes.quorum
  where
    some : (f k q : ℕ) → 1 ≤ f → q ≡ 2 * f + k + 1 → f + 2 ≤ q
    some f k q least e = omega arith

-- the own bound by how many figures there are
pub bound_none : (kept : MeasureState) (ranked : List ℕ) → ranked ≡ in_order (figures_kept kept) →
    length ranked + 1 < kept.group.q → None ≡ bound_kept kept
bound_none kept ranked e few =
    let count : length ranked ≡ length (figures_kept kept) = ap length e ∙ length_in_order (figures_kept kept) in
    sym (ap (λ b. cond b (Some (slice_index (reverse (in_order (figures_kept kept))) kept.group.f)) None)
    (lt-leb (kept.group.q - 1) (length (figures_kept kept)) (omega arith)))

pub bound_some : (kept : MeasureState) (ranked : List ℕ) (x : ℕ) → ranked ≡ in_order (figures_kept kept) →
    kept.group.q ≤ length ranked + 1 → x ≡ slice_index (reverse ranked) kept.group.f → Some x ≡ bound_kept kept
bound_some kept ranked x e enough is =
    let count : length ranked ≡ length (figures_kept kept) = ap length e ∙ length_in_order (figures_kept kept) in
    ap Some (is ∙ ap (λ l. slice_index (reverse l) kept.group.f) e)
    ∙ sym (ap (λ b. cond b (Some (slice_index (reverse (in_order (figures_kept kept))) kept.group.f)) None)
    (le-leb (kept.group.q - 1) (length (figures_kept kept)) (omega arith)))
