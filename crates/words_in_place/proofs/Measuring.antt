-- Words on measures that a master says: what they tell of ticks is no more than the ticks that it has had.
use Rattle.std.proofs.Common.{◌≡◌, ℕ, ◌+◌, ◌-◌, ◌*◌, ◌^◌, ◌≤◌, suc, Bool, true, false, cond, ◌&&◌, not, List, [], ◌∷◌}
use Rattle.std.proofs.Common.{◌++◌, Option, Some, None, length, filter, reverse, nat_eq, nat_lt, nat_le, refl, ◌∙◌}
use Rattle.std.proofs.Common.{ap, subst, arith, min, ◌<◌}
use Rattle.std.specs.List.{list_any, filter_map}
use Rattle.std.proofs.lemmas.Bool.{and_from, and_parts, leb-true, le-leb, lt-ltb}
use Rattle.std.proofs.lemmas.List.{reverse-append}
use Rattle.plain_lists.specs.Lists.{Each}
use Rattle.plain_lists.proofs.Members.{each_none, each_one, each_if, each_map, each_flat_map, in_filter_from, in_filter_map_from, none_some}
use Rattle.quorum_sets.specs.Masters.{numbers_below}
use Rattle.message_types.specs.declared.signed.Signed.{Signed}
use Rattle.message_types.specs.declared.measures.Rtt.{Rtt}
use Rattle.message_types.specs.declared.body.Body.{Body}
use Rattle.message_types.specs.declared.body.Body.TheVariants as body
use Rattle.protocol_rules.specs.Words.{best_by, in_order, numbers_from}
use Rattle.protocol_rules.specs.Group.{Group, most_view}
use Rattle.protocol_rules.specs.Places.{in_place, is_view}
use Rattle.protocol_rules.specs.Measures.{Told, ticks_of, ticks_while_waiting, waited, pings_due, pongs_due}
use Rattle.protocol_rules.specs.Measures.{pongs_due_to, round_trips_due, round_trips_due_from, tat_reports_due}
use Rattle.protocol_rules.specs.Measures.{round_trip_in, round_trips, own_bound, tat_bounds_said, tat_bounds_due}
use Rattle.protocol_rules.specs.Measures.{suspects_due}
use Rattle.protocol_rules.specs.Patience.{patience, votes_to, votes_due}
use Rattle.protocol_rules.specs.Views.{view}
use Rattle.protocol_rules.specs.Master.{Heard, told_of, known_at, waits}
use Rattle.agreement.proofs.QuorumsMeet.{below_from}
use Rattle.agreement.proofs.SpokenByKind.{if_some}
use Rattle.agreement.proofs.FramesInside.{best_in}
use Rattle.words_in_place.proofs.Limits.{filter_more, each_in_order, each_reverse, index_within, from_bounds}
use Rattle.words_in_place.proofs.Ordering.{WordPlaced}

-- the measures are told of each tick
pub ticks_told : (g : Group) (before rest : List Heard) →
    ticks_of (told_of g before rest) ≡ length (filter (λ e. e.is_tick) rest)
ticks_told g before [] = refl
ticks_told g before (e ∷ rest) = by_tick e.is_tick (ticks_told g (before ++ e ∷ []) rest)
  where
    later : List Told
    later = told_of g (before ++ e ∷ []) rest

    by_tick : (b : Bool) → ticks_of later ≡ length (filter (λ e. e.is_tick) rest)
        → length {A = Told} (cond b
        (record {
          is_tick = e.is_tick;
          view = view g (known_at before e.took);
          waits =
              waits g (known_at before e.took);
        } ∷ filter (λ e. e.is_tick) later) (filter (λ e. e.is_tick) later))
        ≡ length {A = Heard} (cond b (e ∷ filter (λ e. e.is_tick) rest) (filter (λ e. e.is_tick) rest))
    by_tick true same = ap suc same
    by_tick false same = same

filter_reverse : {X : Type 0} (f : X → Bool) (xs : List X) → length (filter f (reverse xs)) ≡ length (filter f xs)
filter_reverse f [] = refl
filter_reverse {X} f (x ∷ xs) = ap (λ (ys : List X). length (filter f ys)) (reverse-append (x ∷ []) xs)
    ∙ filter_more f (reverse xs) x ∙ ap (λ k. k + cond (f x) 1 0) (filter_reverse f xs) ∙ by_test (f x)
  where
    by_test : (b : Bool) → length (filter f xs) + cond b 1 0 ≡ length {A = X} (cond b (x ∷ filter f xs) (filter f xs))
    by_test true = omega arith
    by_test false = omega arith

waiting_within : (v : ℕ) (told : List Told) → ticks_while_waiting v told ≤ ticks_of told
waiting_within v [] = omega arith
waiting_within v (e ∷ earlier) = by_tests (e.waits && nat_eq e.view v) e.is_tick (waiting_within v earlier)
  where
    by_tests : (waits tick : Bool) → ticks_while_waiting v earlier ≤ ticks_of earlier
        → cond waits (cond tick 1 0 + ticks_while_waiting v earlier) 0 ≤ length {A = Told}
        (cond tick (e ∷ filter (λ e. e.is_tick) earlier) (filter (λ e. e.is_tick) earlier))
    by_tests true true less = omega arith
    by_tests true false less = omega arith
    by_tests false true less = omega arith
    by_tests false false less = omega arith

-- a master has waited no more ticks than it has had
pub waited_within : (v : ℕ) (told : List Told) → waited v told ≤ ticks_of told
waited_within v told =
    let less : ticks_while_waiting v (reverse told) ≤ ticks_of (reverse told) = waiting_within v (reverse told) in
    let same : ticks_of (reverse told) ≡ ticks_of told = filter_reverse (λ e. e.is_tick) told in
    omega arith

round_trip_from : (g : Group) (me m signer : ℕ) (word : Body) (sig : List ℕ) (b : Rtt) →
    in_place g record { signer = signer; body = word; sig = sig } ≡ true
    → round_trip_in me m record { signer = signer; body = word; sig = sig } ≡ Some b → b.ticks ≤ 4294967296
round_trip_from g me m signer (body.Rtt r) sig b placed e =
    let word = and_parts _ _ (and_parts _ _ placed).1 in
    subst (λ (z : Rtt). z.ticks ≤ 4294967296) (if_some (nat_eq signer m && nat_eq r.to me) e).1
    (leb-true r.ticks 4294967296 word.1)
round_trip_from g me m signer _ sig b placed e = absurd (none_some e)

doubled : (ticks : ℕ) → ticks ≤ 4294967296 → 2 * ticks + 4 ≤ 8589934596
doubled ticks few = omega arith

abbrev later_trip : Rtt → Rtt → Bool
later_trip a b = nat_lt b.number a.number

-- the master's latest round trip to `me`
abbrev last_trip : ℕ → List (Signed Body) → ℕ → Option Rtt
last_trip me known master = best_by later_trip (filter_map (round_trip_in me master) known)

module _ (g : Group) (me : ℕ) (known : List (Signed Body)) (placed : Each (λ p. in_place g p ≡ true) known) where
  trips_within : Each (λ x. x ≤ 8589934596) (round_trips g me known)
  trips_within = each_map (λ (x : ℕ). x ≤ 8589934596) (λ (b : Rtt). 2 * b.ticks + 4) _ (λ b h.
      let master = in_filter_map_from (last_trip me known) (filter (λ m. not (nat_eq m me)) (numbers_below g.n)) h in
      let word = in_filter_map_from (round_trip_in me master.0) known
      (best_in later_trip (filter_map (round_trip_in me master.0) known) master.2) in
      doubled b.ticks (round_trip_from g me master.0 word.0.signer word.0.body word.0.sig b
      (placed word.0 word.1) word.2))

  bound_within : (bound : ℕ) → own_bound g me known ≡ Some bound → nat_le bound 8589934596 ≡ true
  unfolding own_bound
  bound_within bound e = subst (λ (x : ℕ). nat_le x 8589934596 ≡ true) (if_some _ e).1
      (le-leb _ 8589934596 (index_within 8589934596 (reverse (in_order (round_trips g me known))) g.f
      (each_reverse (λ (x : ℕ). x ≤ 8589934596) (in_order (round_trips g me known))
      (each_in_order (λ (x : ℕ). x ≤ 8589934596) (round_trips g me known) trips_within))))

  pub tat_bounds_placed : (said : List Body) (v : ℕ) (at_tick : Bool) → is_view v ≡ true →
      Each (WordPlaced g me) (tat_bounds_due g me known said v at_tick)
  tat_bounds_placed said v at_tick within = by_bound (own_bound g me known) bound_within
    where
      by_bound : (o : Option ℕ) → ((bound : ℕ) → o ≡ Some bound → nat_le bound 8589934596 ≡ true)
          → Each (WordPlaced g me) (elim o [
            | Some bound ↦ cond (at_tick && not (list_any (tat_bounds_said v) said))
                (body.TatBound record { v = v; ticks = bound } ∷ []) []
            | None ↦ []
          ])
      by_bound None small = each_none (WordPlaced g me)
      by_bound (Some bound) small =
          each_if (WordPlaced g me) _ _ []
          (λ _. each_one (WordPlaced g me) (body.TatBound record { v = v; ticks = bound })
          (and_from _ _ within (small bound refl))) (λ _. each_none (WordPlaced g me))

module _ (g : Group) (me : ℕ) (known : List (Signed Body)) (said : List Body) where
  pub pings_placed : (ticks : ℕ) (at_tick : Bool) → Each (WordPlaced g me) (pings_due ticks at_tick)
  pings_placed ticks at_tick = each_if (WordPlaced g me) _ _ [] (λ _. each_one (WordPlaced g me) _ refl)
      (λ _. each_none (WordPlaced g me))

  pub pongs_placed : Each (WordPlaced g me) (pongs_due g me known said)
  pongs_placed = each_flat_map (WordPlaced g me) (pongs_due_to known said) _ (λ master h.
      each_map (WordPlaced g me) _ _
      (λ number _. lt-ltb master g.n
      (below_from g.n master (in_filter_from (λ m. not (nat_eq m me)) (numbers_below g.n) h).0)))

  pub round_trips_placed : (ticks : ℕ) → ticks ≤ 2 ^ 32 → Each (WordPlaced g me) (round_trips_due g me known said ticks)
  round_trips_placed ticks few = each_flat_map (WordPlaced g me) (round_trips_due_from me known said ticks)
      (numbers_below g.n) (λ master h.
      each_map (WordPlaced g me) _ _ (λ number _. and_from _ _ (lt-ltb master g.n (below_from g.n master h))
      (le-leb (ticks - 16 * number) 4294967296 (omega arith))))

  pub tat_reports_placed : (v waiting : ℕ) (at_tick : Bool) → is_view v ≡ true → waiting ≤ 2 ^ 32 →
      Each (WordPlaced g me) (tat_reports_due said v waiting at_tick)
  tat_reports_placed v waiting at_tick within few = each_if (WordPlaced g me) _ _ [] (λ _.
      each_one (WordPlaced g me) (body.TatReport record { v = v; ticks = waiting })
      (and_from _ _ within (le-leb waiting 4294967296 (omega arith)))) (λ _. each_none (WordPlaced g me))

  pub suspects_placed : (v : ℕ) (at_tick : Bool) → Each (WordPlaced g me) (suspects_due g known said v at_tick)
  suspects_placed v at_tick = each_if (WordPlaced g me) _ _ [] (λ holds.
      each_one (WordPlaced g me) (body.Suspect record { v = v })
      (and_parts _ _ (and_parts _ _ (and_parts _ _ holds).0).0).1) (λ _. each_none (WordPlaced g me))

  pub votes_placed : (v waiting now : ℕ) (at_tick : Bool) →
      Each (WordPlaced g me) (votes_due g known said v waiting now at_tick)
  votes_placed v waiting now at_tick =
      let to : ℕ = votes_to g known v (at_tick && nat_lt (patience g v now) waiting) in
      each_map (WordPlaced g me) _ _ (λ w h.
      let bounds = from_bounds 0 (min to most_view) w (in_filter_from _ (numbers_from 0 (min to most_view)) h).0 in
      let below : w < 0 + min to most_view = bounds.1 in
      lt-ltb w most_view (omega arith))
