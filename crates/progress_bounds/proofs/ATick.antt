-- What a correct master says at its ticks: summaries, offered numbers and asks; and that it says nothing about times.
use Rattle.std.proofs.Common.{◌≡◌, ℕ, zero, suc, ◌+◌, ◌*◌, ◌/◌, ◌≤◌, Bool, true, false, cond, ◌&&◌, List, [], ◌∷◌, ◌++◌}
use Rattle.std.proofs.Common.{length, filter, map, take, min, reverse, nat_eq, nat_le, refl, ap, arith}
use Rattle.std.proofs.lemmas.Bool.{false≢true}
use Rattle.std.specs.List.{list_any, find}
use Rattle.message_types.specs.declared.signed.Signed.{Signed}
use Rattle.message_types.specs.declared.body.Body.{Body}
use Rattle.message_types.specs.declared.body.Body.TheVariants as body
use Rattle.protocol_rules.specs.declared.facts.OrderFact.{OrderFact}
use Rattle.protocol_rules.specs.Words.{numbers_from}
use Rattle.protocol_rules.specs.Group.{Group, is_live}
use Rattle.protocol_rules.specs.Facts.{facts_of}
use Rattle.protocol_rules.specs.Order.{plan_known, gapless}
use Rattle.protocol_rules.specs.Patience.{Moment}
use Rattle.protocol_rules.specs.Turns.{is_slow_beat}
use Rattle.protocol_rules.specs.Views.{view, is_open}
use Rattle.protocol_rules.specs.Lacking.{order_asks_due, update_asks_due}
use Rattle.protocol_rules.specs.Master.{known_at, said_before, summary_again_due, summaries_due, is_summary}
use Rattle.protocol_rules.specs.Master.{whole_preprepares_due}
use Rattle.protocol_rules.specs.declared.limits.TheConstants.{SLOW_BEAT}
use Rattle.protocol_rules.proofs.Numbers.{length-numbers_from}
use Rattle.history_rules.specs.Events.{Entry}
use Rattle.history_rules.specs.Setup.{Setup, is_correct_master}
use Rattle.history_rules.specs.Legal.{IsLegal}
use Rattle.words_by_part.specs.Kinds.{is_of, summing, offering, asking, measuring}
use Rattle.words_by_part.specs.Laws.{waiting_at, moments_at}
use Rattle.words_by_part.proofs.Sorting.{Of}
use Rattle.words_by_part.proofs.SaidAlive.{votes_kind}
use Rattle.progress_bounds.specs.Bounds.{FewATick, measured, times, ticks_in, words_by, ticks_by}
use Rattle.progress_bounds.proofs.Counting.{one, Few, few_none, few_append, few_if, few_elim, few_one, few_option, few_each}
use Rattle.std.proofs.lemmas.List.{length-append}
use Rattle.progress_bounds.proofs.Rates.{due, by_part, by_rate, few_part, on_slow_beat, slow_beat_grows}

-- no more pass than there are
few_long : {X : Type 0} (such : X → Bool) (most : ℕ) (xs : List X) → length xs ≤ most → Few such most xs
few_long {X} such most xs short = record { few = let less = fewer xs in omega arith }
  where
    kept : (b : Bool) (x : X) (ys zs : List X) → length zs ≤ length ys → length (cond b (x ∷ zs) zs) ≤ length (x ∷ ys)
    kept true x ys zs less = omega arith
    kept false x ys zs less = omega arith

    fewer : (ys : List X) → length (filter such ys) ≤ length ys
    fewer [] = omega arith
    fewer (y ∷ ys) = kept (such y) y ys (filter such ys) (fewer ys)

length_filter : {X : Type 0} (such : X → Bool) (xs : List X) → length (filter such xs) ≤ length xs
length_filter such xs = (few_long such (length xs) xs (omega arith)).few

length_map : {X Y : Type 0} (f : X → Y) (xs : List X) → length (map f xs) ≡ length xs
length_map f [] = refl
length_map f (x ∷ xs) = ap suc (length_map f xs)

length_take : {X : Type 0} (n : ℕ) (xs : List X) → length (take n xs) ≤ n
length_take zero xs = omega arith
length_take (suc n) [] = omega arith
length_take (suc n) (x ∷ xs) = let less = length_take n xs in omega arith

-- what is said of some kinds is a part
few_kinds : (kinds : List ℕ) (most : ℕ) (all part : List Body) → filter (is_of kinds) all ≡ part → length part ≤ most →
    Few (is_of kinds) most all
few_kinds kinds most all part e short = record {
  few =
      let same : length (filter (is_of kinds) all) ≡ length part = ap length e in
      omega arith;
}

-- all are counted
abbrev any_word : Body → Bool
any_word b = true

few_of : {most : ℕ} {words : List Body} → Few any_word most words → length words ≤ most
few_of {most} {words} f = let h = f.few in let all = passed words in omega arith
  where
    passed : (xs : List Body) → length (filter any_word xs) ≡ length xs
    passed [] = refl
    passed (x ∷ xs) = ap suc (passed xs)

summary_few : (g : Group) (known : List (Signed Body)) (facts : List OrderFact) (said : List Body) (now : ℕ) (at_tick : Bool)
    → Few any_word (one at_tick + on_slow_beat at_tick now)
    (summary_again_due g facts said now at_tick ++ summaries_due g known said at_tick)
summary_few g known facts said now true = few_append any_word (1 + on_slow_beat true now) _ _
    (again (is_slow_beat now) _ (few_option any_word (find is_summary (reverse said))))
    (few_if any_word 1 _ _ (λ _. few_one any_word _)) (omega arith)
  where
    again : (a b : Bool) {xs : List Body} → Few any_word 1 xs → Few any_word (one a) (cond (a && b) xs [])
    again true true f = f
    again true false f = few_none any_word 1
    again false b f = few_none any_word 0
summary_few g known facts said now false = few_none any_word 0

offer_few : (g : Group) (me : ℕ) (known : List (Signed Body)) (facts : List OrderFact) (said : List Body) (at_tick : Bool)
    → Few any_word (one at_tick) (whole_preprepares_due g me known facts said at_tick)
offer_few g me known facts said true = few_elim any_word 1 (plan_known facts (view g known)) _ (λ plan _.
    few_if any_word 1 (nat_le plan.base (gapless g facts)) _ (λ _.
    few_elim any_word 1 (plan_known facts (view g known)) _ (λ p _.
    few_if any_word 1 _ _ (λ _. few_one any_word _))))
offer_few g me known facts said false = few_elim any_word 0 (plan_known facts (view g known)) _ (λ plan _.
    few_if any_word 0 (nat_le plan.base (gapless g facts)) _ (λ _.
    few_elim any_word 0 (plan_known facts (view g known)) _ (λ p _. few_none any_word 0)))

mapped_short : {X Y : Type 0} (f : X → Y) (most : ℕ) (xs : List X) → length xs ≤ most → length (map f xs) ≤ most
mapped_short f most xs short = let same = length_map f xs in omega arith

filtered_short : {X : Type 0} (such : X → Bool) (most : ℕ) (xs : List X) → length xs ≤ most →
    length (filter such xs) ≤ most
filtered_short such most xs short = let less = length_filter such xs in omega arith

numbers_short : (start most count : ℕ) → length (numbers_from start (min most count)) ≤ most
numbers_short start most count = let same = length-numbers_from start (min most count) in omega arith

update_asks_short : (g : Group) (known : List (Signed Body)) (facts : List OrderFact) (said : List Body)
    (moments : List Moment) (now : ℕ) (at_tick : Bool)
    → length (update_asks_due g known facts said moments now at_tick) ≤ 16 * one at_tick
update_asks_short g known facts said moments now true = mapped_short _ 16 _ (length_take 16 _)
update_asks_short g known facts said moments now false = omega arith

order_asks_short : (g : Group) (facts : List OrderFact) (said : List Body) (v : ℕ) (open_now : Bool) (waiting now : ℕ)
    (at_tick : Bool) → length (order_asks_due g facts said v open_now waiting now at_tick) ≤ 64 * one at_tick
order_asks_short g facts said v open_now waiting now true =
    mapped_short _ 64 _ (filtered_short _ 64 _ (filtered_short _ 64 _ (numbers_short (gapless g facts + 1) 64 _)))
order_asks_short g facts said v open_now waiting now false = omega arith

-- votes are no words about times
vote_apart : (b : Body) → Of 13 b → is_of measured b ≡ false
vote_apart b e = ap (λ k. list_any (nat_eq k) measured) e

measured_among : (b : Body) → is_of measured b ≡ true → is_of measuring b ≡ true
measured_among (body.Ping b) e = refl
measured_among (body.Pong b) e = refl
measured_among (body.Rtt b) e = refl
measured_among (body.TatReport b) e = refl
measured_among (body.TatBound b) e = refl
measured_among _ e = absurd (false≢true e)

module _ (w : Setup) (m : ℕ) (live : is_live w.group ≡ true) (correct : is_correct_master w m ≡ true)
    (history : List Entry) (legal : IsLegal w history) where
  summaries_a_tick : times (is_of summing) (words_by w history m) ≤ ticks_by w history m + ticks_by w history m / SLOW_BEAT
  summaries_a_tick = by_rate w m live correct (is_of summing) (λ t. t + t / SLOW_BEAT) (λ before took at_tick.
      let known = known_at before took in
      let now = ticks_in before + one at_tick in
      let grows = slow_beat_grows (ticks_in before) at_tick in (
        one at_tick + on_slow_beat at_tick now,
        few_kinds summing (one at_tick + on_slow_beat at_tick now) (due w m live correct before took at_tick) _
            (by_part w m live correct before took at_tick).summaries
            (few_of (summary_few w.group known (facts_of w.group known) (said_before before) now at_tick)),
        omega arith,
      )) history legal

  offers_a_tick : times (is_of offering) (words_by w history m) ≤ ticks_by w history m
  offers_a_tick = by_rate w m live correct (is_of offering) (λ t. t) (λ before took at_tick.
      let known = known_at before took in (
        one at_tick,
        few_kinds offering (one at_tick) (due w m live correct before took at_tick) _
            (by_part w m live correct before took at_tick).offers
            (few_of (offer_few w.group m known (facts_of w.group known) (said_before before) at_tick)),
        omega arith,
      )) history legal

  asks_a_tick : times (is_of asking) (words_by w history m) ≤ 80 * ticks_by w history m
  asks_a_tick = by_rate w m live correct (is_of asking) (λ t. 80 * t) (λ before took at_tick.
      let known = known_at before took in
      let facts = facts_of w.group known in
      let said = said_before before in
      let now = ticks_in before + one at_tick in
      let moments = moments_at w.group before took at_tick in
      let first = update_asks_short w.group known facts said moments now at_tick in
      let second = order_asks_short w.group facts said (view w.group known) (is_open w.group known)
      (waiting_at w.group known moments) now at_tick in
      let all = length-append (update_asks_due w.group known facts said moments now at_tick)
      (order_asks_due w.group facts said (view w.group known) (is_open w.group known) (waiting_at w.group known moments)
      now at_tick) in (
        80 * one at_tick,
        few_kinds asking (80 * one at_tick) (due w m live correct before took at_tick) _
            (by_part w m live correct before took at_tick).asks (omega arith),
        omega arith,
      )) history legal

  nothing_measured : times (is_of measured) (words_by w history m) ≡ 0
  nothing_measured =
      let none : times (is_of measured) (words_by w history m) ≤ 0 =
      by_rate w m live correct (is_of measured) (λ t. 0) (λ before took at_tick.
      let known = known_at before took in
      let now = ticks_in before + one at_tick in (
        0,
        few_part (is_of measured) measuring measured_among (due w m live correct before took at_tick) _
            (by_part w m live correct before took at_tick).votes
            (few_each (is_of measured) _ (λ b h. vote_apart b
            (votes_kind w.group known (said_before before) (view w.group known)
            (waiting_at w.group known (moments_at w.group before took at_tick)) now at_tick b h))),
        omega arith,
      )) history legal in
      omega arith

pub few_a_tick : FewATick
few_a_tick w history m bound = record {
  summaries = summaries_a_tick w m bound.live bound.correct history bound.legal;
  offers = offers_a_tick w m bound.live bound.correct history bound.legal;
  asks = asks_a_tick w m bound.live bound.correct history bound.legal;
  measures = nothing_measured w m bound.live bound.correct history bound.legal;
}
