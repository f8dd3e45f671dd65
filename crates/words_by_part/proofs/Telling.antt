-- Tests that pass words of some kinds alone.
use Rattle.std.proofs.Common.{◌≡◌, ℕ, Bool, true, false, cond, ◌||◌, List, [], ◌∷◌, Option, Some, None, filter}
use Rattle.std.proofs.Common.{true≢false, refl, sym, ◌∙◌, ap}
use Rattle.std.specs.List.{list_any, filter_map, cons_option}
use Rattle.message_types.specs.declared.body.Body.{Body}
use Rattle.message_types.specs.declared.body.Body.TheVariants as body
use Rattle.protocol_rules.specs.Views.{reports_said, new_views_said}
use Rattle.protocol_rules.specs.Measures.{pings_said, pongs_said, round_trips_said, tat_reports_said, tat_bounds_said}
use Rattle.protocol_rules.specs.Measures.{suspects_said}
use Rattle.protocol_rules.specs.Reconcile.{updates_asked, orders_asked, updates_given, orders_given}
use Rattle.protocol_rules.specs.Master.{summary_in, offered_number, vouchers_said}
use Rattle.words_by_part.specs.Kinds.{is_of, summing, offering, measuring, changing_views, asking, giving, vouching}
use Rattle.words_by_part.specs.Laws.{OwnWordsTell}

any_kept : (t own : Body → Bool) → ((w : Body) → own w ≡ false → t w ≡ false) → (words : List Body) →
    list_any t (filter own words) ≡ list_any t words
any_kept t own passes [] = refl
any_kept t own passes (w ∷ rest) = by (own w) refl (any_kept t own passes rest)
  where
    by : (b : Bool) → own w ≡ b → list_any t (filter own rest) ≡ list_any t rest →
        list_any t (cond b (w ∷ filter own rest) (filter own rest)) ≡ (t w || list_any t rest)
    by true e later = ap (λ b. t w || b) later
    by false e later = later ∙ ap (λ b. b || list_any t rest) (sym (passes w e))

some_kept : {X : Type 0} (t : Body → Option X) (own : Body → Bool) → ((w : Body) → own w ≡ false → t w ≡ None) →
    (words : List Body) → filter_map t (filter own words) ≡ filter_map t words
some_kept t own passes [] = refl
some_kept {X} t own passes (w ∷ rest) = by (own w) refl (some_kept t own passes rest)
  where
    by : (b : Bool) → own w ≡ b → filter_map t (filter own rest) ≡ filter_map t rest →
        filter_map t (cond b (w ∷ filter own rest) (filter own rest)) ≡ cons_option (t w) (filter_map t rest)
    by true e later = ap (cons_option (t w)) later
    by false e later = later ∙ ap (λ (o : Option X). cons_option o (filter_map t rest)) (sym (passes w e))

summaries_passed : (w : Body) → is_of summing w ≡ false → summary_in w ≡ None
summaries_passed (body.PoSummary b) e = absurd (true≢false e)
summaries_passed _ e = refl

offers_passed : (v : ℕ) (w : Body) → is_of offering w ≡ false → offered_number v w ≡ None
offers_passed v (body.PrePrepare b) e = absurd (true≢false e)
offers_passed v _ e = refl

pings_passed : (number : ℕ) (w : Body) → is_of measuring w ≡ false → pings_said number w ≡ false
pings_passed number (body.Ping b) e = absurd (true≢false e)
pings_passed number _ e = refl

pongs_passed : (to number : ℕ) (w : Body) → is_of measuring w ≡ false → pongs_said to number w ≡ false
pongs_passed to number (body.Pong b) e = absurd (true≢false e)
pongs_passed to number _ e = refl

round_trips_passed : (to number : ℕ) (w : Body) → is_of measuring w ≡ false → round_trips_said to number w ≡ false
round_trips_passed to number (body.Rtt b) e = absurd (true≢false e)
round_trips_passed to number _ e = refl

tat_reports_passed : (v ticks : ℕ) (w : Body) → is_of measuring w ≡ false → tat_reports_said v ticks w ≡ false
tat_reports_passed v ticks (body.TatReport b) e = absurd (true≢false e)
tat_reports_passed v ticks _ e = refl

tat_bounds_passed : (v : ℕ) (w : Body) → is_of measuring w ≡ false → tat_bounds_said v w ≡ false
tat_bounds_passed v (body.TatBound b) e = absurd (true≢false e)
tat_bounds_passed v _ e = refl

suspicions_passed : (v : ℕ) (w : Body) → is_of measuring w ≡ false → suspects_said v w ≡ false
suspicions_passed v (body.Suspect b) e = absurd (true≢false e)
suspicions_passed v _ e = refl

reports_passed : (v : ℕ) (w : Body) → is_of changing_views w ≡ false → reports_said v w ≡ false
reports_passed v (body.Report b) e = absurd (true≢false e)
reports_passed v _ e = refl

new_views_passed : (v : ℕ) (w : Body) → is_of changing_views w ≡ false → new_views_said v w ≡ false
new_views_passed v (body.NewView b) e = absurd (true≢false e)
new_views_passed v _ e = refl

asked_updates_passed : (j k : ℕ) (w : Body) → is_of asking w ≡ false → updates_asked j k w ≡ false
asked_updates_passed j k (body.AskUpdate b) e = absurd (true≢false e)
asked_updates_passed j k _ e = refl

asked_orders_passed : (s : ℕ) (w : Body) → is_of asking w ≡ false → orders_asked s w ≡ false
asked_orders_passed s (body.AskOrder b) e = absurd (true≢false e)
asked_orders_passed s _ e = refl

given_updates_passed : (j k : ℕ) (w : Body) → is_of giving w ≡ false → updates_given j k w ≡ false
given_updates_passed j k (body.Give b) e = absurd (true≢false e)
given_updates_passed j k _ e = refl

given_orders_passed : (s : ℕ) (w : Body) → is_of giving w ≡ false → orders_given s w ≡ false
given_orders_passed s (body.GiveOrdered b) e = absurd (true≢false e)
given_orders_passed s _ e = refl

vouchers_passed : (c x : ℕ) (w : Body) → is_of vouching w ≡ false → vouchers_said c x w ≡ false
vouchers_passed c x (body.Voucher b) e = absurd (true≢false e)
vouchers_passed c x _ e = refl

pub own_words_tell : OwnWordsTell
own_words_tell words = record {
  summaries = some_kept summary_in (is_of summing) summaries_passed words;
  offers = λ v. some_kept (offered_number v) (is_of offering) (offers_passed v) words;
  pings = λ number. any_kept (pings_said number) (is_of measuring) (pings_passed number) words;
  pongs = λ to number. any_kept (pongs_said to number) (is_of measuring) (pongs_passed to number) words;
  round_trips = λ to number. any_kept (round_trips_said to number) (is_of measuring)
      (round_trips_passed to number) words;
  tat_reports = λ v ticks. any_kept (tat_reports_said v ticks) (is_of measuring) (tat_reports_passed v ticks) words;
  tat_bounds = λ v. any_kept (tat_bounds_said v) (is_of measuring) (tat_bounds_passed v) words;
  suspicions = λ v. any_kept (suspects_said v) (is_of measuring) (suspicions_passed v) words;
  reports = λ v. any_kept (reports_said v) (is_of changing_views) (reports_passed v) words;
  new_views = λ v. any_kept (new_views_said v) (is_of changing_views) (new_views_passed v) words;
  asked_updates = λ j k. any_kept (updates_asked j k) (is_of asking) (asked_updates_passed j k) words;
  asked_orders = λ s. any_kept (orders_asked s) (is_of asking) (asked_orders_passed s) words;
  given_updates = λ j k. any_kept (updates_given j k) (is_of giving) (given_updates_passed j k) words;
  given_orders = λ s. any_kept (orders_given s) (is_of giving) (given_orders_passed s) words;
  vouchers = λ c x. any_kept (vouchers_said c x) (is_of vouching) (vouchers_passed c x) words;
}
