-- What a master said counts for each part as the words of its own kinds.
use Rattle.std.proofs.Common.{◌≡◌, ℕ, Bool, true, false, cond, ◌||◌, List, [], ◌∷◌, ◌++◌, filter, true≢false, refl}
use Rattle.std.proofs.Common.{sym, ◌∙◌, ap, subst, append_assoc}
use Rattle.std.specs.List.{list_any}
use Rattle.std.proofs.lemmas.List.Folds.{list_any-append}
use Rattle.std.proofs.Math.Bool.{or-false}
use Rattle.message_types.specs.declared.signed.Signed.{Signed}
use Rattle.message_types.specs.declared.body.Body.{Body}
use Rattle.message_types.specs.declared.body.Body.TheVariants as body
use Rattle.protocol_rules.specs.declared.facts.OrderFact.{OrderFact}
use Rattle.protocol_rules.specs.Group.{Group}
use Rattle.protocol_rules.specs.Measures.{Told}
use Rattle.protocol_rules.specs.Views.{reports_said, new_views_said}
use Rattle.protocol_rules.specs.Reconcile.{gives_due, gives_ordered_due}
use Rattle.protocol_rules.specs.Master.{summary_in, offered_number, vouchers_said}
use Rattle.reconcile.specs.declared.wanted.Wanted.{Wanted}
use Rattle.reconcile.specs.declared.wanted.Wanted.TheVariants.{Request, Number}
use Rattle.reconcile.specs.Asking.{asks, gives}
use Rattle.reconcile.specs.AskState.{AskState, AreAsksOf}
use Rattle.reconcile.proofs.Taken.{only_said}
use Rattle.reconcile.proofs.Passed.{requests_said, numbers_said}
use Rattle.suspect_leader.specs.declared.saying.Saying.{Saying}
use Rattle.suspect_leader.specs.declared.saying.Saying.TheVariants.{Ping, Pong, RoundTrip, Report, Bound, Vote}
use Rattle.suspect_leader.specs.Sayings.{says}
use Rattle.suspect_leader.specs.MeasureState.{MeasureState, IsMeasureOf}
use Rattle.suspect_leader.proofs.Taken.{only_own_kinds}
use Rattle.view_change.specs.ViewState.{ViewState, AreViewsOf}
use Rattle.view_change.proofs.Others.{said_alone}
use Rattle.leader_proposals.specs.Offering.{Offered, AreOffersOf}
use Rattle.leader_proposals.specs.Saying.{SummedUp, IsSummaryOf, AreVouchersOf}
use Rattle.leader_proposals.proofs.Offering.{offers-others}
use Rattle.leader_proposals.proofs.Summing.{summary-others}
use Rattle.leader_proposals.proofs.Vouching.{vouchers-others}
use Rattle.words_by_part.specs.Kinds.{is_of, summing, offering, measuring, changing_views, asking, giving, vouching}
use Rattle.words_by_part.proofs.Telling.{own_words_tell}
use Rattle.master_answers.proofs.Alike.{any_alike, some_alike}

pub summary_counted : (g : Group) (kept : SummedUp) (said all : List Body) →
    IsSummaryOf g kept (said ++ filter (is_of summing) all) → IsSummaryOf g kept (said ++ all)
summary_counted g kept said all is = summary-others g kept (said ++ filter (is_of summing) all) (said ++ all)
    (some_alike summary_in (is_of summing) said all (filter (is_of summing) all) (own_words_tell all).summaries refl) is

pub offers_counted : (g : Group) (kept : Offered) (facts : List OrderFact) (said all : List Body) →
    AreOffersOf g kept facts (said ++ filter (is_of offering) all) → AreOffersOf g kept facts (said ++ all)
offers_counted g kept facts said all is = offers-others g kept facts (said ++ filter (is_of offering) all) (said ++ all)
    (λ v. some_alike (offered_number v) (is_of offering) said all (filter (is_of offering) all)
    ((own_words_tell all).offers v) refl) is

pub vouchers_counted : (counts : List ℕ) (said all : List Body) →
    AreVouchersOf counts (said ++ filter (is_of vouching) all) → AreVouchersOf counts (said ++ all)
vouchers_counted counts said all are = vouchers-others counts (said ++ filter (is_of vouching) all) (said ++ all)
    (λ c x few. any_alike (vouchers_said c x) (is_of vouching) said all (filter (is_of vouching) all)
    ((own_words_tell all).vouchers c x) refl) are

pub views_counted : (g : Group) (me : ℕ) (kept : ViewState) (known : List (Signed Body)) (said all : List Body) →
    AreViewsOf g me kept known (said ++ filter (is_of changing_views) all) → AreViewsOf g me kept known (said ++ all)
views_counted g me kept known said all are =
    said_alone g me kept known (said ++ filter (is_of changing_views) all) (said ++ all)
    (λ v. any_alike (reports_said v) (is_of changing_views) said all (filter (is_of changing_views) all)
    ((own_words_tell all).reports v) refl)
    (λ v. any_alike (new_views_said v) (is_of changing_views) said all (filter (is_of changing_views) all)
    ((own_words_tell all).new_views v) refl) are

measures_tell : (all : List Body) (s : Saying) →
    list_any (says s) (filter (is_of measuring) all) ≡ list_any (says s) all
measures_tell all (Ping number) = (own_words_tell all).pings number
measures_tell all (Pong to number) = (own_words_tell all).pongs to number
measures_tell all (RoundTrip to number) = (own_words_tell all).round_trips to number
measures_tell all (Report v ticks) = (own_words_tell all).tat_reports v ticks
measures_tell all (Bound v) = (own_words_tell all).tat_bounds v
measures_tell all (Vote v) = (own_words_tell all).suspicions v

pub measures_counted : (g : Group) (me : ℕ) (kept : MeasureState) (told : List Told) (known : List (Signed Body))
    (said all : List Body) → IsMeasureOf g me kept told known (said ++ filter (is_of measuring) all)
    → IsMeasureOf g me kept told known (said ++ all)
measures_counted g me kept told known said all is =
    only_own_kinds g me kept told known (said ++ filter (is_of measuring) all) (said ++ all)
    (λ s. any_alike (says s) (is_of measuring) said all (filter (is_of measuring) all) (measures_tell all s) refl) is

asks_tell : (all : List Body) (w : Wanted) → list_any (asks w) (filter (is_of asking) all) ≡ list_any (asks w) all
asks_tell all (Request j k) = (own_words_tell all).asked_updates j k
asks_tell all (Number s) = (own_words_tell all).asked_orders s

gives_tell : (all : List Body) (w : Wanted) → list_any (gives w) (filter (is_of giving) all) ≡ list_any (gives w) all
gives_tell all (Request j k) = (own_words_tell all).given_updates j k
gives_tell all (Number s) = (own_words_tell all).given_orders s

none_there : (t own : Body → Bool) → ((w : Body) → own w ≡ true → t w ≡ false) → (words : List Body) →
    list_any t (filter own words) ≡ false
none_there t own other [] = refl
none_there t own other (w ∷ rest) = by (own w) refl (none_there t own other rest)
  where
    by : (b : Bool) → own w ≡ b → list_any t (filter own rest) ≡ false →
        list_any t (cond b (w ∷ filter own rest) (filter own rest)) ≡ false
    by true e later = ap (λ b. b || list_any t (filter own rest)) (other w e) ∙ later
    by false e later = later

gift_asks_nothing : (want : Wanted) (w : Body) → is_of giving w ≡ true → asks want w ≡ false
gift_asks_nothing (Request j k) (body.AskUpdate b) e = absurd (true≢false (sym e))
gift_asks_nothing (Request j k) _ e = refl
gift_asks_nothing (Number s) (body.AskOrder b) e = absurd (true≢false (sym e))
gift_asks_nothing (Number s) _ e = refl

ask_gives_nothing : (want : Wanted) (w : Body) → is_of asking w ≡ true → gives want w ≡ false
ask_gives_nothing (Request j k) (body.Give b) e = absurd (true≢false (sym e))
ask_gives_nothing (Request j k) _ e = refl
ask_gives_nothing (Number s) (body.GiveOrdered b) e = absurd (true≢false (sym e))
ask_gives_nothing (Number s) _ e = refl

or_none : (a b : Bool) → (a || b) ≡ ((a || b) || false)
or_none true b = refl
or_none false true = refl
or_none false false = refl

or_neither : (a b : Bool) → (a || b) ≡ ((a || false) || b)
or_neither true b = refl
or_neither false b = refl

-- one list before two others, of which one or the other passes nothing
three : (t : Body → Bool) (said xs ys : List Body) →
    list_any t ((said ++ xs) ++ ys) ≡ ((list_any t said || list_any t xs) || list_any t ys)
three t said xs ys = list_any-append t (said ++ xs) ys ∙ ap (λ b. b || list_any t ys) (list_any-append t said xs)

first_only : (t : Body → Bool) (said all xs ys : List Body) → list_any t xs ≡ list_any t all → list_any t ys ≡ false →
    list_any t (said ++ all) ≡ list_any t ((said ++ xs) ++ ys)
first_only t said all xs ys own other =
    list_any-append t said all ∙ ap (λ b. list_any t said || b) (sym own) ∙ or_none (list_any t said) (list_any t xs)
    ∙ ap (λ b. (list_any t said || list_any t xs) || b) (sym other) ∙ sym (three t said xs ys)

second_only : (t : Body → Bool) (said all xs ys : List Body) → list_any t ys ≡ list_any t all →
    list_any t xs ≡ false → list_any t (said ++ all) ≡ list_any t ((said ++ xs) ++ ys)
second_only t said all xs ys own other =
    list_any-append t said all ∙ ap (λ b. list_any t said || b) (sym own) ∙ or_neither (list_any t said) (list_any t ys)
    ∙ ap (λ b. (list_any t said || b) || list_any t ys) (sym other) ∙ sym (three t said xs ys)

both_counted : (g : Group) (me : ℕ) (kept : AskState) (known : List (Signed Body)) (said all : List Body) →
    AreAsksOf g me kept known ((said ++ filter (is_of asking) all) ++ filter (is_of giving) all)
    → AreAsksOf g me kept known (said ++ all)
both_counted g me kept known said all are =
    only_said g me kept known ((said ++ filter (is_of asking) all) ++ filter (is_of giving) all) (said ++ all)
    (λ w. first_only (asks w) said all (filter (is_of asking) all) (filter (is_of giving) all) (asks_tell all w)
    (none_there (asks w) (is_of giving) (gift_asks_nothing w) all))
    (λ w. second_only (gives w) said all (filter (is_of asking) all) (filter (is_of giving) all) (gives_tell all w)
    (none_there (gives w) (is_of asking) (ask_gives_nothing w) all)) are

-- asks said first, and then gifts of two kinds
pub asks_counted : (g : Group) (me : ℕ) (kept : AskState) (known : List (Signed Body))
    (said all asked given orders : List Body) → asked ≡ filter (is_of asking) all →
    given ++ orders ≡ filter (is_of giving) all
    → AreAsksOf g me kept known (((said ++ asked) ++ given) ++ orders) → AreAsksOf g me kept known (said ++ all)
asks_counted g me kept known said all asked given orders asks_are gifts_are are = both_counted g me kept known said all
    (subst (λ (xs : List Body). AreAsksOf g me kept known xs)
    (append_assoc (said ++ asked) given orders ∙ ap (λ (xs : List Body). (said ++ asked) ++ xs) gifts_are
    ∙ ap (λ (xs : List Body). (said ++ xs) ++ filter (is_of giving) all) asks_are) are)

-- asks give nothing, so what is given after them is what was due before
asked_first : (said all asked : List Body) → asked ≡ filter (is_of asking) all → (w : Wanted) →
    list_any (gives w) (said ++ asked) ≡ list_any (gives w) said
asked_first said all asked is w =
    list_any-append (gives w) said asked ∙ ap (λ b. list_any (gives w) said || b)
    (ap (list_any (gives w)) is ∙ none_there (gives w) (is_of asking) (ask_gives_nothing w) all)
    ∙ or-false (list_any (gives w) said)

pub gives_after : (g : Group) (me : ℕ) (known : List (Signed Body)) (said all asked : List Body) →
    asked ≡ filter (is_of asking) all → gives_due g me known (said ++ asked) ≡ gives_due g me known said
gives_after g me known said all asked is = requests_said g me known said (said ++ asked) (asked_first said all asked is)

pub orders_after : (g : Group) (me : ℕ) (known : List (Signed Body)) (facts : List OrderFact)
    (said all asked : List Body) → asked ≡ filter (is_of asking) all →
    gives_ordered_due g me known facts (said ++ asked) ≡ gives_ordered_due g me known facts said
orders_after g me known facts said all asked is = numbers_said g me known facts said (said ++ asked)
    (asked_first said all asked is)
