-- All that a master says at an event, by its parts.
use Rattle.std.proofs.Common.{ℕ, Bool, true, false, List, [], ◌∷◌, Option, refl, sym, subst}
use Rattle.plain_lists.proofs.Members.{each_none}
use Rattle.message_types.specs.declared.signed.Signed.{Signed}
use Rattle.message_types.specs.declared.updates.Update.{Update}
use Rattle.message_types.specs.declared.vouchers.Order.{Order}
use Rattle.message_types.specs.declared.body.Body.{Body}
use Rattle.quorum_sets.specs.Masters.{numbers_below}
use Rattle.protocol_rules.specs.declared.facts.OrderFact.{OrderFact}
use Rattle.protocol_rules.specs.Group.{Group}
use Rattle.protocol_rules.specs.Facts.{facts_of}
use Rattle.protocol_rules.specs.Order.{stable, marks_for, certificates_below}
use Rattle.protocol_rules.specs.Views.{view, is_open}
use Rattle.protocol_rules.specs.Measures.{Told, ticks_of, waited}
use Rattle.protocol_rules.specs.Master.{Heard, known_at, taken_at, said_before, waiting_for, gap_of, executed}
use Rattle.protocol_rules.specs.Master.{answered_in, is_give, is_order_given, answers_by, answers}
use Rattle.protocol_rules.specs.Patience.{Moment}
use Rattle.protocol_rules.specs.Lacking.{gift_due}
use Rattle.words_by_part.specs.Kinds.{preordering, summing, offering, ordering, measuring, changing_views, asking}
use Rattle.words_by_part.specs.Kinds.{giving, vouching}
use Rattle.words_by_part.specs.Laws.{AreByPart, AnswersByPart, AreByLivePart, AnswersByLivePart, told_at, moments_at}
use Rattle.words_by_part.specs.Laws.{waiting_at}
use Rattle.words_by_part.proofs.Sorting.{Of, OneKind, of_kind, among}
use Rattle.words_by_part.proofs.Said.{requests_kind, acks_kind, summaries_kind, preprepares_kind, prepares_kind}
use Rattle.words_by_part.proofs.Said.{commits_kind, pings_kind, pongs_kind, round_trips_kind, tat_reports_kind}
use Rattle.words_by_part.proofs.Said.{tat_bounds_kind, suspects_kind, report_kind, new_view_kind, ask_update_kind}
use Rattle.words_by_part.proofs.SaidAlive.{requests_in_turn_kind, acks_in_turn_kind, summaries_again_kind}
use Rattle.words_by_part.proofs.SaidAlive.{whole_preprepares_kind, worthy_prepares_kind, votes_kind, update_asks_kind}
use Rattle.words_by_part.proofs.SaidAlive.{order_asks_kind, some_kind, give_kind, order_given_kind}
use Rattle.words_by_part.proofs.Said.{gives_kind, ask_order_kind, gives_ordered_kind, vouchers_kind, marks_kind}

first_by_part : (g : Group) (orders : List Update → ℕ → List Order) (me : ℕ) (before : List Heard)
    (took : Option (Signed Body)) (at_tick : Bool)
    → AreByPart g orders me (known_at before took) (taken_at before took) (said_before before)
    (told_at g before took at_tick) at_tick (answers_by false g orders me before took at_tick)
first_by_part g orders me before took at_tick =
    let known : List (Signed Body) = known_at before took in
    let taken : List (Signed Body) = taken_at before took in
    let said : List Body = said_before before in
    let facts : List OrderFact = facts_of g known in
    let told : List Told = told_at g before took at_tick in
    let v : ℕ = view g known in
    -- all that is due, in the order of the kinds
    let due : List OneKind =
    of_kind 2 (requests_kind g me taken said (numbers_below g.clients)) ∷
    of_kind 3 (acks_kind g known said) ∷
    of_kind 4 (summaries_kind g known said at_tick) ∷
    of_kind 5 (preprepares_kind g me known facts said at_tick) ∷
    of_kind 6 (prepares_kind g facts said v (is_open g known)) ∷
    of_kind 7 (commits_kind g facts said v) ∷
    of_kind 8 (pings_kind (ticks_of told) at_tick) ∷
    of_kind 9 (pongs_kind g me known said) ∷
    of_kind 10 (round_trips_kind g me known said (ticks_of told)) ∷
    of_kind 11 (tat_reports_kind said v (waited v told) at_tick) ∷
    of_kind 12 (tat_bounds_kind g me known said v at_tick) ∷
    of_kind 13 (suspects_kind g known said v at_tick) ∷
    of_kind 14 (report_kind g known said (stable g facts) (marks_for g facts (stable g facts))
    (certificates_below g facts v)) ∷
    of_kind 15 (new_view_kind g me known said) ∷
    of_kind 16 (ask_update_kind said at_tick (waiting_for g known)) ∷
    of_kind 17 (gives_kind g me known said) ∷
    of_kind 18 (ask_order_kind said at_tick (gap_of g facts)) ∷
    of_kind 19 (gives_ordered_kind g me known facts said) ∷
    of_kind 20 (vouchers_kind g orders known said) ∷
    of_kind 21 (marks_kind g facts said) ∷ [] in
    record {
      requests = among preordering [] [] due refl;
      summaries = among summing [] [] due refl;
      offers = among offering [] [] due refl;
      orders_said = among ordering [] [] due refl;
      measures = among measuring [] [] due refl;
      views = among changing_views [] [] due refl;
      asks = among asking [] [] due refl;
      gifts = among giving [] [] due refl;
      vouchers = among vouching [] [] due refl;
    }

pub answers_by_part : AnswersByPart
unfolding answers
answers_by_part g orders me before took at_tick first =
    subst (λ (live : Bool). AreByPart g orders me (known_at before took) (taken_at before took) (said_before before)
    (told_at g before took at_tick) at_tick (answers_by live g orders me before took at_tick)) (sym first)
    (first_by_part g orders me before took at_tick)

live_by_part : (g : Group) (orders : List Update → ℕ → List Order) (me : ℕ) (before : List Heard)
    (took : Option (Signed Body)) (at_tick : Bool)
    → AreByLivePart g orders me (known_at before took) (taken_at before took) took (said_before before)
    (answered_in before) (moments_at g before took at_tick) (ticks_of (told_at g before took at_tick)) at_tick
    (answers_by true g orders me before took at_tick)
live_by_part g orders me before took at_tick =
    let known : List (Signed Body) = known_at before took in
    let taken : List (Signed Body) = taken_at before took in
    let said : List Body = said_before before in
    let facts : List OrderFact = facts_of g known in
    let now : ℕ = ticks_of (told_at g before took at_tick) in
    let moments : List Moment = moments_at g before took at_tick in
    let v : ℕ = view g known in
    let waiting : ℕ = waiting_at g known moments in
    let gifts : List Body = gift_due g me known facts (answered_in before) took now in
    -- all that is due, in the order of the kinds
    let due : List OneKind =
    of_kind 2 (requests_in_turn_kind g me taken (executed g known) known said (numbers_below g.clients) now at_tick) ∷
    of_kind 3 (acks_in_turn_kind g known said now at_tick) ∷
    of_kind 4 (summaries_again_kind g known said now at_tick) ∷
    of_kind 5 (whole_preprepares_kind g me known facts said at_tick) ∷
    of_kind 6 (worthy_prepares_kind g facts said v (is_open g known)) ∷
    of_kind 7 (commits_kind g facts said v) ∷
    of_kind 8 {words = []} (each_none (Of 8)) ∷
    of_kind 9 {words = []} (each_none (Of 9)) ∷
    of_kind 10 {words = []} (each_none (Of 10)) ∷
    of_kind 11 {words = []} (each_none (Of 11)) ∷
    of_kind 12 {words = []} (each_none (Of 12)) ∷
    of_kind 13 (votes_kind g known said v waiting now at_tick) ∷
    of_kind 14 (report_kind g known said (stable g facts) (marks_for g facts (stable g facts))
    (certificates_below g facts v)) ∷
    of_kind 15 (new_view_kind g me known said) ∷
    of_kind 16 (update_asks_kind g known facts said moments now at_tick) ∷
    of_kind 17 (some_kind 17 is_give gifts (λ b e. give_kind b e)) ∷
    of_kind 18 (order_asks_kind g facts said v (is_open g known) waiting now at_tick) ∷
    of_kind 19 (some_kind 19 is_order_given gifts (λ b e. order_given_kind b e)) ∷
    of_kind 20 (vouchers_kind g orders known said) ∷
    of_kind 21 (marks_kind g facts said) ∷ [] in
    record {
      requests = among preordering [] [] due refl;
      summaries = among summing [] [] due refl;
      offers = among offering [] [] due refl;
      orders_said = among ordering [] [] due refl;
      votes = among measuring [] [] due refl;
      views = among changing_views [] [] due refl;
      asks = among asking [] [] due refl;
      gifts = among giving [] [] due refl;
      vouchers = among vouching [] [] due refl;
    }

pub answers_by_live_part : AnswersByLivePart
unfolding answers
answers_by_live_part g orders me before took at_tick live =
    subst (λ (rules : Bool). AreByLivePart g orders me (known_at before took) (taken_at before took) took
    (said_before before) (answered_in before) (moments_at g before took at_tick)
    (ticks_of (told_at g before took at_tick)) at_tick (answers_by rules g orders me before took at_tick)) (sym live)
    (live_by_part g orders me before took at_tick)
