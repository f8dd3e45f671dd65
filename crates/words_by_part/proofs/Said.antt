-- What is due by each rule is of one kind.
use Rattle.std.proofs.Common.{ℕ, ◌+◌, Bool, cond, ◌&&◌, not, List, [], ◌∷◌, ◌++◌, Option, Some}
use Rattle.std.proofs.Common.{None, length, nat_lt, refl}
use Rattle.std.specs.List.{list_any, filter_map}
use Rattle.plain_lists.specs.Lists.{Each}
use Rattle.plain_lists.proofs.Members.{each_none, each_one, each_append, each_if, each_map, each_flat_map}
use Rattle.message_types.specs.declared.signed.Signed.{Signed}
use Rattle.message_types.specs.declared.updates.Update.{Update}
use Rattle.message_types.specs.declared.vouchers.Order.{Order}
use Rattle.message_types.specs.declared.ordering.Mark.{Mark}
use Rattle.message_types.specs.declared.ordering.Certificate.{Certificate}
use Rattle.message_types.specs.declared.body.Body.{Body}
use Rattle.message_types.specs.declared.body.Body.TheVariants as body
use Rattle.message_types.specs.Digests.{digest_of_update, digest_of_rows}
use Rattle.quorum_sets.specs.Masters.{numbers_below}
use Rattle.protocol_rules.specs.declared.facts.OrderFact.{OrderFact}
use Rattle.protocol_rules.specs.Words.{numbers_from, first_of_list, greatest_of}
use Rattle.protocol_rules.specs.Group.{Group, most_number, is_door}
use Rattle.protocol_rules.specs.Preorder.{certified, updates_requested, update_of, requests_said, requests_said_for}
use Rattle.protocol_rules.specs.Preorder.{next_request, requests_due, acks, ack_due, acks_due}
use Rattle.protocol_rules.specs.Order.{commit_by, quorum_of, ordered, offered, prepared, plan_known, gapless}
use Rattle.protocol_rules.specs.Order.{in_window, prepare_due, prepares_due, commit_due}
use Rattle.protocol_rules.specs.Order.{commits_due, mark_due, marks_due}
use Rattle.protocol_rules.specs.Execution.{Request}
use Rattle.protocol_rules.specs.Views.{view, report_due, new_view_due}
use Rattle.protocol_rules.specs.Measures.{own_bound, pongs_due_to, round_trips_due_from}
use Rattle.protocol_rules.specs.Measures.{pings_due, pongs_due, round_trips_due, tat_reports_due, tat_bounds_due}
use Rattle.protocol_rules.specs.Measures.{suspects_due}
use Rattle.protocol_rules.specs.Reconcile.{request_of, quorum_of_acks, asks_for_update, updates_given, asks_for_order}
use Rattle.protocol_rules.specs.Reconcile.{orders_given, committed_views, ask_update_due, ask_order_due, give_due}
use Rattle.protocol_rules.specs.Reconcile.{gives_due, give_ordered_due, gives_ordered_due}
use Rattle.protocol_rules.specs.Master.{executed, summaries_due, preprepares_due, vouchers_said, vouchers_from}
use Rattle.protocol_rules.specs.Master.{vouchers_due}
use Rattle.agreement.proofs.SpokenByKind.{each_elim}
use Rattle.words_by_part.proofs.Sorting.{Of}

-- one word where something holds, else none
one_if : (k : ℕ) (b : Bool) (w : Body) → Of k w → Each (Of k) (cond b (w ∷ []) [])
one_if k b w is = each_if (Of k) b (w ∷ []) [] (λ _. each_one (Of k) w is) (λ _. each_none (Of k))

one_unless : (k : ℕ) (b : Bool) (words : List Body) → Each (Of k) words → Each (Of k) (cond b [] words)
one_unless k b words each = each_if (Of k) b [] words (λ _. each_none (Of k)) (λ _. each)

pub requests_kind : (g : Group) (me : ℕ) (taken : List (Signed Body)) (said : List Body) (clients : List ℕ) →
    Each (Of 2) (requests_due g me taken said clients)
requests_kind g me taken said [] = each_none (Of 2)
requests_kind g me taken said (c ∷ clients) = each_append (Of 2) (next_request g me taken said c) _
    (each_if (Of 2) (is_door g c me && nat_lt (length (requests_said said)) most_number) _ [] (λ _.
    each_elim (Of 2) (first_of_list (filter_map (update_of c (requests_said_for c said + 1)) taken))
    (λ u. body.PoRequest record { k = length (requests_said said) + 1; update = u } ∷ [])
    (λ u _. each_one (Of 2) _ refl)) (λ _. each_none (Of 2)))
    (requests_kind g me taken (said ++ next_request g me taken said c) clients)

pub ack_kind : (known : List (Signed Body)) (said : List Body) (j k : ℕ) → Each (Of 3) (ack_due known said j k)
ack_kind known said j k = one_unless 3 _ _ (by (updates_requested known j k))
  where
    by : (us : List Update) →
        Each (Of 3) (elim us [ [] ↦ [] | u ∷ _ ↦ body.PoAck record { j = j; k = k; digest = digest_of_update u } ∷ [] ])
    by [] = each_none (Of 3)
    by (u ∷ us) = each_one (Of 3) _ refl

pub acks_kind : (g : Group) (known : List (Signed Body)) (said : List Body) → Each (Of 3) (acks_due g known said)
acks_kind g known said = each_flat_map (Of 3) _ (numbers_below g.n)
    (λ j _. each_flat_map (Of 3) _ (numbers_from 1 most_number) (λ k _. ack_kind known said j k))

pub summaries_kind : (g : Group) (known : List (Signed Body)) (said : List Body) (at_tick : Bool) →
    Each (Of 4) (summaries_due g known said at_tick)
summaries_kind g known said at_tick = one_if 4 _ _ refl

pub preprepares_kind : (g : Group) (me : ℕ) (known : List (Signed Body)) (facts : List OrderFact) (said : List Body)
    (at_tick : Bool) → Each (Of 5) (preprepares_due g me known facts said at_tick)
preprepares_kind g me known facts said at_tick = each_elim (Of 5) (plan_known facts (view g known))
    _ (λ plan _. one_if 5 _ _ refl)

pub prepare_kind : (facts : List OrderFact) (said : List Body) (v s : ℕ) → Each (Of 6) (prepare_due facts said v s)
prepare_kind facts said v s = one_unless 6 _ _ (by (offered facts v s))
  where
    by : (o : Option (List (List ℕ))) →
        Each (Of 6) (elim o [
          | Some rows ↦ body.Prepare record { v = v; s = s; digest = digest_of_rows rows } ∷ []
          | None ↦ []
        ])
    by None = each_none (Of 6)
    by (Some rows) = each_one (Of 6) _ refl

pub prepares_kind : (g : Group) (facts : List OrderFact) (said : List Body) (v : ℕ) (open_now : Bool) →
    Each (Of 6) (prepares_due g facts said v open_now)
prepares_kind g facts said v open_now =
    each_if (Of 6) open_now _ [] (λ _. each_flat_map (Of 6) (prepare_due facts said v) (in_window g facts)
    (λ s _. prepare_kind facts said v s)) (λ _. each_none (Of 6))

pub commits_kind : (g : Group) (facts : List OrderFact) (said : List Body) (v : ℕ) →
    Each (Of 7) (commits_due g facts said v)
commits_kind g facts said v = each_flat_map (Of 7) (commit_due g facts said v) (in_window g facts)
    (λ s _. one_unless 7 _ _ (by s (prepared g facts v s)))
  where
    by : (s : ℕ) (o : Option (List (List ℕ))) →
        Each (Of 7) (elim o [
          | Some rows ↦ body.Commit record { v = v; s = s; digest = digest_of_rows rows } ∷ []
          | None ↦ []
        ])
    by s None = each_none (Of 7)
    by s (Some rows) = each_one (Of 7) _ refl

pub pings_kind : (ticks : ℕ) (at_tick : Bool) → Each (Of 8) (pings_due ticks at_tick)
pings_kind ticks at_tick = one_if 8 _ _ refl

pub pongs_kind : (g : Group) (me : ℕ) (known : List (Signed Body)) (said : List Body) →
    Each (Of 9) (pongs_due g me known said)
pongs_kind g me known said =
    each_flat_map (Of 9) (pongs_due_to known said) _ (λ master _. each_map (Of 9) _ _ (λ number _. refl))

pub round_trips_kind : (g : Group) (me : ℕ) (known : List (Signed Body)) (said : List Body) (ticks : ℕ) →
    Each (Of 10) (round_trips_due g me known said ticks)
round_trips_kind g me known said ticks = each_flat_map (Of 10) (round_trips_due_from me known said ticks)
    (numbers_below g.n) (λ master _. each_map (Of 10) _ _ (λ number _. refl))

pub tat_reports_kind : (said : List Body) (v waiting : ℕ) (at_tick : Bool) →
    Each (Of 11) (tat_reports_due said v waiting at_tick)
tat_reports_kind said v waiting at_tick = one_if 11 _ _ refl

pub tat_bounds_kind : (g : Group) (me : ℕ) (known : List (Signed Body)) (said : List Body) (v : ℕ) (at_tick : Bool) →
    Each (Of 12) (tat_bounds_due g me known said v at_tick)
tat_bounds_kind g me known said v at_tick = by (own_bound g me known)
  where
    by : (o : Option ℕ) → Each (Of 12)
        (elim o [
          | Some bound ↦ cond
              (at_tick && not (list_any (Rattle.protocol_rules.specs.Measures.tat_bounds_said v) said))
              (body.TatBound record { v = v; ticks = bound } ∷ []) []
          | None ↦ []
        ])
    by None = each_none (Of 12)
    by (Some bound) = one_if 12 _ _ refl

pub suspects_kind : (g : Group) (known : List (Signed Body)) (said : List Body) (v : ℕ) (at_tick : Bool) →
    Each (Of 13) (suspects_due g known said v at_tick)
suspects_kind g known said v at_tick = one_if 13 _ _ refl

pub report_kind : (g : Group) (known : List (Signed Body)) (said : List Body) (base : ℕ) (marks : List (Signed Mark))
    (certificates : List Certificate) → Each (Of 14) (report_due g known said base marks certificates)
report_kind g known said base marks certificates = one_if 14 _ _ refl

pub new_view_kind : (g : Group) (me : ℕ) (known : List (Signed Body)) (said : List Body) →
    Each (Of 15) (new_view_due g me known said)
new_view_kind g me known said = one_if 15 _ _ refl

pub ask_update_kind : (said : List Body) (at_tick : Bool) (o : Option Request) →
    Each (Of 16) (ask_update_due said at_tick o)
ask_update_kind said at_tick None = each_none (Of 16)
ask_update_kind said at_tick (Some r) = one_if 16 _ _ refl

pub gives_kind : (g : Group) (me : ℕ) (known : List (Signed Body)) (said : List Body) →
    Each (Of 17) (gives_due g me known said)
gives_kind g me known said =
    each_flat_map (Of 17) _ (numbers_below g.n)
    (λ j _. each_flat_map (Of 17) (give_due g me known said j) (numbers_from 1 most_number) (λ k _.
    each_if (Of 17) (list_any (asks_for_update me j k) known && not (list_any (updates_given j k) said)) _ []
    (λ _. each_elim (Of 17) (certified g known j k) _ (λ u _.
    each_elim (Of 17) (first_of_list (filter_map (request_of j k u) known))
    (λ request. body.Give record { request = request; acks = quorum_of_acks g known j k (digest_of_update u) }
    ∷ []) (λ request _. each_one (Of 17) _ refl))) (λ _. each_none (Of 17))))

pub ask_order_kind : (said : List Body) (at_tick : Bool) (o : Option ℕ) → Each (Of 18) (ask_order_due said at_tick o)
ask_order_kind said at_tick None = each_none (Of 18)
ask_order_kind said at_tick (Some s) = one_if 18 _ _ refl

pub gives_ordered_kind : (g : Group) (me : ℕ) (known : List (Signed Body)) (facts : List OrderFact)
    (said : List Body) → Each (Of 19) (gives_ordered_due g me known facts said)
gives_ordered_kind g me known facts said = each_flat_map (Of 19) (give_ordered_due g me known facts said)
    (numbers_from 1 most_number) (λ s _.
    each_if (Of 19) (list_any (asks_for_order me s) known && not (list_any (orders_given s) said)) _ [] (λ _.
    each_elim (Of 19) (ordered g facts s)
    (λ rows. body.GiveOrdered record {
      s = s;
      v = greatest_of (committed_views g facts s (digest_of_rows rows));
      rows = rows;
      commits = quorum_of g (commit_by (greatest_of (committed_views g facts s (digest_of_rows rows)))
          s (digest_of_rows rows)) facts;
    } ∷ [])
    (λ rows _. each_one (Of 19) _ refl)) (λ _. each_none (Of 19)))

vouchers_from_kind : (said : List Body) (c x : ℕ) (rest : List Order) → Each (Of 20) (vouchers_from said c x rest)
vouchers_from_kind said c x [] = each_none (Of 20)
vouchers_from_kind said c x (o ∷ rest) =
    each_append (Of 20) _ _ (one_unless 20 (list_any (vouchers_said c x) said)
    (body.Voucher record { client = c; number = x; order = o } ∷ []) (each_one (Of 20) _ refl))
    (vouchers_from_kind said c (x + 1) rest)

pub vouchers_kind : (g : Group) (orders : List Update → ℕ → List Order) (known : List (Signed Body))
    (said : List Body) → Each (Of 20) (vouchers_due g orders known said)
vouchers_kind g orders known said = each_flat_map (Of 20) _ (numbers_below g.clients)
    (λ c _. vouchers_from_kind said c 1 (orders (executed g known) c))

pub marks_kind : (g : Group) (facts : List OrderFact) (said : List Body) → Each (Of 21) (marks_due g facts said)
marks_kind g facts said = each_flat_map (Of 21) (mark_due said) (numbers_from 1 (gapless g facts))
    (λ s _. one_if 21 _ _ refl)
