-- What the rules make a correct master say, by kinds.
use Rattle.std.proofs.Common.{◌≡◌, ℕ, ◌+◌, ◌≤◌, Bool, true, false, cond, ◌&&◌, List, [], ◌∷◌, ◌++◌, Option, Some}
use Rattle.std.proofs.Common.{None, filter, take, map, max, nat_eq, nat_lt, nat_le, length, reverse, refl, sym, ◌∙◌, ap, subst}
use Rattle.std.proofs.Common.{◌-◌, arith, suc, inl, inr, ◌⊎◌}
use Rattle.std.proofs.lemmas.Bool.{false≢true, and_parts, leb-true}
use Rattle.std.specs.List.{find, filter_map, flat_map, list_any}
use Rattle.std.specs.Option.{option_to_list}
use Rattle.std.specs.Prelude.{slice_get}
use Rattle.std.specs.Str.{bytes_eq}
use Rattle.plain_lists.specs.Lists.{IsIn, Each}
use Rattle.plain_lists.proofs.Members.{each_none, each_one, each_append, each_if, each_map, each_flat_map, in_filter_from, in_filter_map_from, in_reverse, find_some, some_same, none_some}
use Rattle.protocol_rules.proofs.FirstMet.{first_in}
use Rattle.quorum_sets.specs.Masters.{numbers_below}
use Rattle.message_types.specs.declared.signed.Signed.{Signed}
use Rattle.message_types.specs.declared.updates.Update.{Update}
use Rattle.message_types.specs.declared.preordering.PoRequest.{PoRequest}
use Rattle.message_types.specs.declared.vouchers.Order.{Order}
use Rattle.message_types.specs.declared.views.Plan.{Plan}
use Rattle.message_types.specs.declared.body.Body.{Body}
use Rattle.message_types.specs.declared.body.Body.TheVariants as body
use Rattle.message_types.specs.Parts.{as_frame}
use Rattle.message_types.specs.Digests.{digest_of_update, digest_of_rows}
use Rattle.message_types.specs.Texts.{update_text}
use Rattle.protocol_rules.specs.declared.facts.OrderFact.{OrderFact}
use Rattle.protocol_rules.specs.Words.{first_of_list, numbers_from, greatest_of}
use Rattle.protocol_rules.specs.Group.{Group, is_live, most_number, is_door}
use Rattle.protocol_rules.specs.Facts.{facts_of}
use Rattle.protocol_rules.specs.Preorder.{certified, vector, updates_requested, update_of, requests_said}
use Rattle.protocol_rules.specs.Preorder.{requests_said_for, next_request, requests_due, acks, ack_due, acks_due}
use Rattle.protocol_rules.specs.Matrix.{latest_frames, reach}
use Rattle.protocol_rules.specs.Order.{ordered, ordered_run, stable, marks_for, certificates_below, offered, prepared, plan_known}
use Rattle.protocol_rules.specs.Order.{prepares_said, commits_said, prepare_due, prepares_due, commits_due, mark_due}
use Rattle.protocol_rules.specs.Order.{marks_due, gapless}
use Rattle.protocol_rules.specs.Order.{in_window, commit_by, quorum_of}
use Rattle.protocol_rules.specs.Views.{view, is_open, report_due, new_view_due, first_reports}
use Rattle.protocol_rules.specs.Measures.{Told, ticks_of, waited, pings_due, pongs_due, pongs_due_to, round_trips_due}
use Rattle.protocol_rules.specs.Measures.{round_trips_due_from, tat_reports_due, tat_bounds_due, own_bound}
use Rattle.protocol_rules.specs.Measures.{suspects_due}
use Rattle.protocol_rules.specs.Reconcile.{ask_update_due, ask_order_due, gives_due, gives_ordered_due, request_of}
use Rattle.protocol_rules.specs.Reconcile.{quorum_of_acks, committed_views, request_gift, order_gift}
use Rattle.protocol_rules.specs.Patience.{Moment, wait, votes_due}
use Rattle.protocol_rules.specs.Lacking.{gift_for, gift_due, update_asks_due, order_asks_due}
use Rattle.protocol_rules.specs.Turns.{has_turn, acks_in_turn_due, last_request, last_introduced, next_in_turn}
use Rattle.protocol_rules.specs.Turns.{requests_in_turn_due, is_slow_beat, request_again_due, requests_number}
use Rattle.protocol_rules.specs.Turns.{acks_again_due}
use Rattle.protocol_rules.specs.Worth.{is_worth, worthy_prepares_due}
use Rattle.protocol_rules.specs.Execution.{Request, updates_of}
use Rattle.protocol_rules.specs.Master.{Heard, known_at, taken_at, said_before, answers, summaries_due}
use Rattle.protocol_rules.specs.Master.{preprepares_due, next_number, vouchers_due, vouchers_from, vouchers_said}
use Rattle.protocol_rules.specs.Master.{waiting_for, gap_of, executed, told_of, moments_of, whole_preprepares_due}
use Rattle.protocol_rules.specs.Master.{summary_again_due, is_summary, answered_in, is_give, is_order_given, by_rules}

pub each_elim : {X Y : Type 0} (P : X → Type 0) (o : Option Y) (f : Y → List X) →
    ((y : Y) → o ≡ Some y → Each P (f y)) → Each P (elim o [ None ↦ [] | Some y ↦ f y ])
each_elim P None f h = each_none P
each_elim P (Some y) f h = h y refl

-- What the rules say of a word that is due where these words are known, these frames were taken, and this was said.
abbrev pub Due : Group → (List Update → ℕ → List Order) → List (Signed Body) → List (Signed Body) →
    List Body → Body → Type 0
Due g orders known taken said (body.Update b) = ⊥
Due g orders known taken said (body.PoRequest b) = IsIn (as_frame body.Update b.update) taken
Due g orders known taken said (body.PoAck b) =
    (u : Update) × (first_of_list (updates_requested known b.j b.k) ≡ Some u) × (b.digest ≡ digest_of_update u)
    × (list_any (acks b.j b.k) said ≡ false)
Due g orders known taken said (body.PoSummary b) = b.numbers ≡ map (vector g known) (numbers_below g.n)
Due g orders known taken said (body.PrePrepare b) = (b.frames ≡ latest_frames g known) × (plan : Plan)
    × (b.s ≡ next_number said b.v plan)
Due g orders known taken said (body.Prepare b) =
    (rows : List (List ℕ)) × (offered (facts_of g known) b.v b.s ≡ Some rows) × (b.digest ≡ digest_of_rows rows)
    × (b.v ≡ view g known)
    × (is_open g known ≡ true) × (list_any (prepares_said b.v b.s) said ≡ false)
Due g orders known taken said (body.Commit b) =
    (rows : List (List ℕ)) × (prepared g (facts_of g known) b.v b.s ≡ Some rows) × (b.digest ≡ digest_of_rows rows)
    × (b.v ≡ view g known)
    × IsIn b.s (in_window g (facts_of g known)) × (list_any (commits_said b.v b.s) said ≡ false)
Due g orders known taken said (body.Report b) =
    (b.v ≡ view g known) × (b.base ≡ stable g (facts_of g known))
    × (b.marks ≡ marks_for g (facts_of g known) (stable g (facts_of g known)))
    × (b.certificates ≡ certificates_below g (facts_of g known) (view g known))
Due g orders known taken said (body.NewView b) =
    (1 ≤ b.v) × (b.reports ≡ take g.q (first_reports g known b.v)) × (g.q ≤ length (first_reports g known b.v))
Due g orders known taken said (body.Give b) =
    (j k : ℕ) × (digest : List ℕ) × IsIn (as_frame body.PoRequest b.request) known
    × (b.acks ≡ quorum_of_acks g known j k digest)
Due g orders known taken said (body.GiveOrdered b) =
    (v : ℕ) × (digest : List ℕ) × (ordered g (facts_of g known) b.s ≡ Some b.rows)
    × (b.commits ≡ quorum_of g (commit_by v b.s digest) (facts_of g known))
Due g orders known taken said (body.Voucher b) =
    (1 ≤ b.number) × (slice_get (orders (executed g known) b.client) (b.number - 1) ≡ Some b.order)
Due g orders known taken said _ = Unit {0}

-- a request, an acknowledgement or a summary: what may be said again
abbrev pub is_repeated : Body → Bool
is_repeated word = elim word [ body.PoRequest b ↦ true | body.PoAck b ↦ true | body.PoSummary b ↦ true | _ ↦ false ]

-- the body was said, and is of a kind that may be said again
abbrev pub Again : List Body → Body → Type 0
Again said b = IsIn b said × (is_repeated b ≡ true)

request_repeated : (k : ℕ) (b : Body) → requests_number k b ≡ true → is_repeated b ≡ true
request_repeated k (body.PoRequest b) e = refl
request_repeated k _ e = absurd (false≢true e)

ack_repeated : (j k : ℕ) (b : Body) → acks j k b ≡ true → is_repeated b ≡ true
ack_repeated j k (body.PoAck b) e = refl
ack_repeated j k _ e = absurd (false≢true e)

summary_repeated : (b : Body) → is_summary b ≡ true → is_repeated b ≡ true
summary_repeated (body.PoSummary b) e = refl
summary_repeated _ e = absurd (false≢true e)

pub if_some : {X : Type 0} (b : Bool) {x y : X} → cond b (Some x) None ≡ Some y → (b ≡ true) × (x ≡ y)
if_some true e = (refl, some_same e)
if_some false e = absurd (none_some e)

update_of_body : (c t signer : ℕ) (word : Body) (sig : List ℕ) (u : Signed Update) →
    update_of c t record { signer = signer; body = word; sig = sig } ≡ Some u
    → record { signer = signer; body = word; sig = sig } ≡ as_frame body.Update u
update_of_body c t signer (body.Update b) sig u e = ap (λ (r : Signed Update). as_frame body.Update r)
    (if_some (nat_eq b.client c && nat_eq b.t t) e).1
update_of_body c t signer _ sig u e = absurd (none_some e)

request_of_body : (j k : ℕ) (v : Update) (signer : ℕ) (word : Body) (sig : List ℕ) (r : Signed PoRequest) →
    request_of j k v record { signer = signer; body = word; sig = sig } ≡ Some r
    → record { signer = signer; body = word; sig = sig } ≡ as_frame body.PoRequest r
request_of_body j k v signer (body.PoRequest b) sig r e =
    ap (λ (x : Signed PoRequest). as_frame body.PoRequest x)
    (if_some (nat_eq signer j && nat_eq b.k k && bytes_eq (update_text b.update.body) (update_text v)) e).1
request_of_body j k v signer _ sig r e = absurd (none_some e)

plus_none : (k : ℕ) → k + 0 ≡ k
plus_none k = omega arith

none_plus : (k : ℕ) → 0 + k ≡ k
none_plus k = omega arith

none_and_one : 0 + 1 ≡ 1
none_and_one = omega arith

pub less_one : (k : ℕ) → k + 1 - 1 ≡ k
less_one k = omega arith

one_on : (k x : ℕ) → k + 1 + x ≡ k + suc x
one_on k x = omega arith

module _ (g : Group) (orders : List Update → ℕ → List Order) (me : ℕ) (known taken : List (Signed Body))
    (said : List Body) where
  abbrev IsDue : Body → Type 0
  IsDue b = Due g orders known taken said b

  update_of_frame : (c t : ℕ) (f : Signed Body) (u : Signed Update) → update_of c t f ≡ Some u →
      f ≡ as_frame body.Update u
  update_of_frame c t f u e = update_of_body c t f.signer f.body f.sig u e

  next_request_due : (before : List Body) (c : ℕ) → Each IsDue (next_request g me taken before c)
  next_request_due before c =
      each_if IsDue (is_door g c me && nat_lt (length (requests_said before)) most_number) _ [] (λ _.
      each_elim IsDue (first_of_list (filter_map (update_of c (requests_said_for c before + 1)) taken)) _ (λ u e.
      each_one IsDue (body.PoRequest record { k = length (requests_said before) + 1; update = u }) (
      let found = in_filter_map_from (update_of c (requests_said_for c before + 1)) taken
      (first_in (filter_map (update_of c (requests_said_for c before + 1)) taken) e) in
      subst (λ (f : Signed Body). IsIn f taken) (update_of_frame c (requests_said_for c before + 1) found.0 u found.2)
      found.1)))
      (λ _. each_none IsDue)

  requests_are_due : (before : List Body) (clients : List ℕ) → Each IsDue (requests_due g me taken before clients)
  requests_are_due before [] = each_none IsDue
  requests_are_due before (c ∷ clients) =
      each_append IsDue (next_request g me taken before c) _ (next_request_due before c)
      (requests_are_due (before ++ next_request g me taken before c) clients)

  next_in_turn_is_due : (done : List Update) (before : List Body) (c : ℕ) →
      Each IsDue (next_in_turn g me taken done before c)
  next_in_turn_is_due done before c =
      let t : ℕ = max (last_introduced before c) (updates_of c done) + 1 in
      each_if IsDue (is_door g c me && nat_lt (last_request before) most_number) _ [] (λ _.
      each_elim IsDue (first_of_list (filter_map (update_of c t) taken)) _ (λ u e.
      each_one IsDue (body.PoRequest record { k = last_request before + 1; update = u }) (
      let found = in_filter_map_from (update_of c t) taken (first_in (filter_map (update_of c t) taken) e) in
      subst (λ (f : Signed Body). IsIn f taken) (update_of_frame c t found.0 u found.2) found.1)))
      (λ _. each_none IsDue)

  requests_in_turn_are_due : (done : List Update) (before : List Body) (clients : List ℕ) →
      Each IsDue (requests_in_turn_due g me taken done before clients)
  requests_in_turn_are_due done before [] = each_none IsDue
  requests_in_turn_are_due done before (c ∷ clients) =
      each_append IsDue (next_in_turn g me taken done before c) _ (next_in_turn_is_due done before c)
      (requests_in_turn_are_due done (before ++ next_in_turn g me taken done before c) clients)

  ack_from : (j k : ℕ) (us : List Update) → updates_requested known j k ≡ us → list_any (acks j k) said ≡ false
      → Each IsDue (elim us [ [] ↦ [] | u ∷ _ ↦ body.PoAck record { j = j; k = k; digest = digest_of_update u } ∷ [] ])
  ack_from j k [] e fresh = each_none IsDue
  ack_from j k (u ∷ us) e fresh = each_one IsDue (body.PoAck record { j = j; k = k; digest = digest_of_update u })
      (u, ap first_of_list e, refl, fresh)

  ack_is_due : (j k : ℕ) → Each IsDue (ack_due known said j k)
  ack_is_due j k = each_if IsDue (list_any (acks j k) said) [] _ (λ _. each_none IsDue)
      (λ fresh. ack_from j k (updates_requested known j k) refl fresh)

  acks_are_due : Each IsDue (acks_due g known said)
  acks_are_due = each_flat_map IsDue _ (numbers_below g.n)
      (λ j _. each_flat_map IsDue _ (numbers_from 1 most_number) (λ k _. ack_is_due j k))

  acks_in_turn_are_due : Each IsDue (acks_in_turn_due g known said)
  acks_in_turn_are_due = each_flat_map IsDue _ (numbers_below g.n)
      (λ j _. each_flat_map IsDue _ (numbers_from 1 most_number)
      (λ k _. each_if IsDue (has_turn g known j k) _ [] (λ _. ack_is_due j k) (λ _. each_none IsDue)))

  summaries_are_due : (at_tick : Bool) → Each IsDue (summaries_due g known said at_tick)
  summaries_are_due at_tick =
      each_if IsDue _ _ [] (λ _. each_one IsDue
      (body.PoSummary record { numbers = map (vector g known) (numbers_below g.n) }) refl) (λ _. each_none IsDue)

  preprepares_are_due : (facts : List OrderFact) (at_tick : Bool) →
      Each IsDue (preprepares_due g me known facts said at_tick)
  preprepares_are_due facts at_tick = each_elim IsDue (plan_known facts (view g known)) _ (λ plan _.
      each_if IsDue _ _ [] (λ _. each_one IsDue
      (body.PrePrepare record {
        v = view g known;
        s = next_number said (view g known) plan;
        frames =
            latest_frames g known;
      }) (refl, plan, refl)) (λ _. each_none IsDue))

  whole_preprepares_are_due : (facts : List OrderFact) (at_tick : Bool) →
      Each IsDue (whole_preprepares_due g me known facts said at_tick)
  whole_preprepares_are_due facts at_tick = each_elim IsDue (plan_known facts (view g known)) _ (λ plan _.
      each_if IsDue (nat_le plan.base (gapless g facts)) _ [] (λ _. preprepares_are_due facts at_tick)
      (λ _. each_none IsDue))

  prepare_is_due : is_open g known ≡ true → (s : ℕ) →
      Each IsDue (prepare_due (facts_of g known) said (view g known) s)
  prepare_is_due opened s = each_if IsDue (list_any (prepares_said (view g known) s) said) [] _
      (λ _. each_none IsDue) (λ fresh.
      each_elim IsDue (offered (facts_of g known) (view g known) s) _ (λ rows e.
      each_one IsDue (body.Prepare record { v = view g known; s = s; digest = digest_of_rows rows })
      (rows, e, refl, refl, opened, fresh)))

  prepares_are_due : Each IsDue (prepares_due g (facts_of g known) said (view g known) (is_open g known))
  prepares_are_due = each_if IsDue (is_open g known) _ []
      (λ opened. each_flat_map IsDue _ (in_window g (facts_of g known)) (λ s _. prepare_is_due opened s))
      (λ _. each_none IsDue)

  worthy_prepares_are_due : Each IsDue
      (worthy_prepares_due g (facts_of g known) said (view g known) (is_open g known))
  worthy_prepares_are_due = each_if IsDue (is_open g known) _ []
      (λ opened. each_flat_map IsDue _ (in_window g (facts_of g known)) (λ s _.
      each_if IsDue (is_worth g (facts_of g known) (view g known) s) _ [] (λ _. prepare_is_due opened s)
      (λ _. each_none IsDue)))
      (λ _. each_none IsDue)

  commits_are_due : Each IsDue (commits_due g (facts_of g known) said (view g known))
  commits_are_due = each_flat_map IsDue _ (in_window g (facts_of g known)) (λ s within.
      each_if IsDue (list_any (commits_said (view g known) s) said) [] _ (λ _. each_none IsDue) (λ fresh.
      each_elim IsDue (prepared g (facts_of g known) (view g known) s) _ (λ rows e.
      each_one IsDue (body.Commit record { v = view g known; s = s; digest = digest_of_rows rows })
      (rows, e, refl, refl, within, fresh))))

  pings_are_due : (ticks : ℕ) (at_tick : Bool) → Each IsDue (pings_due ticks at_tick)
  pings_are_due ticks at_tick = each_if IsDue _ _ [] (λ _. each_one IsDue _ tt) (λ _. each_none IsDue)

  pongs_are_due : Each IsDue (pongs_due g me known said)
  pongs_are_due = each_flat_map IsDue (pongs_due_to known said) _ (λ master _. each_map IsDue _ _ (λ number _. tt))

  round_trips_are_due : (ticks : ℕ) → Each IsDue (round_trips_due g me known said ticks)
  round_trips_are_due ticks = each_flat_map IsDue (round_trips_due_from me known said ticks) _
      (λ master _. each_map IsDue _ _ (λ number _. tt))

  tat_reports_are_due : (v waiting : ℕ) (at_tick : Bool) → Each IsDue (tat_reports_due said v waiting at_tick)
  tat_reports_are_due v waiting at_tick = each_if IsDue _ _ [] (λ _. each_one IsDue _ tt) (λ _. each_none IsDue)

  tat_bounds_are_due : (v : ℕ) (at_tick : Bool) → Each IsDue (tat_bounds_due g me known said v at_tick)
  tat_bounds_are_due v at_tick =
      each_elim IsDue (own_bound g me known) _
      (λ bound _. each_if IsDue _ _ [] (λ _. each_one IsDue _ tt) (λ _. each_none IsDue))

  suspects_are_due : (v : ℕ) (at_tick : Bool) → Each IsDue (suspects_due g known said v at_tick)
  suspects_are_due v at_tick = each_if IsDue _ _ [] (λ _. each_one IsDue _ tt) (λ _. each_none IsDue)

  votes_are_due : (v waiting now : ℕ) (at_tick : Bool) → Each IsDue (votes_due g known said v waiting now at_tick)
  votes_are_due v waiting now at_tick = each_map IsDue _ _ (λ w _. tt)

  report_is_due : Each IsDue
      (report_due g known said (stable g (facts_of g known))
      (marks_for g (facts_of g known) (stable g (facts_of g known)))
      (certificates_below g (facts_of g known) (view g known)))
  report_is_due = each_if IsDue _ _ [] (λ _. each_one IsDue _ (refl, refl, refl, refl)) (λ _. each_none IsDue)

  new_view_is_due : Each IsDue (new_view_due g me known said)
  new_view_is_due = each_if IsDue _ _ [] (λ holds.
      let rest = and_parts _ _ holds in
      let enough = and_parts _ _ rest.0 in
      let leads = and_parts _ _ enough.0 in
      each_one IsDue _ (
        leb-true 1 (view g known) leads.0,
        refl,
        leb-true g.q (length (first_reports g known (view g known))) enough.1,
      )) (λ _. each_none IsDue)

  ask_update_is_due : (at_tick : Bool) (o : Option Request) → Each IsDue (ask_update_due said at_tick o)
  ask_update_is_due at_tick None = each_none IsDue
  ask_update_is_due at_tick (Some r) = each_if IsDue _ _ [] (λ _. each_one IsDue _ tt) (λ _. each_none IsDue)

  ask_order_is_due : (at_tick : Bool) (o : Option ℕ) → Each IsDue (ask_order_due said at_tick o)
  ask_order_is_due at_tick None = each_none IsDue
  ask_order_is_due at_tick (Some s) = each_if IsDue _ _ [] (λ _. each_one IsDue _ tt) (λ _. each_none IsDue)

  request_of_frame : (j k : ℕ) (u : Update) (f : Signed Body) (r : Signed PoRequest) → request_of j k u f ≡ Some r →
      f ≡ as_frame body.PoRequest r
  request_of_frame j k u f r e = request_of_body j k u f.signer f.body f.sig r e

  request_gift_is_due : (j k : ℕ) → Each IsDue (request_gift g known j k)
  request_gift_is_due j k = each_elim IsDue (certified g known j k) _
      (λ u _. each_elim IsDue (first_of_list (filter_map (request_of j k u) known)) _ (λ request e.
      each_one IsDue (body.Give record { request = request; acks = quorum_of_acks g known j k (digest_of_update u) }) (
      let found = in_filter_map_from (request_of j k u) known (first_in (filter_map (request_of j k u) known) e) in (
        j,
        k,
        digest_of_update u,
        subst (λ (f : Signed Body). IsIn f known) (request_of_frame j k u found.0 request found.2) found.1,
        refl,
      ))))

  gives_are_due : Each IsDue (gives_due g me known said)
  gives_are_due = each_flat_map IsDue _ (numbers_below g.n)
      (λ j _. each_flat_map IsDue _ (numbers_from 1 most_number) (λ k _.
      each_if IsDue _ _ [] (λ _. request_gift_is_due j k) (λ _. each_none IsDue)))

  order_gift_is_due : (s : ℕ) → Each IsDue (order_gift g (facts_of g known) s)
  order_gift_is_due s = each_elim IsDue (ordered g (facts_of g known) s) _ (λ rows e.
      each_one IsDue (body.GiveOrdered record {
        s = s;
        v =
            greatest_of (committed_views g (facts_of g known) s (digest_of_rows rows));
        rows = rows;
        commits =
            quorum_of g (commit_by (greatest_of (committed_views g (facts_of g known) s (digest_of_rows rows))) s
            (digest_of_rows rows)) (facts_of g known);
      })
      (greatest_of (committed_views g (facts_of g known) s (digest_of_rows rows)), digest_of_rows rows, e, refl))

  gives_ordered_are_due : Each IsDue (gives_ordered_due g me known (facts_of g known) said)
  gives_ordered_are_due = each_flat_map IsDue _ (numbers_from 1 most_number) (λ s _.
      each_if IsDue _ _ [] (λ _. order_gift_is_due s) (λ _. each_none IsDue))

  gift_for_is_due : (asked : Body) → Each IsDue (gift_for g known (facts_of g known) asked)
  gift_for_is_due (body.AskUpdate b) = request_gift_is_due b.j b.k
  gift_for_is_due (body.AskOrder b) = order_gift_is_due b.s
  gift_for_is_due _ = each_none IsDue

  gift_is_due : (answered : List ℕ) (took : Option (Signed Body)) (now : ℕ) →
      Each IsDue (gift_due g me known (facts_of g known) answered took now)
  gift_is_due answered None now = each_none IsDue
  gift_is_due answered (Some f) now =
      each_if IsDue _ _ [] (λ _. gift_for_is_due f.body) (λ _. each_none IsDue)

  some_gifts_are_due : (kind : Body → Bool) (answered : List ℕ) (took : Option (Signed Body)) (now : ℕ) →
      Each IsDue (filter kind (gift_due g me known (facts_of g known) answered took now))
  some_gifts_are_due kind answered took now b h =
      gift_is_due answered took now b (in_filter_from kind (gift_due g me known (facts_of g known) answered took now) h).0

  update_asks_are_due : (moments : List Moment) (now : ℕ) (at_tick : Bool) →
      Each IsDue (update_asks_due g known (facts_of g known) said moments now at_tick)
  update_asks_are_due moments now at_tick =
      each_if IsDue at_tick _ [] (λ _. each_map IsDue _ _ (λ r _. tt)) (λ _. each_none IsDue)

  order_asks_are_due : (v : ℕ) (opened : Bool) (waiting now : ℕ) (at_tick : Bool) →
      Each IsDue (order_asks_due g (facts_of g known) said v opened waiting now at_tick)
  order_asks_are_due v opened waiting now at_tick =
      each_if IsDue at_tick _ [] (λ _. each_map IsDue _ _ (λ s _. tt)) (λ _. each_none IsDue)

  vouchers_from_are_due : (c k : ℕ) (rest : List Order) →
      ((x : ℕ) → slice_get (orders (executed g known) c) (k + x) ≡ slice_get rest x) →
      Each IsDue (vouchers_from said c (k + 1) rest)
  vouchers_from_are_due c k [] at = each_none IsDue
  vouchers_from_are_due c k (order ∷ rest) at =
      let first : slice_get (orders (executed g known) c) k ≡ Some order =
      ap (slice_get (orders (executed g known) c)) (sym (plus_none k)) ∙ at 0 in
      let due : Each IsDue (body.Voucher record { client = c; number = k + 1; order = order } ∷ []) =
      each_one IsDue (body.Voucher record { client = c; number = k + 1; order = order })
      (omega arith, ap (slice_get (orders (executed g known) c)) (less_one k) ∙ first) in
      each_append IsDue _ _
      (each_if IsDue (list_any (vouchers_said c (k + 1)) said) []
      (body.Voucher record { client = c; number = k + 1; order = order } ∷ []) (λ _. each_none IsDue) (λ _. due))
      (vouchers_from_are_due c (k + 1) rest
      (λ x. ap (slice_get (orders (executed g known) c)) (one_on k x) ∙ at (suc x)))

  vouchers_are_due : Each IsDue (vouchers_due g orders known said)
  vouchers_are_due = each_flat_map IsDue _ (numbers_below g.clients)
      (λ c _. subst (λ (x : ℕ). Each IsDue (vouchers_from said c x (orders (executed g known) c))) none_and_one
      (vouchers_from_are_due c 0 (orders (executed g known) c)
      (λ x. ap (slice_get (orders (executed g known) c)) (none_plus x))))

  marks_are_due : Each IsDue (marks_due g (facts_of g known) said)
  marks_are_due = each_flat_map IsDue (mark_due said) _
      (λ s _. each_if IsDue _ _ [] (λ _. each_one IsDue _ tt) (λ _. each_none IsDue))

  found_again : (xs : List Body) (t : Body → Bool) → ((b : Body) → IsIn b xs → IsIn b said) →
      ((b : Body) → t b ≡ true → is_repeated b ≡ true) → Each (Again said) (option_to_list (find t xs))
  found_again xs t within repeats = by_found (find t xs) (λ b e. let found = find_some t xs e in
      (within b found.0, repeats b found.1))
    where
      by_found : (o : Option Body) → ((b : Body) → o ≡ Some b → Again said b) →
          Each (Again said) (option_to_list o)
      by_found None at = each_none (Again said)
      by_found (Some b) at = each_one (Again said) b (at b refl)

  pub request_is_again : (now : ℕ) (at_tick : Bool) → Each (Again said) (request_again_due g me known said now at_tick)
  request_is_again now at_tick = each_if (Again said) (at_tick && is_slow_beat now)
      (option_to_list (find (requests_number (vector g known me + 1)) said)) []
      (λ _. found_again said (requests_number (vector g known me + 1)) (λ b h. h)
      (request_repeated (vector g known me + 1))) (λ _. each_none (Again said))

  pub acks_are_again : (now : ℕ) (at_tick : Bool) → Each (Again said) (acks_again_due g known said now at_tick)
  acks_are_again now at_tick = each_if (Again said) (at_tick && is_slow_beat now)
      (flat_map (λ j. option_to_list (find (acks j (vector g known j + 1)) said)) (numbers_below g.n)) []
      (λ _. each_flat_map (Again said) (λ j. option_to_list (find (acks j (vector g known j + 1)) said))
      (numbers_below g.n) (λ j _. found_again said (acks j (vector g known j + 1)) (λ b h. h)
      (ack_repeated j (vector g known j + 1)))) (λ _. each_none (Again said))

  pub summary_is_again : (now : ℕ) (at_tick : Bool) →
      Each (Again said) (summary_again_due g (facts_of g known) said now at_tick)
  summary_is_again now at_tick = each_if (Again said) _ (option_to_list (find is_summary (reverse said))) []
      (λ _. found_again (reverse said) is_summary (λ b h. in_reverse said h) summary_repeated)
      (λ _. each_none (Again said))

each_weaker : {X : Type 0} (P Q : X → Type 0) (xs : List X) → ((x : X) → P x → Q x) → Each P xs → Each Q xs
each_weaker P Q xs weaker each x h = weaker x (each x h)

pub each_by_rules : (P : Body → Type 0) (rules : Bool) (first live : List Body) → Each P first → Each P live →
    Each P (by_rules rules first live)
each_by_rules P rules first live by_first by_live = each_if P rules live first (λ _. by_live) (λ _. by_first)

-- Each word that is said is one that is due, or was said before.
pub answers_are_due : (g : Group) (orders : List Update → ℕ → List Order) (me : ℕ) (before : List Heard)
    (took : Option (Signed Body)) (at_tick : Bool)
    → Each (λ b. Due g orders (known_at before took) (taken_at before took) (said_before before) b
    ⊎ Again (said_before before) b) (answers g orders me before took at_tick)
unfolding answers
answers_are_due g orders me before took at_tick =
    let known : List (Signed Body) = known_at before took in
    let taken : List (Signed Body) = taken_at before took in
    let said : List Body = said_before before in
    let D = λ (b : Body). Due g orders known taken said b in
    let S = λ (b : Body). Again said b in
    let P = λ (b : Body). Due g orders known taken said b ⊎ Again said b in
    let new = λ (xs : List Body) (each : Each D xs). each_weaker D P xs (λ b d. inl d) each in
    let again = λ (xs : List Body) (each : Each S xs). each_weaker S P xs (λ b h. inr h) each in
    let facts : List OrderFact = facts_of g known in
    let told : List Told = told_of g [] (before ++ record { took = took; is_tick = at_tick; said = [] } ∷ []) in
    let v : ℕ = view g known in
    let now : ℕ = ticks_of told in
    let moments : List Moment = moments_of g [] (before ++ record { took = took; is_tick = at_tick; said = [] } ∷ []) in
    let waiting : ℕ = wait g v (reach g (ordered_run g facts)) moments in
    each_append P _ _ (each_append P _ _ (each_append P _ _ (each_append P _ _ (each_append P _ _
    (each_append P _ _ (each_append P _ _ (each_append P _ _ (each_append P _ _ (each_append P _ _
    (each_append P _ _ (each_append P _ _ (each_append P _ _ (each_append P _ _ (each_append P _ _
    (each_append P _ _ (each_append P _ _ (each_append P _ _ (each_append P _ _
    (each_by_rules P (is_live g) _ _ (new _ (requests_are_due g orders me known taken said said (numbers_below g.clients)))
    (each_append P _ _
    (new _ (requests_in_turn_are_due g orders me known taken said (executed g known) said (numbers_below g.clients)))
    (again _ (request_is_again g orders me known taken said now at_tick))))
    (each_by_rules P (is_live g) _ _ (new _ (acks_are_due g orders me known taken said))
    (each_append P _ _ (new _ (acks_in_turn_are_due g orders me known taken said))
    (again _ (acks_are_again g orders me known taken said now at_tick)))))
    (each_by_rules P (is_live g) _ _ (new _ (summaries_are_due g orders me known taken said at_tick))
    (each_append P _ _ (again _ (summary_is_again g orders me known taken said now at_tick))
    (new _ (summaries_are_due g orders me known taken said at_tick)))))
    (each_by_rules P (is_live g) _ _ (new _ (preprepares_are_due g orders me known taken said facts at_tick))
    (new _ (whole_preprepares_are_due g orders me known taken said facts at_tick))))
    (each_by_rules P (is_live g) _ _ (new _ (prepares_are_due g orders me known taken said))
    (new _ (worthy_prepares_are_due g orders me known taken said))))
    (new _ (commits_are_due g orders me known taken said)))
    (each_by_rules P (is_live g) _ _ (new _ (pings_are_due g orders me known taken said now at_tick)) (each_none P)))
    (each_by_rules P (is_live g) _ _ (new _ (pongs_are_due g orders me known taken said)) (each_none P)))
    (each_by_rules P (is_live g) _ _ (new _ (round_trips_are_due g orders me known taken said now)) (each_none P)))
    (each_by_rules P (is_live g) _ _ (new _ (tat_reports_are_due g orders me known taken said v (waited v told) at_tick))
    (each_none P)))
    (each_by_rules P (is_live g) _ _ (new _ (tat_bounds_are_due g orders me known taken said v at_tick)) (each_none P)))
    (each_by_rules P (is_live g) _ _ (new _ (suspects_are_due g orders me known taken said v at_tick))
    (new _ (votes_are_due g orders me known taken said v waiting now at_tick))))
    (new _ (report_is_due g orders me known taken said)))
    (new _ (new_view_is_due g orders me known taken said)))
    (each_by_rules P (is_live g) _ _
    (new _ (ask_update_is_due g orders me known taken said at_tick (waiting_for g known)))
    (new _ (update_asks_are_due g orders me known taken said moments now at_tick))))
    (each_by_rules P (is_live g) _ _ (new _ (gives_are_due g orders me known taken said))
    (new _ (some_gifts_are_due g orders me known taken said is_give (answered_in before) took now))))
    (each_by_rules P (is_live g) _ _ (new _ (ask_order_is_due g orders me known taken said at_tick (gap_of g facts)))
    (new _ (order_asks_are_due g orders me known taken said v (is_open g known) waiting now at_tick))))
    (each_by_rules P (is_live g) _ _ (new _ (gives_ordered_are_due g orders me known taken said))
    (new _ (some_gifts_are_due g orders me known taken said is_order_given (answered_in before) took now))))
    (new _ (vouchers_are_due g orders me known taken said)))
    (new _ (marks_are_due g orders me known taken said))
