-- What a correct master says once, and again at slow ticks: requests, acknowledgements, votes and asks.
use Rattle.std.proofs.Common.{◌≡◌, ℕ, ◌+◌, ◌/◌, ◌<◌, ◌≤◌, Bool, true, false, cond, ◌&&◌, ◌||◌, not, List, [], ◌∷◌, ◌++◌, Option}
use Rattle.std.proofs.Common.{Some, None, max, map, nat_eq, nat_lt, refl, sym, ◌∙◌, ap, subst, inl, inr}
use Rattle.std.proofs.Common.{arith, eqb-true}
use Rattle.std.proofs.lemmas.Bool.{false≢true, cases_eq, ne_eqb, and_left, and_right, and_parts, cases_lt, false_from_ne_true}
use Rattle.std.proofs.lemmas.List.{append-nil, map-append}
use Rattle.std.proofs.lemmas.List.Elements.{filter_map-append}
use Rattle.std.specs.Prelude.{is_some}
use Rattle.std.specs.List.{list_any, find, flat_map, filter_map}
use Rattle.std.specs.Option.{option_to_list}
use Rattle.plain_lists.proofs.Members.{any_from, find_some, in_map, in_filter_map, none_some, some_same}
use Rattle.message_types.specs.declared.signed.Signed.{Signed}
use Rattle.message_types.specs.declared.updates.Update.{Update}
use Rattle.message_types.specs.declared.preordering.PoRequest.{PoRequest}
use Rattle.message_types.specs.declared.body.Body.{Body}
use Rattle.message_types.specs.declared.body.Body.TheVariants as body
use Rattle.message_types.specs.Digests.{digest_of_update}
use Rattle.quorum_sets.specs.Masters.{numbers_below}
use Rattle.protocol_rules.specs.declared.facts.OrderFact.{OrderFact}
use Rattle.protocol_rules.specs.Words.{first_of_list, numbers_from, greatest_of}
use Rattle.protocol_rules.specs.Group.{Group, is_live, most_number, is_door}
use Rattle.protocol_rules.specs.Facts.{facts_of}
use Rattle.protocol_rules.specs.Preorder.{certified, vector, request_in, requests_said, update_of, acks, ack_due, updates_requested}
use Rattle.protocol_rules.specs.Order.{ordered, gapless}
use Rattle.protocol_rules.specs.Execution.{Request, updates_of}
use Rattle.protocol_rules.specs.Views.{view, is_open}
use Rattle.protocol_rules.specs.Measures.{suspects_said}
use Rattle.protocol_rules.specs.Patience.{Moment, is_beat, patience, is_vote_due, votes_due}
use Rattle.protocol_rules.specs.Turns.{has_turn, acks_in_turn_due, acks_again_due, last_request, last_introduced, next_in_turn}
use Rattle.protocol_rules.specs.Turns.{requests_in_turn_due, request_again_due, requests_number, is_slow_beat}
use Rattle.protocol_rules.specs.Reconcile.{updates_asked, orders_asked}
use Rattle.protocol_rules.specs.Lacking.{may_ask, order_asks_due, requests_lacking_of}
use Rattle.protocol_rules.specs.Lacking.{update_asks_due}
use Rattle.protocol_rules.specs.Master.{known_at, taken_at, said_before, executed}
use Rattle.protocol_rules.specs.declared.limits.TheConstants.{BEAT, SLOW_BEAT, MOST_REQUESTS_ASKED}
use Rattle.protocol_rules.proofs.Greatest.{greatest_of-append}
use Rattle.history_rules.specs.Events.{Entry}
use Rattle.history_rules.specs.Setup.{Setup, is_correct_master}
use Rattle.history_rules.specs.Legal.{IsLegal}
use Rattle.agreement.proofs.PlannedRows.{greatest_above}
use Rattle.words_by_part.specs.Kinds.{preordering, measuring, asking}
use Rattle.words_by_part.specs.Laws.{waiting_at, moments_at}
use Rattle.words_by_part.proofs.Sorting.{Of}
use Rattle.words_by_part.proofs.SaidAlive.{requests_in_turn_kind, acks_in_turn_kind, update_asks_kind, order_asks_kind}
use Rattle.progress_bounds.specs.Bounds.{SaidSlowly, times, ticks_in, words_by, ticks_by}
use Rattle.progress_bounds.proofs.Counting.{one, Few, few_none, few_more, few_append, few_if, few_then, few_unless, few_else, few_elim}
use Rattle.progress_bounds.proofs.Counting.{few_one, few_other, few_option, few_take, few_filter, few_map, few_filter_map, few_flat}
use Rattle.progress_bounds.proofs.Counting.{is_number, once_from, once_below}
use Rattle.progress_bounds.proofs.Rates.{due, by_part, by_turns, few_part, few_kind, on_beat, on_slow_beat, beat_grows, slow_beat_grows}

-- the kinds that these tests pass
request_is : (k : ℕ) (b : Body) → requests_number k b ≡ true → Of 2 b
request_is k (body.PoRequest b) e = refl
request_is k _ e = absurd (false≢true e)

pub ack_is : (j k : ℕ) (b : Body) → acks j k b ≡ true → Of 3 b
ack_is j k (body.PoAck b) e = refl
ack_is j k _ e = absurd (false≢true e)

vote_is : (v : ℕ) (b : Body) → suspects_said v b ≡ true → Of 13 b
vote_is v (body.Suspect b) e = refl
vote_is v _ e = absurd (false≢true e)

update_ask_is : (j k : ℕ) (b : Body) → updates_asked j k b ≡ true → Of 16 b
update_ask_is j k (body.AskUpdate b) e = refl
update_ask_is j k _ e = absurd (false≢true e)

order_ask_is : (s : ℕ) (b : Body) → orders_asked s b ≡ true → Of 18 b
order_ask_is s (body.AskOrder b) e = refl
order_ask_is s _ e = absurd (false≢true e)

-- The requests that a door introduces have numbers above those that it said, each its own.
request_said : (k : ℕ) (b : Body) → requests_number k b ≡ true → (r : PoRequest) × (request_in b ≡ Some r) × (r.k ≡ k)
request_said k (body.PoRequest r) e = (r, refl, eqb-true r.k k e)
request_said k _ e = absurd (false≢true e)

said_low : (k : ℕ) (said : List Body) → list_any (requests_number k) said ≡ true → k ≤ last_request said
said_low k said h =
    let found = any_from (requests_number k) said h in
    let r = request_said k found.0 found.2 in
    let low : r.0.k ≤ last_request said = greatest_above r.0.k (map (λ (b : PoRequest). b.k) (requests_said said))
    (in_map (λ (b : PoRequest). b.k) (in_filter_map request_in found.1 r.1)) in
    let same : r.0.k ≡ k = r.2 in
    omega arith

last_then : (said : List Body) (r : PoRequest) → last_request said < r.k →
    last_request (said ++ body.PoRequest r ∷ []) ≡ r.k
last_then said r more =
    let all : last_request (said ++ body.PoRequest r ∷ []) ≡ max (last_request said) (max r.k 0) =
    ap (λ (bs : List PoRequest). greatest_of (map (λ (b : PoRequest). b.k) bs))
    (filter_map-append request_in said (body.PoRequest r ∷ []))
    ∙ ap greatest_of (map-append (λ (b : PoRequest). b.k) (requests_said said) (r ∷ []))
    ∙ greatest_of-append (map (λ (b : PoRequest). b.k) (requests_said said)) (r.k ∷ []) in
    omega arith

module _ (g : Group) (me : ℕ) (taken : List (Signed Body)) (done : List Update) (k : ℕ) where
  one_request : (said : List Body) (c : ℕ) (clients : List ℕ)
      → ((more : List Body) → last_request said ≤ last_request more →
      Few (requests_number k) (one (nat_lt (last_request more) k)) (requests_in_turn_due g me taken done more clients))
      → (t : Bool) (o : Option (Signed Update)) (next : List Body)
      → next ≡ cond t (elim o [ Some u ↦ body.PoRequest record { k = last_request said + 1; update = u } ∷ [] | None ↦ [] ]) []
      → Few (requests_number k) (one (nat_lt (last_request said) k))
      (next ++ requests_in_turn_due g me taken done (said ++ next) clients)
  one_request said c clients deeper true (Some u) next e = subst
      (λ (bs : List Body). Few (requests_number k) (one (nat_lt (last_request said) k))
      (bs ++ requests_in_turn_due g me taken done (said ++ bs) clients)) (sym e)
      (elim (cases_eq (last_request said + 1) k) [
        | inl same ↦
            let above : nat_lt (last_request said) k ≡ true =
            Rattle.std.proofs.lemmas.Bool.lt-ltb (last_request said) k (omega arith) in
            let now : one (nat_lt (last_request said) k) ≡ 1 = ap one above in
            let last : last_request (said ++ body.PoRequest r ∷ []) ≡ last_request said + 1 = last_then said r (omega arith) in
            let not_above : nat_lt (last_request (said ++ body.PoRequest r ∷ [])) k ≡ false =
            Rattle.std.proofs.lemmas.Bool.le-ltb (last_request (said ++ body.PoRequest r ∷ [])) k (omega arith) in
            let none : one (nat_lt (last_request (said ++ body.PoRequest r ∷ [])) k) ≡ 0 = ap one not_above in
            few_append (requests_number k) (one (nat_lt (last_request said) k)) (body.PoRequest r ∷ []) _
            (few_one (requests_number k) (body.PoRequest r))
            (deeper (said ++ body.PoRequest r ∷ []) (omega arith)) (omega arith)
        | inr apart ↦
            let last : last_request (said ++ body.PoRequest r ∷ []) ≡ last_request said + 1 = last_then said r (omega arith) in
            few_append (requests_number k) (one (nat_lt (last_request said) k)) (body.PoRequest r ∷ []) _
            (few_other (requests_number k) (body.PoRequest r) (ne_eqb (last_request said + 1) k apart))
            (deeper (said ++ body.PoRequest r ∷ []) (omega arith))
            (fewer (last_request said) (last_request (said ++ body.PoRequest r ∷ [])) (omega arith))
      ])
    where
      r : PoRequest
      r = record { k = last_request said + 1; update = u }

      fewer : (a b : ℕ) → a ≤ b → 0 + one (nat_lt b k) ≤ one (nat_lt a k)
      fewer a b le = elim (cases_lt b k) [
        | inl low ↦
            let x : one (nat_lt b k) ≡ 1 = ap one (Rattle.std.proofs.lemmas.Bool.lt-ltb b k low) in
            let y : one (nat_lt a k) ≡ 1 = ap one (Rattle.std.proofs.lemmas.Bool.lt-ltb a k (omega arith)) in
            omega arith
        | inr high ↦
            let x : one (nat_lt b k) ≡ 0 = ap one (Rattle.std.proofs.lemmas.Bool.le-ltb b k high) in
            omega arith
      ]
  one_request said c clients deeper true None next e = subst
      (λ (bs : List Body). Few (requests_number k) (one (nat_lt (last_request said) k))
      (bs ++ requests_in_turn_due g me taken done (said ++ bs) clients)) (sym e)
      (subst (λ (bs : List Body). Few (requests_number k) (one (nat_lt (last_request said) k))
      (requests_in_turn_due g me taken done bs clients)) (sym (append-nil said)) (deeper said (omega arith)))
  one_request said c clients deeper false o next e = subst
      (λ (bs : List Body). Few (requests_number k) (one (nat_lt (last_request said) k))
      (bs ++ requests_in_turn_due g me taken done (said ++ bs) clients)) (sym e)
      (subst (λ (bs : List Body). Few (requests_number k) (one (nat_lt (last_request said) k))
      (requests_in_turn_due g me taken done bs clients)) (sym (append-nil said)) (deeper said (omega arith)))

  in_turn_few : (said : List Body) (clients : List ℕ) →
      Few (requests_number k) (one (nat_lt (last_request said) k)) (requests_in_turn_due g me taken done said clients)
  in_turn_few said [] = few_none (requests_number k) (one (nat_lt (last_request said) k))
  in_turn_few said (c ∷ clients) = one_request said c clients (λ more le. in_turn_few more clients)
      (is_door g c me && nat_lt (last_request said) most_number)
      (first_of_list (filter_map (update_of c (max (last_introduced said c) (updates_of c done) + 1)) taken))
      (next_in_turn g me taken done said c) refl

-- so none that was said
in_turn_new : (g : Group) (me : ℕ) (taken : List (Signed Body)) (done : List Update) (said : List Body) (clients : List ℕ)
    (k : ℕ) → Few (requests_number k) (one (not (list_any (requests_number k) said)))
    (requests_in_turn_due g me taken done said clients)
in_turn_new g me taken done said clients k = few_more (requests_number k) (in_turn_few g me taken done k said clients)
    (by (list_any (requests_number k) said) refl)
  where
    by : (b : Bool) → list_any (requests_number k) said ≡ b → one (nat_lt (last_request said) k) ≤ one (not b)
    by true e =
        let low : k ≤ last_request said = said_low k said e in
        let none : one (nat_lt (last_request said) k) ≡ 0 =
        ap one (Rattle.std.proofs.lemmas.Bool.le-ltb (last_request said) k low) in
        omega arith
    by false e = at_most (nat_lt (last_request said) k)
      where
        at_most : (b : Bool) → one b ≤ 1
        at_most true = omega arith
        at_most false = omega arith

again_few : (g : Group) (me : ℕ) (known : List (Signed Body)) (said : List Body) (now : ℕ) (at_tick : Bool) (k : ℕ) →
    Few (requests_number k) (on_slow_beat at_tick now) (request_again_due g me known said now at_tick)
again_few g me known said now at_tick k = few_then (requests_number k) (at_tick && is_slow_beat now) _
    (few_option (requests_number k) (find (requests_number (vector g known me + 1)) said))

-- acknowledgements
ack_few : (known : List (Signed Body)) (said : List Body) (j k i l : ℕ) →
    ((i ≡ j) × (l ≡ k) → Few (acks j k) (one (not (list_any (acks j k) said))) (ack_due known said i l))
    × ((nat_eq i j && nat_eq l k) ≡ false → Few (acks j k) 0 (ack_due known said i l))
ack_few known said j k i l = (
  λ same. subst (λ (x : ℕ). Few (acks j k) (one (not (list_any (acks j k) said))) (ack_due known said x l)) (sym same.0)
      (subst (λ (x : ℕ). Few (acks j k) (one (not (list_any (acks j k) said))) (ack_due known said j x)) (sym same.1)
      (few_unless (acks j k) (list_any (acks j k) said) _ (is_one (updates_requested known j k)))),
  λ apart. few_else (acks j k) 0 (list_any (acks i l) said) _ (none (updates_requested known i l) apart),
)
  where
    is_one : (us : List Update) →
        Few (acks j k) 1 (elim us [ [] ↦ [] | u ∷ _ ↦ body.PoAck record { j = j; k = k; digest = digest_of_update u } ∷ [] ])
    is_one [] = few_none (acks j k) 1
    is_one (u ∷ rest) = few_one (acks j k) (body.PoAck record { j = j; k = k; digest = digest_of_update u })

    none : (us : List Update) → (nat_eq i j && nat_eq l k) ≡ false →
        Few (acks j k) 0 (elim us [ [] ↦ [] | u ∷ _ ↦ body.PoAck record { j = i; k = l; digest = digest_of_update u } ∷ [] ])
    none [] apart = few_none (acks j k) 0
    none (u ∷ rest) apart = few_other (acks j k) (body.PoAck record { j = i; k = l; digest = digest_of_update u }) apart

acks_few : (g : Group) (known : List (Signed Body)) (said : List Body) (j k : ℕ) →
    Few (acks j k) (one (not (list_any (acks j k) said))) (acks_in_turn_due g known said)
acks_few g known said j k =
    few_flat (acks j k) (one (not (list_any (acks j k) said))) j
    (λ i. flat_map (λ l. cond (has_turn g known i l) (ack_due known said i l) []) (numbers_from 1 most_number))
    (λ i apart. few_flat (acks j k) 0 k (λ l. cond (has_turn g known i l) (ack_due known said i l) [])
    (λ l _. few_if (acks j k) 0 (has_turn g known i l) (ack_due known said i l)
    (λ _. (ack_few known said j k i l).1 (and_left (nat_eq i j) (nat_eq l k) (ne_eqb i j apart))))
    (few_if (acks j k) 0 (has_turn g known i k) (ack_due known said i k)
    (λ _. (ack_few known said j k i k).1 (and_left (nat_eq i j) (nat_eq k k) (ne_eqb i j apart))))
    (numbers_from 1 most_number) (once_from k 1 most_number))
    (few_flat (acks j k) (one (not (list_any (acks j k) said))) k
    (λ l. cond (has_turn g known j l) (ack_due known said j l) [])
    (λ l apart. few_if (acks j k) 0 (has_turn g known j l) (ack_due known said j l)
    (λ _. (ack_few known said j k j l).1 (and_right (nat_eq j j) (nat_eq l k) (ne_eqb l k apart))))
    (few_if (acks j k) (one (not (list_any (acks j k) said))) (has_turn g known j k) (ack_due known said j k)
    (λ _. (ack_few known said j k j k).0 (refl, refl)))
    (numbers_from 1 most_number) (once_from k 1 most_number))
    (numbers_below g.n) (once_below j g.n)

ack_by : (i l j k : ℕ) (b : Body) → acks i l b ≡ true → (i ≡ j → ⊥) → acks j k b ≡ false
ack_by i l j k (body.PoAck b) e apart =
    let is : b.j ≡ i = eqb-true b.j i (and_parts (nat_eq b.j i) (nat_eq b.k l) e).0 in
    and_left (nat_eq b.j j) (nat_eq b.k k) (ne_eqb b.j j (λ same. apart (sym is ∙ same)))
ack_by i l j k _ e apart = absurd (false≢true e)

acks_again_few : (g : Group) (known : List (Signed Body)) (said : List Body) (now : ℕ) (at_tick : Bool) (j k : ℕ) →
    Few (acks j k) (on_slow_beat at_tick now) (acks_again_due g known said now at_tick)
acks_again_few g known said now at_tick j k = few_then (acks j k) (at_tick && is_slow_beat now) _
    (few_flat (acks j k) 1 j (λ i. option_to_list (find (acks i (vector g known i + 1)) said))
    (λ i apart. found (find (acks i (vector g known i + 1)) said) (λ b e.
    ack_by i (vector g known i + 1) j k b (find_some (acks i (vector g known i + 1)) said e).1 apart))
    (few_option (acks j k) (find (acks j (vector g known j + 1)) said)) (numbers_below g.n) (once_below j g.n))
  where
    found : (o : Option Body) → ((b : Body) → o ≡ Some b → acks j k b ≡ false) → Few (acks j k) 0 (option_to_list o)
    found None is = few_none (acks j k) 0
    found (Some b) is = few_other (acks j k) b (is b refl)

-- votes: one that was said is due at a beat alone
due_bits : (a t l b d : Bool) → one (not a || ((t && l) && b && d)) ≤ one (not a) + one (t && b)
due_bits false t l b d = omega arith
due_bits true true true true d = at_most d
  where
    at_most : (d : Bool) → one d ≤ 0 + 1
    at_most true = omega arith
    at_most false = omega arith
due_bits true true true false d = omega arith
due_bits true true false b d = omega arith
due_bits true false l b d = omega arith

votes_few : (g : Group) (known : List (Signed Body)) (said : List Body) (v waiting now : ℕ) (at_tick : Bool) (u : ℕ) →
    Few (suspects_said u) (one (not (list_any (suspects_said u) said)) + on_beat at_tick now)
    (votes_due g known said v waiting now at_tick)
votes_few g known said v waiting now at_tick u =
    let impatient : Bool = at_tick && nat_lt (patience g v now) waiting in
    few_map (suspects_said u) (is_number u) (one (not (list_any (suspects_said u) said)) + on_beat at_tick now)
    (λ x. body.Suspect record { v = x }) (λ x. refl) _
    (few_more (is_number u) (few_filter (is_number u) (is_vote_due said now v impatient)
    (is_vote_due said now v impatient u)
    (λ x e. ap (is_vote_due said now v impatient) (eqb-true x u e)) _ (once_from u 0 _))
    (due_bits (list_any (suspects_said u) said) at_tick (nat_lt (patience g v now) waiting) (is_beat now)
    (nat_eq u v || nat_eq (u + 1) v)))

-- asks
ask_bits : (a b : Bool) → one (b || not a) ≤ one (not a) + one (true && b)
ask_bits a true = omega arith
ask_bits a false = omega arith

order_asks_few : (g : Group) (facts : List OrderFact) (said : List Body) (v : ℕ) (open_now : Bool) (waiting now : ℕ)
    (at_tick : Bool) (s : ℕ) → Few (orders_asked s) (one (not (list_any (orders_asked s) said)) + on_beat at_tick now)
    (order_asks_due g facts said v open_now waiting now at_tick)
order_asks_few g facts said v open_now waiting now true s =
    few_map (orders_asked s) (is_number s) (one (not (list_any (orders_asked s) said)) + on_beat true now)
    (λ x. body.AskOrder record { s = x }) (λ x. refl) _
    (few_more (is_number s) (few_filter (is_number s) (λ x. may_ask said now (orders_asked x))
    (may_ask said now (orders_asked s)) (λ x e. ap (λ y. may_ask said now (orders_asked y)) (eqb-true x s e)) _
    (few_more (is_number s) (few_filter (is_number s) (λ x. not (is_some (ordered g facts x)))
    (not (is_some (ordered g facts s))) (λ x e. ap (λ y. not (is_some (ordered g facts y))) (eqb-true x s e)) _
    (once_from s (gapless g facts + 1) _)) (at_most (not (is_some (ordered g facts s))))))
    (ask_bits (list_any (orders_asked s) said) (is_beat now)))
  where
    at_most : (b : Bool) → one b ≤ 1
    at_most true = omega arith
    at_most false = omega arith
order_asks_few g facts said v open_now waiting now false s =
    few_none (orders_asked s) (one (not (list_any (orders_asked s) said)) + on_beat false now)

-- the request is this one
abbrev is_request : ℕ → ℕ → Request → Bool
is_request j k r = nat_eq r.j j && nat_eq r.k k

lacking_few : (g : Group) (known : List (Signed Body)) (facts : List OrderFact) (moments : List Moment) (now j k : ℕ) →
    Few (is_request j k) 1 (flat_map (requests_lacking_of g known facts moments now) (numbers_below g.n))
lacking_few g known facts moments now j k =
    few_flat (is_request j k) 1 j (requests_lacking_of g known facts moments now)
    (λ i apart. few_more (is_request j k) (few_each_of i apart) (omega arith))
    (few_filter_map (is_request j k) k 1 _ (λ l r e is. of_number j l (certified g known j l) r e is) _
    (once_from k (vector g known j + 1) _)) (numbers_below g.n) (once_below j g.n)
  where
    -- what is lacking is request (i, l)
    is_lacking : (i l : ℕ) (o : Option Update) (r : Request) →
        elim o [ None ↦ Some record { j = i; k = l } | Some u ↦ None ] ≡ Some r → r ≡ record { j = i; k = l }
    is_lacking i l None r e = sym (some_same e)
    is_lacking i l (Some u) r e = absurd (none_some e)

    of_number : (i l : ℕ) (o : Option Update) (r : Request) →
        elim o [ None ↦ Some record { j = i; k = l } | Some u ↦ None ] ≡ Some r → is_request j k r ≡ true → l ≡ k
    of_number i l o r e is =
        let which : r.k ≡ l = ap (λ (x : Request). x.k) (is_lacking i l o r e) in
        sym which ∙ eqb-true r.k k (and_parts (nat_eq r.j j) (nat_eq r.k k) is).1

    few_each_of : (i : ℕ) → (i ≡ j → ⊥) → Few (is_request j k) 0 (requests_lacking_of g known facts moments now i)
    few_each_of i apart = few_filter_none _ (λ l r e. other i l (certified g known i l) r e apart) _
      where
        other : (i l : ℕ) (o : Option Update) (r : Request) →
            elim o [ None ↦ Some record { j = i; k = l } | Some u ↦ None ] ≡ Some r → (i ≡ j → ⊥) → is_request j k r ≡ false
        other i l o r e apart =
            let which : r.j ≡ i = ap (λ (x : Request). x.j) (is_lacking i l o r e) in
            and_left (nat_eq r.j j) (nat_eq r.k k) (ne_eqb r.j j (λ same. apart (sym which ∙ same)))

        few_filter_none : (f : ℕ → Option Request) → ((l : ℕ) (r : Request) → f l ≡ Some r → is_request j k r ≡ false) →
            (ls : List ℕ) → Few (is_request j k) 0 (filter_map f ls)
        few_filter_none f none ls = Rattle.progress_bounds.proofs.Counting.few_each (is_request j k) (filter_map f ls)
            (λ r h. let found = Rattle.plain_lists.proofs.Members.in_filter_map_from f ls h in none found.0 r found.2)

update_asks_few : (g : Group) (known : List (Signed Body)) (facts : List OrderFact) (said : List Body)
    (moments : List Moment) (now : ℕ) (at_tick : Bool) (j k : ℕ)
    → Few (updates_asked j k) (one (not (list_any (updates_asked j k) said)) + on_beat at_tick now)
    (update_asks_due g known facts said moments now at_tick)
update_asks_few g known facts said moments now true j k =
    few_map (updates_asked j k) (is_request j k) (one (not (list_any (updates_asked j k) said)) + on_beat true now)
    (λ (r : Request). body.AskUpdate record { j = r.j; k = r.k }) (λ r. refl) _
    (few_take (is_request j k) MOST_REQUESTS_ASKED _
    (few_more (is_request j k) (few_filter (is_request j k) (λ r. may_ask said now (updates_asked r.j r.k))
    (may_ask said now (updates_asked j k)) same _ (lacking_few g known facts moments now j k))
    (ask_bits (list_any (updates_asked j k) said) (is_beat now))))
  where
    same : (r : Request) → is_request j k r ≡ true →
        may_ask said now (updates_asked r.j r.k) ≡ may_ask said now (updates_asked j k)
    same r e =
        let both = and_parts (nat_eq r.j j) (nat_eq r.k k) e in
        let is_j : r.j ≡ j = eqb-true r.j j both.0 in
        let is_k : r.k ≡ k = eqb-true r.k k both.1 in
        λ i. may_ask said now (updates_asked (is_j i) (is_k i))
update_asks_few g known facts said moments now false j k =
    few_none (updates_asked j k) (one (not (list_any (updates_asked j k) said)) + on_beat false now)

module _ (w : Setup) (m : ℕ) (live : is_live w.group ≡ true) (correct : is_correct_master w m ≡ true)
    (history : List Entry) (legal : IsLegal w history) where
  requests_slowly : (k : ℕ) → times (requests_number k) (words_by w history m) ≤ 1 + ticks_by w history m / SLOW_BEAT
  requests_slowly k = by_turns w m live correct (requests_number k) (λ t. t / SLOW_BEAT) on_slow_beat slow_beat_grows
      (λ before took at_tick.
      let known = known_at before took in
      let said = said_before before in
      let now = ticks_in before + one at_tick in
      let taken = taken_at before took in
      let done = executed w.group known in
      few_part (requests_number k) preordering (λ b e. ap (λ x. list_any (nat_eq x) preordering) (request_is k b e))
      (due w m live correct before took at_tick) _ (by_part w m live correct before took at_tick).requests
      (few_append (requests_number k) (one (not (list_any (requests_number k) said)) + on_slow_beat at_tick now)
      (requests_in_turn_due w.group m taken done said (numbers_below w.group.clients)
      ++ request_again_due w.group m known said now at_tick) _
      (few_append (requests_number k) (one (not (list_any (requests_number k) said)) + on_slow_beat at_tick now)
      (requests_in_turn_due w.group m taken done said (numbers_below w.group.clients))
      (request_again_due w.group m known said now at_tick)
      (in_turn_new w.group m taken done said (numbers_below w.group.clients) k)
      (again_few w.group m known said now at_tick k) (omega arith))
      (few_kind (requests_number k) 2 3 (request_is k) (λ e. absurd (omega arith)) _
      (acks_in_turn_kind w.group known said now at_tick)) (omega arith))) history legal

  acks_slowly : (j k : ℕ) → times (acks j k) (words_by w history m) ≤ 1 + ticks_by w history m / SLOW_BEAT
  acks_slowly j k = by_turns w m live correct (acks j k) (λ t. t / SLOW_BEAT) on_slow_beat slow_beat_grows
      (λ before took at_tick.
      let known = known_at before took in
      let said = said_before before in
      let now = ticks_in before + one at_tick in
      let taken = taken_at before took in
      let done = executed w.group known in
      few_part (acks j k) preordering (λ b e. ap (λ x. list_any (nat_eq x) preordering) (ack_is j k b e))
      (due w m live correct before took at_tick) _ (by_part w m live correct before took at_tick).requests
      (few_append (acks j k) (one (not (list_any (acks j k) said)) + on_slow_beat at_tick now)
      (requests_in_turn_due w.group m taken done said (numbers_below w.group.clients)
      ++ request_again_due w.group m known said now at_tick) _
      (few_kind (acks j k) 3 2 (ack_is j k) (λ e. absurd (omega arith)) _
      (requests_in_turn_kind w.group m taken done known said (numbers_below w.group.clients) now at_tick))
      (few_append (acks j k) (one (not (list_any (acks j k) said)) + on_slow_beat at_tick now)
      (acks_in_turn_due w.group known said) (acks_again_due w.group known said now at_tick)
      (acks_few w.group known said j k) (acks_again_few w.group known said now at_tick j k) (omega arith)) (omega arith)))
      history legal

  votes_slowly : (v : ℕ) → times (suspects_said v) (words_by w history m) ≤ 1 + ticks_by w history m / BEAT
  votes_slowly v = by_turns w m live correct (suspects_said v) (λ t. t / BEAT) on_beat beat_grows
      (λ before took at_tick.
      let known = known_at before took in
      let now = ticks_in before + one at_tick in
      few_part (suspects_said v) measuring (λ b e. ap (λ x. list_any (nat_eq x) measuring) (vote_is v b e))
      (due w m live correct before took at_tick) _ (by_part w m live correct before took at_tick).votes
      (votes_few w.group known (said_before before) (view w.group known)
      (waiting_at w.group known (moments_at w.group before took at_tick)) now at_tick v)) history legal

  update_asks_slowly : (j k : ℕ) → times (updates_asked j k) (words_by w history m) ≤ 1 + ticks_by w history m / BEAT
  update_asks_slowly j k = by_turns w m live correct (updates_asked j k) (λ t. t / BEAT) on_beat beat_grows
      (λ before took at_tick.
      let known = known_at before took in
      let said = said_before before in
      let facts = facts_of w.group known in
      let now = ticks_in before + one at_tick in
      let moments = moments_at w.group before took at_tick in
      few_part (updates_asked j k) asking (λ b e. ap (λ x. list_any (nat_eq x) asking) (update_ask_is j k b e))
      (due w m live correct before took at_tick) _ (by_part w m live correct before took at_tick).asks
      (few_append (updates_asked j k) (one (not (list_any (updates_asked j k) said)) + on_beat at_tick now)
      (update_asks_due w.group known facts said moments now at_tick) _
      (update_asks_few w.group known facts said moments now at_tick j k)
      (few_kind (updates_asked j k) 16 18 (update_ask_is j k) (λ e. absurd (omega arith)) _
      (order_asks_kind w.group facts said (view w.group known) (is_open w.group known)
      (waiting_at w.group known moments) now at_tick)) (omega arith))) history legal

  order_asks_slowly : (s : ℕ) → times (orders_asked s) (words_by w history m) ≤ 1 + ticks_by w history m / BEAT
  order_asks_slowly s = by_turns w m live correct (orders_asked s) (λ t. t / BEAT) on_beat beat_grows
      (λ before took at_tick.
      let known = known_at before took in
      let said = said_before before in
      let facts = facts_of w.group known in
      let now = ticks_in before + one at_tick in
      let moments = moments_at w.group before took at_tick in
      few_part (orders_asked s) asking (λ b e. ap (λ x. list_any (nat_eq x) asking) (order_ask_is s b e))
      (due w m live correct before took at_tick) _ (by_part w m live correct before took at_tick).asks
      (few_append (orders_asked s) (one (not (list_any (orders_asked s) said)) + on_beat at_tick now)
      (update_asks_due w.group known facts said moments now at_tick) _
      (few_kind (orders_asked s) 18 16 (order_ask_is s) (λ e. absurd (omega arith)) _
      (update_asks_kind w.group known facts said moments now at_tick))
      (order_asks_few w.group facts said (view w.group known) (is_open w.group known)
      (waiting_at w.group known moments) now at_tick s) (omega arith))) history legal

pub said_slowly : SaidSlowly
said_slowly w history m bound = record {
  requests = requests_slowly w m bound.live bound.correct history bound.legal;
  acknowledgements = acks_slowly w m bound.live bound.correct history bound.legal;
  votes = votes_slowly w m bound.live bound.correct history bound.legal;
  update_asks = update_asks_slowly w m bound.live bound.correct history bound.legal;
  order_asks = order_asks_slowly w m bound.live bound.correct history bound.legal;
}
