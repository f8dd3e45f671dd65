-- Words on requests that a master says: their numbers are within the limits, and what it gives has a quorum's
-- acknowledgements.
use Rattle.std.proofs.Common.{◌≡◌, ℕ, ◌+◌, ◌-◌, ◌<◌, ◌≤◌, Bool, true, false, cond, ◌&&◌, List, [], ◌∷◌, ◌++◌, Option}
use Rattle.std.proofs.Common.{Some, None, length, length-take-le, map, max, nat_eq, nat_lt, nat_le, refl, sym, ◌∙◌, ap}
use Rattle.std.proofs.Common.{subst, arith}
use Rattle.std.specs.Prelude.{slice_index}
use Rattle.std.specs.List.{list_all, list_any, filter_map, flat_map}
use Rattle.std.specs.Option.{is_some}
use Rattle.std.specs.Str.{bytes_eq}
use Rattle.std.proofs.lemmas.Bool.{false≢true, and_from, and_parts, leb-true, ltb-true, le-leb, lt-ltb, eq-eqb}
use Rattle.std.proofs.lemmas.Bool.{eqb-true}
use Rattle.std.proofs.lemmas.List.{length-map}
use Rattle.plain_lists.specs.Lists.{IsIn, here, there, Each}
use Rattle.plain_lists.proofs.Members.{each_none, each_one, each_append, each_if, each_map, each_flat_map, in_map_from, in_filter_from, in_filter_map, in_filter_map_from, in_take, in_flat_map_from, any_from, any_in, none_some, some_same}
use Rattle.protocol_rules.proofs.FirstMet.{first_in, first_there}
use Rattle.sha2.specs.Sha256.{sha256}
use Rattle.quorum_sets.specs.Masters.{numbers_below, voters}
use Rattle.quorum_sets.specs.Quorum.{has_quorum}
use Rattle.message_types.specs.declared.signed.Signed.{Signed}
use Rattle.message_types.specs.declared.updates.Update.{Update}
use Rattle.message_types.specs.declared.preordering.PoRequest.{PoRequest}
use Rattle.message_types.specs.declared.preordering.PoAck.{PoAck}
use Rattle.message_types.specs.declared.body.Body.{Body}
use Rattle.message_types.specs.declared.body.Body.TheVariants as body
use Rattle.message_types.specs.Digests.{digest_of_update}
use Rattle.message_types.specs.Texts.{update_text}
use Rattle.protocol_rules.specs.Words.{numbers_from, run_from, first_of_list}
use Rattle.protocol_rules.specs.Group.{Group, most_number, is_door}
use Rattle.protocol_rules.specs.Places.{is_number, is_row, are_rows}
use Rattle.protocol_rules.specs.Facts.{facts_of}
use Rattle.protocol_rules.specs.Order.{ordered, ordered_run}
use Rattle.protocol_rules.specs.Preorder.{certified, vector, updates_requested, update_of, is_ack, is_acked}
use Rattle.protocol_rules.specs.Preorder.{requests_said, requests_said_for, next_request, requests_due, acks}
use Rattle.protocol_rules.specs.Preorder.{ack_due, acks_due}
use Rattle.protocol_rules.specs.Turns.{has_turn, acks_in_turn_due, last_request, last_introduced, next_in_turn}
use Rattle.protocol_rules.specs.Turns.{requests_in_turn_due}
use Rattle.protocol_rules.specs.Matrix.{eligible, reach, column}
use Rattle.protocol_rules.specs.Execution.{Request, requests_between, newly_eligible, eligible_requests, updates_of}
use Rattle.protocol_rules.specs.Execution.{first_missing, waiting_of}
use Rattle.protocol_rules.specs.Reconcile.{ask_update_due, request_of, ack_of, quorum_of_acks, request_gift}
use Rattle.protocol_rules.specs.Reconcile.{gives_due}
use Rattle.protocol_rules.specs.declared.facts.OrderFact.{OrderFact}
use Rattle.protocol_rules.specs.Patience.{Moment}
use Rattle.protocol_rules.specs.Lacking.{requests_wanted_to, requests_lacking_of, update_asks_due}
use Rattle.protocol_rules.specs.Master.{summaries_due, waiting_for}
use Rattle.agreement.proofs.QuorumsMeet.{below_from}
use Rattle.agreement.proofs.SpokenByKind.{each_elim, if_some}
use Rattle.agreement.proofs.FramesInside.{bytes_same}
use Rattle.agreement.proofs.SaidOnce.{length-filter_map}
use Rattle.agreement.proofs.QuorumsStay.{filter_more, quorum_more}
use Rattle.agreement.proofs.RequestsAgree.{certified_from}
use Rattle.words_in_place.proofs.Limits.{all_from, all_each, same_bytes, number_from, from_bounds, number_in}
use Rattle.words_in_place.proofs.Limits.{each_run, greatest_of-within, index_within}
use Rattle.words_in_place.proofs.Ordering.{WordPlaced}
use Rattle.quorum_sets.proofs.Numbered.{length-numbers_below}
use Rattle.protocol_rules.proofs.Numbers.{length-run_from}

next_in_limits : (x : ℕ) → x < most_number → is_number (x + 1) ≡ true
next_in_limits x less = number_from (x + 1) (omega arith) (omega arith)

vector_within : (g : Group) (known : List (Signed Body)) (j : ℕ) → nat_le (vector g known j) most_number ≡ true
unfolding vector
vector_within g known j = le-leb _ most_number (length-run_from (λ k. certified g known j k) 1 most_number)

-- of rows in their place no number is greater than there is
row_within : (g : Group) (row : List ℕ) (j : ℕ) → is_row g row ≡ true → slice_index row j ≤ most_number
row_within g row j = by_length (nat_eq (length row) 0) refl
  where
    by_length : (b : Bool) → nat_eq (length row) 0 ≡ b →
        cond b true (nat_eq (length row) g.n && list_all (λ x. nat_le x most_number) row) ≡ true →
        slice_index row j ≤ most_number
    by_length true e placed = by_row row (eqb-true (length row) 0 e)
      where
        by_row : (xs : List ℕ) → length xs ≡ 0 → slice_index xs j ≤ most_number
        by_row [] none = omega arith
        by_row (x ∷ xs) none = absurd (omega arith)
    by_length false e placed = index_within most_number row j (λ x h.
        leb-true x most_number (all_each (λ x. nat_le x most_number) row
        (and_parts (nat_eq (length row) g.n) (list_all (λ x. nat_le x most_number) row) placed).1 x h))

eligible_within : (g : Group) (rows : List (List ℕ)) (j : ℕ) → are_rows g rows ≡ true → eligible g rows j ≤ most_number
unfolding eligible
eligible_within g rows j placed = greatest_of-within most_number _ (λ x h.
    let column_member = (in_filter_from _ (column rows j) h).0 in
    let found = in_map_from (λ row. slice_index row j) rows column_member in
    let row = all_each (is_row g) rows (and_parts (nat_eq (length rows) g.n) (list_all (is_row g) rows) placed).1
    found.0 found.1 in
    subst (λ (y : ℕ). y ≤ most_number) (sym found.2) (row_within g found.0 j row))

-- a request of a master below n, with a number within the limits
abbrev pub RequestPlaced : Group → Request → Type 0
RequestPlaced g r = (r.j < g.n) × (is_number r.k ≡ true)

abbrev request_at : ℕ → ℕ → Request
request_at j k = record { j = j; k = k }

newly_placed : (g : Group) (before : List (List (List ℕ))) (rows : List (List ℕ)) → are_rows g rows ≡ true →
    Each (RequestPlaced g) (newly_eligible g before rows)
newly_placed g before rows placed =
    each_flat_map (RequestPlaced g) (λ j. requests_between j (reach g before j) (eligible g rows j))
    (numbers_below g.n) (λ j h.
    each_map (RequestPlaced g) (request_at j)
    (numbers_from (reach g before j + 1) (eligible g rows j - reach g before j)) (λ k within.
    let bounds = from_bounds (reach g before j + 1) (eligible g rows j - reach g before j) k within in
    let low : reach g before j + 1 ≤ k = bounds.0 in
    let high : k < reach g before j + 1 + (eligible g rows j - reach g before j) = bounds.1 in
    let most : eligible g rows j ≤ most_number = eligible_within g rows j placed in
    (below_from g.n j h, number_from k (omega arith) (omega arith))))

eligible_placed : (g : Group) (before runs : List (List (List ℕ))) → Each (λ rows. are_rows g rows ≡ true) runs →
    Each (RequestPlaced g) (eligible_requests g before runs)
unfolding eligible_requests
eligible_placed g before [] placed = each_none (RequestPlaced g)
eligible_placed g before (rows ∷ rest) placed = each_append (RequestPlaced g) (newly_eligible g before rows) _
    (newly_placed g before rows (placed rows (here rest)))
    (eligible_placed g (before ++ rows ∷ []) rest (λ r h. placed r (there rows rest h)))

missing_in : (certified : Request → Option Update) (rs : List Request) (r : Request) →
    first_missing certified rs ≡ Some r → IsIn r rs
unfolding first_missing
missing_in certified [] r e = absurd (none_some e)
missing_in certified (x ∷ rest) r e = by_first (certified x) e (λ later. missing_in certified rest r later)
  where
    by_first : (o : Option Update) → (elim o [ None ↦ Some x | Some u ↦ first_missing certified rest ]) ≡ Some r →
        (first_missing certified rest ≡ Some r → IsIn r rest) → IsIn r (x ∷ rest)
    by_first None e later = subst (λ (z : Request). IsIn z (x ∷ rest)) (some_same e) (here rest)
    by_first (Some u) e later = there x rest (later e)

pub waiting_placed : (g : Group) (known : List (Signed Body)) →
    ((s : ℕ) (rows : List (List ℕ)) → ordered g (facts_of g known) s ≡ Some rows → are_rows g rows ≡ true)
    → (r : Request) → waiting_for g known ≡ Some r → RequestPlaced g r
unfolding waiting_of ordered_run
waiting_placed g known placed r e =
    eligible_placed g [] (run_from (ordered g (facts_of g known)) 1 most_number)
    (each_run (λ rows. are_rows g rows ≡ true) (ordered g (facts_of g known)) placed 1 most_number)
    r (missing_in _ _ r e)

-- what an acknowledgement tells that is counted
pub ack_from_word : (j k : ℕ) (digest : List ℕ) (m signer : ℕ) (word : Body) (sig : List ℕ) (u : Signed PoAck) →
    ack_of j k digest m record { signer = signer; body = word; sig = sig } ≡ Some u
    → (u.signer ≡ m) × (u.body.j ≡ j) × (u.body.k ≡ k) × (u.body.digest ≡ digest)
ack_from_word j k digest m signer (body.PoAck b) sig u e =
    let held = if_some (nat_eq signer m && nat_eq b.j j && nat_eq b.k k && bytes_eq b.digest digest) e in
    let digests = and_parts (nat_eq signer m && nat_eq b.j j && nat_eq b.k k) (bytes_eq b.digest digest) held.0 in
    let numbers = and_parts (nat_eq signer m && nat_eq b.j j) (nat_eq b.k k) digests.0 in
    let masters = and_parts (nat_eq signer m) (nat_eq b.j j) numbers.0 in
    subst (λ (z : Signed PoAck). (z.signer ≡ m) × (z.body.j ≡ j) × (z.body.k ≡ k) × (z.body.digest ≡ digest)) held.1 (
      eqb-true signer m masters.0,
      eqb-true b.j j masters.1,
      eqb-true b.k k numbers.1,
      bytes_same b.digest digest digests.1,
    )
ack_from_word j k digest m signer _ sig u e = absurd (none_some e)

cond_some : {X : Type 0} (b : Bool) (x : X) → b ≡ true → cond b (Some x) None ≡ Some x
cond_some b x e = ap (λ t. cond t (Some x) None) e

ack_in_word : (j k : ℕ) (digest : List ℕ) (m signer : ℕ) (word : Body) (sig : List ℕ) →
    is_ack j k digest m record { signer = signer; body = word; sig = sig } ≡ true
    → (u : Signed PoAck) × (ack_of j k digest m record { signer = signer; body = word; sig = sig } ≡ Some u)
ack_in_word j k digest m signer (body.PoAck b) sig e =
    let u : Signed PoAck = record { signer = signer; body = b; sig = sig } in
    (u, cond_some (nat_eq signer m && nat_eq b.j j && nat_eq b.k k && bytes_eq b.digest digest) u e)
ack_in_word j k digest m signer _ sig e = absurd (false≢true e)

-- the master's first acknowledgement
abbrev pub first_ack : List (Signed Body) → ℕ → ℕ → List ℕ → ℕ → Option (Signed PoAck)
first_ack known j k digest m = first_of_list (filter_map (ack_of j k digest m) known)

ack_known : (known : List (Signed Body)) (j k : ℕ) (digest : List ℕ) (m : ℕ) →
    list_any (is_ack j k digest m) known ≡ true → is_some (first_ack known j k digest m) ≡ true
ack_known known j k digest m e =
    let found = any_from (is_ack j k digest m) known e in
    let word = ack_in_word j k digest m found.0.signer found.0.body found.0.sig found.2 in
    let first = first_there (in_filter_map (ack_of j k digest m) found.1 word.1) in
    ap is_some first.1

acks_enough : (g : Group) (known : List (Signed Body)) (j k : ℕ) (digest : List ℕ) →
    is_acked g known j k digest ≡ true → g.q ≤ length (filter_map (first_ack known j k digest) (numbers_below g.n))
unfolding has_quorum
acks_enough g known j k digest acked =
    let enough : g.q ≤ length (voters (λ m. list_any (is_ack j k digest m) known) g.n) =
    leb-true g.q (length (voters (λ m. list_any (is_ack j k digest m) known) g.n)) acked in
    let same : length (filter_map (first_ack known j k digest) (numbers_below g.n)) ≡ length
    (voters (λ m. is_some (first_ack known j k digest m)) g.n) =
    length-filter_map (first_ack known j k digest) (numbers_below g.n) in
    let more : length (voters (λ m. list_any (is_ack j k digest m) known) g.n) ≤ length
    (voters (λ m. is_some (first_ack known j k digest m)) g.n) =
    filter_more (λ m. list_any (is_ack j k digest m) known) (λ m. is_some (first_ack known j k digest m))
    (ack_known known j k digest) (numbers_below g.n) in
    omega arith

-- what is certified has a quorum over all that is known
certified_acked : (g : Group) (known : List (Signed Body)) (j k : ℕ) (u : Update) → certified g known j k ≡ Some u →
    is_acked g known j k (digest_of_update u) ≡ true
certified_acked g known j k u e =
    let from = certified_from g known j k u e in
    let digest : List ℕ = digest_of_update u in
    quorum_more g.n g.q (λ m. list_any (is_ack j k digest m) from.0) (λ m. list_any (is_ack j k digest m) known)
    (λ m some. let found = any_from (is_ack j k digest m) from.0 some in
    any_in (is_ack j k digest m) (from.1 found.0 found.1) found.2) from.3

request_from_word : (j k : ℕ) (u : Update) (signer : ℕ) (word : Body) (sig : List ℕ) (r : Signed PoRequest) →
    request_of j k u record { signer = signer; body = word; sig = sig } ≡ Some r
    → (r.signer ≡ j) × (r.body.k ≡ k) × (update_text r.body.update.body ≡ update_text u)
request_from_word j k u signer (body.PoRequest b) sig r e =
    let held = if_some (nat_eq signer j && nat_eq b.k k && bytes_eq (update_text b.update.body) (update_text u)) e in
    let texts = and_parts (nat_eq signer j && nat_eq b.k k) (bytes_eq (update_text b.update.body) (update_text u))
    held.0 in
    let numbers = and_parts (nat_eq signer j) (nat_eq b.k k) texts.0 in
    subst (λ (z : Signed PoRequest). (z.signer ≡ j) × (z.body.k ≡ k)
    × (update_text z.body.update.body ≡ update_text u)) held.1 (
      eqb-true signer j numbers.0,
      eqb-true b.k k numbers.1,
      bytes_same (update_text b.update.body) (update_text u) texts.1,
    )
request_from_word j k u signer _ sig r e = absurd (none_some e)

digest_of_text : (a b : Update) → update_text a ≡ update_text b → digest_of_update a ≡ digest_of_update b
unfolding digest_of_update
digest_of_text a b e = ap sha256 e

module _ (g : Group) (me : ℕ) (known taken : List (Signed Body)) (said : List Body) where
  next_placed : (before : List Body) (c : ℕ) → Each (WordPlaced g me) (next_request g me taken before c)
  next_placed before c = each_if (WordPlaced g me)
      (is_door g c me && nat_lt (length (requests_said before)) most_number) _ [] (λ holds.
      each_elim (WordPlaced g me) (first_of_list (filter_map (update_of c (requests_said_for c before + 1)) taken))
      _ (λ u _.
      each_one (WordPlaced g me) (body.PoRequest record { k = length (requests_said before) + 1; update = u })
      (next_in_limits (length (requests_said before))
      (ltb-true (length (requests_said before)) most_number (and_parts _ _ holds).1))))
      (λ _. each_none (WordPlaced g me))

  pub requests_placed : (before : List Body) (clients : List ℕ) →
      Each (WordPlaced g me) (requests_due g me taken before clients)
  requests_placed before [] = each_none (WordPlaced g me)
  requests_placed before (c ∷ clients) =
      each_append (WordPlaced g me) (next_request g me taken before c) _ (next_placed before c)
      (requests_placed (before ++ next_request g me taken before c) clients)

  next_in_turn_placed : (done : List Update) (before : List Body) (c : ℕ) →
      Each (WordPlaced g me) (next_in_turn g me taken done before c)
  next_in_turn_placed done before c =
      each_if (WordPlaced g me) (is_door g c me && nat_lt (last_request before) most_number) _ [] (λ holds.
      each_elim (WordPlaced g me)
      (first_of_list (filter_map (update_of c (max (last_introduced before c) (updates_of c done) + 1)) taken))
      _ (λ u _.
      each_one (WordPlaced g me) (body.PoRequest record { k = last_request before + 1; update = u })
      (next_in_limits (last_request before)
      (ltb-true (last_request before) most_number (and_parts _ _ holds).1))))
      (λ _. each_none (WordPlaced g me))

  pub requests_in_turn_placed : (done : List Update) (before : List Body) (clients : List ℕ) →
      Each (WordPlaced g me) (requests_in_turn_due g me taken done before clients)
  requests_in_turn_placed done before [] = each_none (WordPlaced g me)
  requests_in_turn_placed done before (c ∷ clients) =
      each_append (WordPlaced g me) (next_in_turn g me taken done before c) _ (next_in_turn_placed done before c)
      (requests_in_turn_placed done (before ++ next_in_turn g me taken done before c) clients)

  ack_placed : (j k : ℕ) → (nat_lt j g.n && is_number k) ≡ true → (us : List Update)
      → Each (WordPlaced g me) (elim us
      [ [] ↦ [] | u ∷ _ ↦ body.PoAck record { j = j; k = k; digest = digest_of_update u } ∷ [] ])
  ack_placed j k within [] = each_none (WordPlaced g me)
  ack_placed j k within (u ∷ us) =
      each_one (WordPlaced g me) (body.PoAck record { j = j; k = k; digest = digest_of_update u }) within

  ack_due_placed : (j k : ℕ) → (nat_lt j g.n && is_number k) ≡ true → Each (WordPlaced g me) (ack_due known said j k)
  ack_due_placed j k within = each_if (WordPlaced g me) (list_any (acks j k) said) [] _
      (λ _. each_none (WordPlaced g me)) (λ _. ack_placed j k within (updates_requested known j k))

  ack_within : (j k : ℕ) → IsIn j (numbers_below g.n) → IsIn k (numbers_from 1 most_number) →
      (nat_lt j g.n && is_number k) ≡ true
  ack_within j k below upto = and_from _ _ (lt-ltb j g.n (below_from g.n j below))
      (number_in most_number k (omega arith) upto)

  pub acks_placed : Each (WordPlaced g me) (acks_due g known said)
  acks_placed = each_flat_map (WordPlaced g me) _ (numbers_below g.n)
      (λ j below. each_flat_map (WordPlaced g me) _ (numbers_from 1 most_number)
      (λ k upto. ack_due_placed j k (ack_within j k below upto)))

  pub acks_in_turn_placed : Each (WordPlaced g me) (acks_in_turn_due g known said)
  acks_in_turn_placed = each_flat_map (WordPlaced g me) _ (numbers_below g.n)
      (λ j below. each_flat_map (WordPlaced g me) _ (numbers_from 1 most_number) (λ k upto.
      each_if (WordPlaced g me) (has_turn g known j k) _ [] (λ _. ack_due_placed j k (ack_within j k below upto))
      (λ _. each_none (WordPlaced g me))))

  pub summaries_placed : (at_tick : Bool) → Each (WordPlaced g me) (summaries_due g known said at_tick)
  summaries_placed at_tick = each_if (WordPlaced g me) _ _ [] (λ _.
      each_one (WordPlaced g me) (body.PoSummary record { numbers = map (vector g known) (numbers_below g.n) })
      (and_from _ _
      (eq-eqb _ _ (length-map (numbers_below g.n) (vector g known) ∙ length-numbers_below g.n))
      (all_from (λ x. nat_le x most_number) _ (each_map (λ (x : ℕ). nat_le x most_number ≡ true) (vector g known)
      (numbers_below g.n) (λ j _. vector_within g known j)))))
      (λ _. each_none (WordPlaced g me))

  pub ask_update_placed : ((r : Request) → waiting_for g known ≡ Some r → RequestPlaced g r) → (at_tick : Bool) →
      Each (WordPlaced g me) (ask_update_due said at_tick (waiting_for g known))
  ask_update_placed placed at_tick = by_request (waiting_for g known) placed
    where
      by_request : (o : Option Request) → ((r : Request) → o ≡ Some r → RequestPlaced g r) →
          Each (WordPlaced g me) (ask_update_due said at_tick o)
      by_request None bound = each_none (WordPlaced g me)
      by_request (Some r) bound = each_if (WordPlaced g me) _ _ [] (λ _.
          let within = bound r refl in
          each_one (WordPlaced g me) (body.AskUpdate record { j = r.j; k = r.k })
          (and_from _ _ (lt-ltb r.j g.n within.0) within.1)) (λ _. each_none (WordPlaced g me))

  give_placed : (j k : ℕ) (u : Update) (request : Signed PoRequest) → certified g known j k ≡ Some u
      → (request.signer ≡ j) × (request.body.k ≡ k) × (update_text request.body.update.body ≡ update_text u)
      → WordPlaced g me (body.Give record { request = request; acks = quorum_of_acks g known j k (digest_of_update u) })
  give_placed j k u request e is =
      let digest : List ℕ = digest_of_update u in
      let enough = acks_enough g known j k digest (certified_acked g known j k u e) in
      and_from _ _ (eq-eqb _ _ (length-take-le g.q (filter_map (first_ack known j k digest) (numbers_below g.n))
      enough))
      (all_from _ (quorum_of_acks g known j k digest) (λ a h.
      let master = in_filter_map_from (first_ack known j k digest) (numbers_below g.n) (in_take g.q _ h) in
      let word = in_filter_map_from (ack_of j k digest master.0) known
      (first_in (filter_map (ack_of j k digest master.0) known) master.2) in
      let tells = ack_from_word j k digest master.0 word.0.signer word.0.body word.0.sig a word.2 in
      and_from _ _ (and_from _ _ (eq-eqb a.body.j request.signer (tells.1 ∙ sym is.0))
      (eq-eqb a.body.k request.body.k (tells.2 ∙ sym is.1)))
      (same_bytes a.body.digest (digest_of_update request.body.update.body)
      (tells.3 ∙ sym (digest_of_text request.body.update.body u is.2)))))

  pub request_gift_placed : (j k : ℕ) → Each (WordPlaced g me) (request_gift g known j k)
  request_gift_placed j k = each_elim (WordPlaced g me) (certified g known j k) _
      (λ u e. each_elim (WordPlaced g me) (first_of_list (filter_map (request_of j k u) known)) _ (λ request f.
      let found = in_filter_map_from (request_of j k u) known (first_in (filter_map (request_of j k u) known) f) in
      each_one (WordPlaced g me)
      (body.Give record { request = request; acks = quorum_of_acks g known j k (digest_of_update u) })
      (give_placed j k u request e (request_from_word j k u found.0.signer found.0.body found.0.sig request found.2))))

  pub gives_placed : Each (WordPlaced g me) (gives_due g me known said)
  gives_placed = each_flat_map (WordPlaced g me) _ (numbers_below g.n)
      (λ j _. each_flat_map (WordPlaced g me) _ (numbers_from 1 most_number) (λ k _.
      each_if (WordPlaced g me) _ _ [] (λ _. request_gift_placed j k) (λ _. each_none (WordPlaced g me))))

  -- a request that is lacking is one of a master that is there, and within the limits
  lacking_placed : (facts : List OrderFact) (moments : List Moment) (now j : ℕ) → IsIn j (numbers_below g.n) →
      Each (RequestPlaced g) (requests_lacking_of g known facts moments now j)
  lacking_placed facts moments now j below r h =
      let to : ℕ = requests_wanted_to g facts moments now j in
      let found = in_filter_map_from _ (numbers_from (vector g known j + 1) (to - vector g known j)) h in
      let made = request_lacking (certified g known j found.0) j found.0 r found.2 in
      let bounds = from_bounds (vector g known j + 1) (to - vector g known j) found.0 found.1 in
      let low : vector g known j + 1 ≤ found.0 = bounds.0 in
      let high : found.0 < vector g known j + 1 + (to - vector g known j) = bounds.1 in
      let most : to ≤ most_number = wanted_within facts moments now j in
      subst (λ (x : Request). RequestPlaced g x) made
      (below_from g.n j below, number_from found.0 (omega arith) (omega arith))
    where
      wanted_within : (facts : List OrderFact) (moments : List Moment) (now j : ℕ) →
          requests_wanted_to g facts moments now j ≤ most_number
      wanted_within facts moments now j = omega arith

      request_lacking : (o : Option Update) (j k : ℕ) (r : Request) →
          (elim o [ None ↦ Some (request_at j k) | Some u ↦ None ]) ≡ Some r → request_at j k ≡ r
      request_lacking None j k r e = some_same e
      request_lacking (Some u) j k r e = absurd (none_some e)

  pub update_asks_placed : (facts : List OrderFact) (moments : List Moment) (now : ℕ) (at_tick : Bool) →
      Each (WordPlaced g me) (update_asks_due g known facts said moments now at_tick)
  update_asks_placed facts moments now at_tick = each_if (WordPlaced g me) at_tick _ [] (λ _.
      each_map (WordPlaced g me) _ _ (λ r h.
      let chosen = in_take 16 _ h in
      let lacking = (in_filter_from _ (flat_map (requests_lacking_of g known facts moments now) (numbers_below g.n))
      chosen).0 in
      let at = in_flat_map_from (requests_lacking_of g known facts moments now) (numbers_below g.n) lacking in
      let placed : RequestPlaced g r = lacking_placed facts moments now at.0 at.1 r at.2 in
      and_from _ _ (lt-ltb r.j g.n placed.0) placed.1)) (λ _. each_none (WordPlaced g me))
