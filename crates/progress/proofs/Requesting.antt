-- A correct master says one request for each of its numbers: one that has its turn has a number above those of all that
-- were said before, and any other is one of these again.
use Rattle.std.proofs.Common.{◌≡◌, ℕ, ◌+◌, ◌<◌, ◌≤◌, Bool, true, false, cond, ◌&&◌, List, [], ◌∷◌, ◌++◌, Option, Some, None}
use Rattle.std.proofs.Common.{filter, map, max, nat_lt, refl, sym, ◌∙◌, ap, subst, inl, inr, ◌⊎◌, arith}
use Rattle.std.proofs.lemmas.List.{map-append}
use Rattle.std.proofs.lemmas.List.Elements.{filter_map-append}
use Rattle.std.specs.List.{find, filter_map}
use Rattle.std.specs.Option.{option_to_list}
use Rattle.plain_lists.specs.Lists.{IsIn, Each}
use Rattle.plain_lists.proofs.Members.{each_none, each_one, each_append, each_if, none_in, in_cons_cases, in_cases, in_map, in_filter, in_filter_map, in_right, find_some}
use Rattle.quorum_sets.specs.Masters.{numbers_below}
use Rattle.message_types.specs.declared.signed.Signed.{Signed}
use Rattle.message_types.specs.declared.updates.Update.{Update}
use Rattle.message_types.specs.declared.preordering.PoRequest.{PoRequest}
use Rattle.message_types.specs.declared.body.Body.{Body}
use Rattle.message_types.specs.declared.body.Body.TheVariants as body
use Rattle.protocol_rules.specs.Words.{first_of_list, greatest_of}
use Rattle.protocol_rules.specs.Group.{Group, is_live, most_number, is_door}
use Rattle.protocol_rules.specs.Preorder.{request_in, requests_said, update_of, vector}
use Rattle.protocol_rules.specs.Measures.{ticks_of}
use Rattle.protocol_rules.specs.Execution.{updates_of}
use Rattle.protocol_rules.specs.Turns.{last_request, last_introduced, next_in_turn, requests_in_turn_due, is_slow_beat}
use Rattle.protocol_rules.specs.Turns.{request_again_due, requests_number}
use Rattle.protocol_rules.specs.Master.{taken_at, said_before, executed, answers}
use Rattle.protocol_rules.proofs.Greatest.{greatest_of-append}
use Rattle.history_rules.specs.Events.{Entry, frame_taken, is_tick, is_silent}
use Rattle.history_rules.specs.Setup.{Setup, is_correct_master}
use Rattle.history_rules.specs.Legal.{Stands, IsLegal, heard}
use Rattle.history_rules.specs.Audit.{HasSaid}
use Rattle.agreement.proofs.Places.{by_growth, stands_on, stands_last, legal_before, whole_upto, stands_cases}
use Rattle.agreement.proofs.KnownAsItGrows.{known_then, correct_said, said_last, said_earlier}
use Rattle.agreement.proofs.SpokenByKind.{each_elim}
use Rattle.agreement.proofs.LearnedWasSaid.{heard_none}
use Rattle.agreement.proofs.PlannedRows.{greatest_above}
use Rattle.progress.specs.Laws.{RequestsOnce}
use Rattle.words_by_part.specs.Kinds.{is_of, preordering}
use Rattle.words_by_part.specs.Laws.{told_at}
use Rattle.words_by_part.proofs.SaidAlive.{acks_in_turn_kind}
use Rattle.words_by_part.proofs.Answering.{answers_by_live_part}

pub request_same : {a b : PoRequest} → body.PoRequest a ≡ body.PoRequest b → a ≡ b
request_same e = cc

-- the greatest number said is no less than each, and no less than it was
pub said_below : (r : PoRequest) (said : List Body) → IsIn (body.PoRequest r) said → r.k ≤ last_request said
said_below r said h = greatest_above r.k (map (λ (b : PoRequest). b.k) (requests_said said))
    (in_map (λ (b : PoRequest). b.k) (in_filter_map request_in h refl))

pub last_grows : (said more : List Body) → last_request said ≤ last_request (said ++ more)
last_grows said more =
    let all : last_request (said ++ more) ≡ max (last_request said) (last_request more) =
    ap (λ (bs : List PoRequest). greatest_of (map (λ (b : PoRequest). b.k) bs)) (filter_map-append request_in said more)
    ∙ ap greatest_of (map-append (λ (b : PoRequest). b.k) (requests_said said) (requests_said more))
    ∙ greatest_of-append (map (λ (b : PoRequest). b.k) (requests_said said))
    (map (λ (b : PoRequest). b.k) (requests_said more)) in
    omega arith

module _ (g : Group) (me : ℕ) (taken : List (Signed Body)) (done : List Update) where
  -- the word is the request of the next number
  abbrev IsNext : List Body → Body → Type 0
  IsNext said b = (u : Signed Update) × (b ≡ body.PoRequest record { k = last_request said + 1; update = u })

  next_is : (said : List Body) (c : ℕ) → Each (IsNext said) (next_in_turn g me taken done said c)
  next_is said c = each_if (IsNext said) (is_door g c me && nat_lt (last_request said) most_number) _ [] (λ _.
      each_elim (IsNext said)
      (first_of_list (filter_map (update_of c (max (last_introduced said c) (updates_of c done) + 1)) taken)) _
      (λ u e. each_one (IsNext said) _ (u, refl))) (λ _. each_none (IsNext said))

  one_next : (t : Bool) (o : Option (Signed Update)) (k : ℕ) (a b : Body)
      → IsIn a (cond t (elim o [ Some u ↦ body.PoRequest record { k = k; update = u } ∷ [] | None ↦ [] ]) [])
      → IsIn b (cond t (elim o [ Some u ↦ body.PoRequest record { k = k; update = u } ∷ [] | None ↦ [] ]) []) → a ≡ b
  one_next true (Some u) k a b h i = elim (in_cons_cases h) [
    | inl is_a ↦ elim (in_cons_cases i) [ inl is_b ↦ is_a ∙ sym is_b | inr none ↦ absurd (none_in none) ]
    | inr none ↦ absurd (none_in none)
  ]
  one_next true None k a b h i = absurd (none_in h)
  one_next false o k a b h i = absurd (none_in h)

  -- a request above all that were said
  abbrev IsAbove : List Body → Body → Type 0
  IsAbove said b = (r : PoRequest) × (b ≡ body.PoRequest r) × (last_request said < r.k)

  pub in_turn_above : (said : List Body) (clients : List ℕ) →
      Each (IsAbove said) (requests_in_turn_due g me taken done said clients)
  in_turn_above said [] = each_none (IsAbove said)
  in_turn_above said (c ∷ clients) =
      each_append (IsAbove said) (next_in_turn g me taken done said c)
      (requests_in_turn_due g me taken done (said ++ next_in_turn g me taken done said c) clients)
      (λ b h. let next = next_is said c b h in
      (record { k = last_request said + 1; update = next.0 }, next.1, omega arith))
      (λ b h. let later = in_turn_above (said ++ next_in_turn g me taken done said c) clients b h in
      let grown : last_request said ≤ last_request (said ++ next_in_turn g me taken done said c) =
      last_grows said (next_in_turn g me taken done said c) in
      let above : last_request (said ++ next_in_turn g me taken done said c) < later.0.k = later.2 in
      (later.0, later.1, omega arith))

  -- the first of those due is below the others
  first_below : (said : List Body) (c : ℕ) (clients : List ℕ) (a b : PoRequest) →
      IsIn (body.PoRequest a) (next_in_turn g me taken done said c)
      → IsIn (body.PoRequest b) (requests_in_turn_due g me taken done (said ++ next_in_turn g me taken done said c) clients)
      → a.k ≡ b.k → ⊥
  first_below said c clients a b h i same =
      let above = in_turn_above (said ++ next_in_turn g me taken done said c) clients (body.PoRequest b) i in
      let is_b : above.0.k ≡ b.k = ap (λ (r : PoRequest). r.k) (sym (request_same above.1)) in
      let more : last_request (said ++ next_in_turn g me taken done said c) < above.0.k = above.2 in
      let low : a.k ≤ last_request (said ++ next_in_turn g me taken done said c) =
      said_below a (said ++ next_in_turn g me taken done said c) (in_right said h) in
      omega arith

  pub in_turn_alike : (said : List Body) (clients : List ℕ) (a b : PoRequest) →
      IsIn (body.PoRequest a) (requests_in_turn_due g me taken done said clients)
      → IsIn (body.PoRequest b) (requests_in_turn_due g me taken done said clients) → a.k ≡ b.k → a ≡ b
  in_turn_alike said [] a b h i same = absurd (none_in h)
  in_turn_alike said (c ∷ clients) a b h i same =
      elim (in_cases (next_in_turn g me taken done said c) h) [
        | inl first ↦ elim (in_cases (next_in_turn g me taken done said c) i) [
          | inl also ↦ request_same (one_next (is_door g c me && nat_lt (last_request said) most_number)
              (first_of_list (filter_map (update_of c (max (last_introduced said c) (updates_of c done) + 1)) taken))
              (last_request said + 1) (body.PoRequest a) (body.PoRequest b) first also)
          | inr later ↦ absurd (first_below said c clients a b first later same)
        ]
        | inr later ↦ elim (in_cases (next_in_turn g me taken done said c) i) [
          | inl first ↦ absurd (first_below said c clients b a first later (sym same))
          | inr also ↦ in_turn_alike (said ++ next_in_turn g me taken done said c) clients a b later also same
        ]
      ]

-- the requests that have their turn at an entry
abbrev pub in_turn_at : Setup → List Entry → ℕ → Entry → List Body
in_turn_at w before m e = requests_in_turn_due w.group m (taken_at (heard w before m) (frame_taken e.event))
    (executed w.group (known_then w before m e)) (said_before (heard w before m)) (numbers_below w.group.clients)

-- the entry at which a correct master said a request first: there it had its turn
pub record FirstRequest (w : Setup) (history : List Entry) (m : ℕ) (r : PoRequest) : Type 0 where
  pub before : List Entry
  pub entry : Entry
  pub place : Stands history before entry
  pub by : entry.actor ≡ m
  pub loud : is_silent entry.event ≡ false
  pub among : IsIn (body.PoRequest r) entry.said
  pub turn : IsIn (body.PoRequest r) (in_turn_at w before m entry)

two_not_three : ◌≡◌ {A = ℕ} 2 3 → ⊥
two_not_three e = omega arith

-- a request due is one that has its turn, or was said
pub due_request : (w : Setup) (before : List Entry) (m : ℕ) (e : Entry) (r : PoRequest) → is_live w.group ≡ true
    → IsIn (body.PoRequest r) (answers w.group w.orders m (heard w before m) (frame_taken e.event) (is_tick e.event))
    → IsIn (body.PoRequest r) (in_turn_at w before m e) ⊎ IsIn (body.PoRequest r) (said_before (heard w before m))
due_request w before m e r live h =
    let said : List Body = said_before (heard w before m) in
    let known : List (Signed Body) = known_then w before m e in
    let now : ℕ = ticks_of (told_at w.group (heard w before m) (frame_taken e.event) (is_tick e.event)) in
    let parts = answers_by_live_part w.group w.orders m (heard w before m) (frame_taken e.event) (is_tick e.event) live in
    let among : IsIn (body.PoRequest r) (filter (is_of preordering) (answers w.group w.orders m (heard w before m)
    (frame_taken e.event) (is_tick e.event))) = in_filter (is_of preordering) h refl in
    elim (in_cases (in_turn_at w before m e ++ request_again_due w.group m known said now (is_tick e.event))
    (subst (λ (bs : List Body). IsIn (body.PoRequest r) bs) parts.requests among)) [
      | inl request ↦ elim (in_cases (in_turn_at w before m e) request) [
        | inl turn ↦ inl turn
        | inr again ↦ inr (found_said (is_tick e.event && is_slow_beat now) (requests_number (vector w.group known m + 1))
            said again)
      ]
      | inr ack ↦ absurd (two_not_three (acks_in_turn_kind w.group known said now (is_tick e.event) (body.PoRequest r) ack))
    ]
  where
    in_found : (o : Option Body) (said : List Body) (b : Body) → ((x : Body) → o ≡ Some x → IsIn x said) →
        IsIn b (option_to_list o) → IsIn b said
    in_found None said b within h = absurd (none_in h)
    in_found (Some x) said b within h = elim (in_cons_cases h) [
      | inl same ↦ subst (λ (z : Body). IsIn z said) (sym same) (within x refl)
      | inr none ↦ absurd (none_in none)
    ]

    found_said : (c : Bool) (t : Body → Bool) (said : List Body) {b : Body} →
        IsIn b (cond c (option_to_list (find t said)) []) → IsIn b said
    found_said true t said {b} h = in_found (find t said) said b (λ x e. (find_some t said e).0) h
    found_said false t said h = absurd (none_in h)

module _ (w : Setup) (m : ℕ) (r : PoRequest) (live : is_live w.group ≡ true) (correct : is_correct_master w m ≡ true) where
  abbrev AtBeginning : List Entry → Type 0
  AtBeginning before = IsLegal w before → IsIn (body.PoRequest r) (said_before (heard w before m)) → FirstRequest w before m r

  then_first : {before : List Entry} (more : List Entry) → FirstRequest w before m r → FirstRequest w (before ++ more) m r
  then_first more first = record {
    before = first.before;
    entry = first.entry;
    place = stands_on more first.place;
    by = first.by;
    loud = first.loud;
    among = first.among;
    turn = first.turn;
  }

  at_entry : (before : List Entry) (e : Entry) → AtBeginning before → IsLegal w (before ++ e ∷ []) → e.actor ≡ m →
      IsIn (body.PoRequest r) e.said → FirstRequest w (before ++ e ∷ []) m r
  at_entry before e so_far legal by h =
      let said = correct_said w m (body.PoRequest r) legal (stands_last before e) by correct h in
      elim (due_request w before m e r live said.1) [
        | inl turn ↦ record {
          before = before;
          entry = e;
          place = stands_last before e;
          by = by;
          loud = said.0;
          among = h;
          turn = turn;
        }
        | inr earlier ↦ then_first (e ∷ []) (so_far (legal_before w before (e ∷ []) legal) earlier)
      ]

  at_none : AtBeginning []
  at_none legal h = absurd (none_in (subst (λ hs. IsIn (body.PoRequest r) (said_before hs)) (heard_none w m) h))

  one_later : (before : List Entry) (e : Entry) → AtBeginning before → AtBeginning (before ++ e ∷ [])
  one_later before e so_far legal h = elim (said_last w before e m (body.PoRequest r) h) [
    | inl earlier ↦ then_first (e ∷ []) (so_far (legal_before w before (e ∷ []) legal) earlier)
    | inr now ↦ at_entry before e so_far legal now.0 now.1
  ]

  pub first_request : (history : List Entry) → IsLegal w history → HasSaid history m (body.PoRequest r) →
      FirstRequest w history m r
  first_request history legal said =
      let upto : IsLegal w (said.before ++ said.entry ∷ []) = legal_before w (said.before ++ said.entry ∷ [])
      said.place.after (subst (λ (xs : List Entry). IsLegal w xs) (whole_upto said.place) legal) in
      let there = at_entry said.before said.entry (by_growth AtBeginning at_none one_later said.before) upto
      said.by said.among in
      subst (λ (xs : List Entry). FirstRequest w xs m r) (sym (whole_upto said.place))
      (then_first said.place.after there)

-- a request said first where another was said before has a higher number
request_later : (w : Setup) (history : List Entry) (m : ℕ) (a b : PoRequest) (first : FirstRequest w history m a)
    (second : FirstRequest w history m b) → Stands second.before first.before first.entry → a.k < b.k
request_later w history m a b first second earlier =
    let said : IsIn (body.PoRequest a) (said_before (heard w second.before m)) =
    said_earlier w m (body.PoRequest a) earlier first.by first.loud first.among in
    let above = in_turn_above w.group m (taken_at (heard w second.before m) (frame_taken second.entry.event))
    (executed w.group (known_then w second.before m second.entry)) (said_before (heard w second.before m))
    (numbers_below w.group.clients) (body.PoRequest b) second.turn in
    let is_b : above.0.k ≡ b.k = ap (λ (r : PoRequest). r.k) (sym (request_same above.1)) in
    let more : last_request (said_before (heard w second.before m)) < above.0.k = above.2 in
    let low : a.k ≤ last_request (said_before (heard w second.before m)) =
    said_below a (said_before (heard w second.before m)) said in
    omega arith

pub requests_once : RequestsOnce
requests_once w history m a b live legal correct one other same =
    let first = first_request w m a live correct history legal one in
    let second = first_request w m b live correct history legal other in
    elim (stands_cases first.place second.place) [
      | inl alike ↦ in_turn_alike w.group m (taken_at (heard w second.before m) (frame_taken second.entry.event))
          (executed w.group (known_then w second.before m second.entry)) (said_before (heard w second.before m))
          (numbers_below w.group.clients) a b
          (subst (λ (e : Entry). IsIn (body.PoRequest a) (in_turn_at w second.before m e)) alike.1
          (subst (λ (xs : List Entry). IsIn (body.PoRequest a) (in_turn_at w xs m first.entry)) alike.0 first.turn))
          second.turn same
      | inr apart ↦ elim apart [
        | inl earlier ↦ absurd (let less : a.k < b.k = request_later w history m a b first second earlier in omega arith)
        | inr later ↦ absurd (let less : b.k < a.k = request_later w history m b a second first later in omega arith)
      ]
    ]
