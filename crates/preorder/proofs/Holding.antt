-- What is held of own words stays true as the master learns and says more: of each own request the update, and that each
-- acknowledgement is of the first request of its number.
use Rattle.std.proofs.Common.{◌≡◌, ◌≢◌, ℕ, zero, suc, ◌+◌, ◌≤◌, ◌⊎◌, inl, inr, Bool, true, false, cond, ◌||◌}
use Rattle.std.proofs.Common.{◌&&◌, List, [], ◌∷◌, ◌++◌, Option, Some, None, nat_eq, nat_lt, is_some, length, map, filter}
use Rattle.std.proofs.Common.{max, refl, sym, ◌∙◌, ap, subst, arith, append_assoc}
use Rattle.std.specs.Prelude.{IsSome, slice_get}
use Rattle.std.specs.List.{list_any, find, filter_map, flat_map, cons_option}
use Rattle.std.specs.Option.{option_to_list, option_or}
use Rattle.std.proofs.lemmas.Bool.{false≢true, true≢false, cases_eq, eqb-true, eq-eqb, ne_eqb, and_parts}
use Rattle.std.proofs.lemmas.Bool.{false_from_ne_true}
use Rattle.std.proofs.lemmas.List.{append-nil, length-append}
use Rattle.std.proofs.lemmas.List.Elements.{filter_map-append}
use Rattle.std.proofs.lemmas.List.Folds.{find-append, list_any-append}
use Rattle.message_types.specs.declared.signed.Signed.{Signed}
use Rattle.message_types.specs.declared.updates.Update.{Update}
use Rattle.message_types.specs.declared.preordering.PoRequest.{PoRequest}
use Rattle.message_types.specs.declared.preordering.PoAck.{PoAck}
use Rattle.message_types.specs.declared.body.Body.{Body}
use Rattle.message_types.specs.declared.body.Body.TheVariants as body
use Rattle.message_types.specs.Digests.{digest_of_update}
use Rattle.quorum_sets.specs.Masters.{numbers_below}
use Rattle.protocol_rules.specs.Group.{Group, most_number, is_door}
use Rattle.protocol_rules.specs.Words.{or_else, first_of_list, greatest_of, numbers_from}
use Rattle.protocol_rules.specs.Preorder.{acks, ack_due, request_in, requests_said, updates_requested, update_of}
use Rattle.protocol_rules.specs.Turns.{first_requested, last_request, last_introduced, has_turn, acks_in_turn_due}
use Rattle.protocol_rules.specs.Turns.{next_in_turn, requests_in_turn_due, requests_number}
use Rattle.preorder.specs.declared.firsts.First.{First}
use Rattle.preorder.specs.declared.introducing.Introduced.{Introduced}
use Rattle.preorder.specs.Counted.{IsIntroduced}
use Rattle.preorder.specs.Index.{PairMap, same_pair, at_pair, HasFirsts, HasUpdates, AcknowledgesKnown, first_update}
use Rattle.preorder.specs.Index.{is_settled}
use Rattle.preorder.specs.Again.{request_with, request_held, AreOwn, ack_of, AcknowledgesFirsts}
use Rattle.preorder.specs.Lanes.{ack_in_turn_due, lane_acks_due}
use Rattle.preorder.proofs.Introductions.{found_client}
use Rattle.preorder.proofs.RequestsInTurn.{turned_request, turned-is, next_number, first_number, last_request-push}
use Rattle.preorder.proofs.RequestsInTurn.{last_introduced-push}
use Rattle.preorder.proofs.Repeats.{keys_in, keys-append, unfound, found, passes, found-too}
use Rattle.preorder.proofs.Settled.{ack_due-is}
use Rattle.preorder.proofs.Settled as settled
use Rattle.preorder.proofs.Turning.{first-stays}
use Rattle.protocol_rules.proofs.FirstMet.{first_of_list-push}
use Rattle.protocol_rules.proofs.Keys.{same_pair-same}

-- own requests

pub own-taken : (taken : List (Signed Body)) (f : Signed Body) (map after : PairMap (Signed Update))
    (said : List Body) (own : List (ℕ × ℕ)) → HasUpdates taken map → HasUpdates (taken ++ f ∷ []) after →
    AreOwn said map own → AreOwn said after own
own-taken taken f map after said own has now is = record {
  count = is.count;
  held = λ i key e. ap is_some (sym (stays key (is.held i key e))) ∙ is.held i key e;
  each = λ i. is.each i ∙ same (i + 1) (slice_get own i) (is.held i);
}
  where
    kept : (o p : Option (Signed Update)) → IsSome o → or_else o p ≡ o
    kept None p there = absurd (false≢true there)
    kept (Some u) p there = refl

    stays : (key : ℕ × ℕ) → IsSome (at_pair map key) → at_pair map key ≡ at_pair after key
    stays key there = sym (now key.0 key.1 ∙ first_of_list-push (update_of key.0 key.1) taken f
        ∙ ap (λ o. or_else o (update_of key.0 key.1 f)) (sym (has key.0 key.1))
        ∙ kept (at_pair map key) (update_of key.0 key.1 f) there)

    same : (k : ℕ) (o : Option (ℕ × ℕ)) → ((key : ℕ × ℕ) → o ≡ Some key → IsSome (at_pair map key)) →
        request_held map k o ≡ request_held after k o
    same k None there = refl
    same k (Some key) there = ap (request_with k) (stays key (there key refl))

get-last : {X : Type 0} (xs : List X) (x : X) (i : ℕ) → i ≡ length xs → slice_get (xs ++ x ∷ []) i ≡ Some x
get-last [] x zero e = refl
get-last [] x (suc i) e = absurd (omega arith)
get-last (y ∷ xs) x zero e = absurd (omega arith)
get-last (y ∷ xs) x (suc i) e = get-last xs x i (omega arith)

get-past : {X : Type 0} (xs : List X) (i : ℕ) → i ≡ length xs → slice_get xs i ≡ None
get-past [] i e = refl
get-past (y ∷ xs) zero e = absurd (omega arith)
get-past (y ∷ xs) (suc i) e = get-past xs i (omega arith)

get-other : {X : Type 0} (xs : List X) (x : X) (i : ℕ) → i ≢ length xs →
    slice_get (xs ++ x ∷ []) i ≡ slice_get xs i
get-other [] x zero ne = absurd (ne refl)
get-other [] x (suc i) ne = refl
get-other (y ∷ xs) x zero ne = refl
get-other (y ∷ xs) x (suc i) ne = get-other xs x i (λ e. ne (omega (arith, e)))

own-push : (said : List Body) (map : PairMap (Signed Update)) (own : List (ℕ × ℕ)) (u : Signed Update) →
    at_pair map (u.body.client, u.body.t) ≡ Some u → AreOwn said map own →
    AreOwn (said ++ body.PoRequest record { k = last_request said + 1; update = u } ∷ []) map
    (own ++ (u.body.client, u.body.t) ∷ [])
own-push said map own u there is = record {
  count =
      let more : last_request said + 1 ≡ max (last_request said) (last_request said + 1) = omega arith in
      length-append own ((u.body.client, u.body.t) ∷ []) ∙ ap (λ n. n + 1) is.count ∙ more
      ∙ sym (last_request-push said (record { k = last_request said + 1; update = u }));
  held = λ i key e. held_at i key e (cases_eq i (length own));
  each = λ i. find-append (requests_number (i + 1)) said
      (body.PoRequest record { k = last_request said + 1; update = u } ∷ []) ∙ at i (cases_eq i (length own));
}
  where
    or-none : (o : Option Body) → option_or o None ≡ o
    or-none None = refl
    or-none (Some x) = refl

    key : ℕ × ℕ
    key = (u.body.client, u.body.t)

    word : ℕ → Body
    word k = body.PoRequest record { k = k; update = u }

    held_at : (i : ℕ) (x : ℕ × ℕ) → slice_get (own ++ (u.body.client, u.body.t) ∷ []) i ≡ Some x →
        (i ≡ length own) ⊎ (i ≢ length own) → IsSome (at_pair map x)
    held_at i x e (inl last) =
        let same : Some key ≡ Some x = sym (get-last own key i last) ∙ e in
        let equal : key ≡ x = cc in
        ap (λ (y : ℕ × ℕ). is_some (at_pair map y)) (sym equal) ∙ ap is_some there
    held_at i x e (inr ne) = is.held i x (sym (get-other own key i ne) ∙ e)

    at : (i : ℕ) → (i ≡ length own) ⊎ (i ≢ length own) →
        option_or (find (requests_number (i + 1)) said)
        (cond (nat_eq (last_request said + 1) (i + 1)) (Some (word (last_request said + 1))) None)
        ≡ request_held map (i + 1) (slice_get (own ++ (u.body.client, u.body.t) ∷ []) i)
    at i (inl last) =
        let number : last_request said + 1 ≡ i + 1 = omega (arith, is.count, last) in
        ap (λ o. option_or o (cond (nat_eq (last_request said + 1) (i + 1)) (Some (word (last_request said + 1))) None))
        (is.each i ∙ ap (request_held map (i + 1)) (get-past own i last))
        ∙ ap (λ b. cond b (Some (word (last_request said + 1))) None)
        (eq-eqb (last_request said + 1) (i + 1) number)
        ∙ ap (λ k. Some (word k)) number
        ∙ sym (ap (request_held map (i + 1)) (get-last own key i last) ∙ ap (request_with (i + 1)) there)
    at i (inr ne) =
        ap (λ b. option_or (find (requests_number (i + 1)) said) (cond b (Some (word (last_request said + 1))) None))
        (ne_eqb (last_request said + 1) (i + 1) (λ e. ne (omega (arith, is.count, e))))
        ∙ or-none (find (requests_number (i + 1)) said)
        ∙ is.each i ∙ ap (request_held map (i + 1)) (sym (get-other own key i ne))

own-next : (g : Group) (me : ℕ) (taken : List (Signed Body)) (executed : List Update) (said : List Body) (c : ℕ)
    (map : PairMap (Signed Update)) (own : List (ℕ × ℕ)) → HasUpdates taken map → AreOwn said map own →
    AreOwn (said ++ next_in_turn g me taken executed said c) map
    (own ++ keys_in (next_in_turn g me taken executed said c))
own-next g me taken executed said c map own has is =
    subst (λ (words : List Body). AreOwn (said ++ words) map (own ++ keys_in words))
    (sym (turned-is g me taken executed said c))
    (by (is_door g c me && nat_lt (last_request said) most_number)
    (first_of_list (filter_map (update_of c (next_number executed said c)) taken)) refl)
  where
    nothing : AreOwn (said ++ []) map (own ++ [])
    nothing = subst (λ (xs : List Body). AreOwn xs map (own ++ [])) (sym (append-nil said))
        (subst (λ (xs : List (ℕ × ℕ)). AreOwn said map xs) (sym (append-nil own)) is)

    by : (b : Bool) (o : Option (Signed Update)) →
        first_of_list (filter_map (update_of c (next_number executed said c)) taken) ≡ o →
        AreOwn (said ++ cond b (turned_request said o) []) map
        (own ++ keys_in (cond b (turned_request said o) []))
    by true (Some u) first = own-push said map own u
        (has u.body.client u.body.t
        ∙ ap (λ x. first_of_list (filter_map (update_of x u.body.t) taken))
        (found_client c (next_number executed said c) taken (Some u) u (sym first) refl)
        ∙ ap (λ t. first_of_list (filter_map (update_of c t) taken))
        (first_number c (next_number executed said c) taken u first)
        ∙ first) is
    by true None first = nothing
    by false o first = nothing

pub own-requests : (g : Group) (me : ℕ) (taken : List (Signed Body)) (executed : List Update) (said : List Body)
    (cs : List ℕ) (map : PairMap (Signed Update)) (own : List (ℕ × ℕ)) → HasUpdates taken map →
    AreOwn said map own →
    AreOwn (said ++ requests_in_turn_due g me taken executed said cs) map
    (own ++ keys_in (requests_in_turn_due g me taken executed said cs))
own-requests g me taken executed said [] map own has is =
    subst (λ (xs : List Body). AreOwn xs map (own ++ [])) (sym (append-nil said))
    (subst (λ (xs : List (ℕ × ℕ)). AreOwn said map xs) (sym (append-nil own)) is)
own-requests g me taken executed said (c ∷ cs) map own has is =
    let first : List Body = next_in_turn g me taken executed said c in
    let rest : List Body = requests_in_turn_due g me taken executed (said ++ first) cs in
    subst (λ (xs : List Body). AreOwn xs map (own ++ keys_in (first ++ rest)))
    (append_assoc said first rest)
    (subst (λ (xs : List (ℕ × ℕ)). AreOwn ((said ++ first) ++ rest) map xs)
    (append_assoc own (keys_in first) (keys_in rest)
    ∙ ap (λ xs. own ++ xs) (sym (keys-append first rest)))
    (own-requests g me taken executed (said ++ first) cs map (own ++ keys_in first) has
    (own-next g me taken executed said c map own has is)))

-- a request said again, and words that request nothing

as_request : (k : ℕ) (w : Body) → requests_number k w ≡ true → (r : PoRequest) × (w ≡ body.PoRequest r)
as_request k (body.PoRequest r) e = (r, refl)
as_request k _ e = absurd (false≢true e)

not_number : (k : ℕ) (w : Body) → request_in w ≡ None → requests_number k w ≡ false
not_number k (body.PoRequest r) e = absurd (true≢false (ap is_some e))
not_number k _ e = refl

number-none : (k : ℕ) (words : List Body) → requests_said words ≡ [] → find (requests_number k) words ≡ None
number-none k [] none = refl
number-none k (w ∷ words) none = by (request_in w) refl none (number-none k words)
  where
    by : (o : Option PoRequest) → request_in w ≡ o → cons_option o (requests_said words) ≡ [] →
        (requests_said words ≡ [] → find (requests_number k) words ≡ None) →
        cond (requests_number k w) (Some w) (find (requests_number k) words) ≡ None
    by None is rest later = ap (λ b. cond b (Some w) (find (requests_number k) words)) (not_number k w is) ∙ later rest
    by (Some r) is rest later = absurd cc

-- the number and the update of a request that was said are within what the requests said go to
below-one : (words : List Body) (k : ℕ) (r : PoRequest) → find (requests_number k) words ≡ Some (body.PoRequest r) →
    (r.k ≤ last_request words) × (r.update.body.t ≤ last_introduced words r.update.body.client)
below-one [] k r e = absurd (false≢true (ap is_some e))
below-one (w ∷ words) k r e = by (requests_number k w) e (below-one words k r)
  where
    grows : (o : Option PoRequest) → (r.k ≤ last_request words)
        × (r.update.body.t ≤ last_introduced words r.update.body.client) →
        (r.k ≤ greatest_of (map (λ (b : PoRequest). b.k) (cons_option o (requests_said words))))
        × (r.update.body.t ≤ greatest_of (map (λ (b : PoRequest). b.update.body.t)
        (filter (λ (b : PoRequest). nat_eq b.update.body.client r.update.body.client)
        (cons_option o (requests_said words)))))
    grows None less = less
    grows (Some x) less = (
      (let first : r.k ≤ last_request words = less.0 in omega arith),
      more (nat_eq x.update.body.client r.update.body.client),
    )
      where
        more : (b : Bool) → r.update.body.t ≤ greatest_of (map (λ (b : PoRequest). b.update.body.t)
            (cond b (x ∷ filter (λ (b : PoRequest). nat_eq b.update.body.client r.update.body.client)
            (requests_said words))
            (filter (λ (b : PoRequest). nat_eq b.update.body.client r.update.body.client) (requests_said words))))
        more true = let second : r.update.body.t ≤ last_introduced words r.update.body.client = less.1 in omega arith
        more false = less.1

    here : w ≡ body.PoRequest r → (r.k ≤ last_request (w ∷ words))
        × (r.update.body.t ≤ last_introduced (w ∷ words) r.update.body.client)
    here same = subst (λ (x : Body). (r.k ≤ last_request (x ∷ words))
        × (r.update.body.t ≤ last_introduced (x ∷ words) r.update.body.client)) (sym same) (
          omega arith,
          mine (nat_eq r.update.body.client r.update.body.client) (eq-eqb _ _ refl),
        )
      where
        mine : (b : Bool) → b ≡ true → r.update.body.t ≤ greatest_of (map (λ (b : PoRequest). b.update.body.t)
            (cond b (r ∷ filter (λ (b : PoRequest). nat_eq b.update.body.client r.update.body.client)
            (requests_said words))
            (filter (λ (b : PoRequest). nat_eq b.update.body.client r.update.body.client) (requests_said words))))
        mine true e = omega arith
        mine false e = absurd (false≢true e)

    by : (b : Bool) → cond b (Some w) (find (requests_number k) words) ≡ Some (body.PoRequest r) →
        (find (requests_number k) words ≡ Some (body.PoRequest r) → (r.k ≤ last_request words)
        × (r.update.body.t ≤ last_introduced words r.update.body.client)) →
        (r.k ≤ last_request (w ∷ words)) × (r.update.body.t ≤ last_introduced (w ∷ words) r.update.body.client)
    by true e later = here cc
    by false e later = grows (request_in w) (later e)

introduced-one : (words : List Body) (introduced : Introduced) (r : PoRequest) → r.k ≤ last_request words →
    r.update.body.t ≤ last_introduced words r.update.body.client → IsIntroduced words introduced →
    IsIntroduced (words ++ body.PoRequest r ∷ []) introduced
introduced-one words introduced r number update is = record {
  request =
      let same : last_request words ≡ max (last_request words) r.k = omega arith in
      is.request ∙ same ∙ sym (last_request-push words r);
  clients = is.clients;
  of_client = λ c below. is.of_client c below ∙ by c (cases_eq r.update.body.client c)
      ∙ sym (last_introduced-push words r c);
}
  where
    by : (c : ℕ) → (r.update.body.client ≡ c) ⊎ (r.update.body.client ≢ c) →
        last_introduced words c
        ≡ max (last_introduced words c) (cond (nat_eq r.update.body.client c) r.update.body.t 0)
    by c (inl e) =
        let less : r.update.body.t ≤ last_introduced words c =
        subst (λ x. r.update.body.t ≤ last_introduced words x) e update in
        let same : last_introduced words c ≡ max (last_introduced words c) r.update.body.t = omega arith in
        same ∙ ap (λ b. max (last_introduced words c) (cond b r.update.body.t 0))
        (sym (eq-eqb r.update.body.client c e))
    by c (inr ne) =
        let same : last_introduced words c ≡ max (last_introduced words c) 0 = omega arith in
        same ∙ ap (λ b. max (last_introduced words c) (cond b r.update.body.t 0))
        (sym (ne_eqb r.update.body.client c ne))

own-one : (words : List Body) (map : PairMap (Signed Update)) (own : List (ℕ × ℕ)) (k : ℕ) (r : PoRequest) →
    find (requests_number k) words ≡ Some (body.PoRequest r) → r.k ≤ last_request words → AreOwn words map own →
    AreOwn (words ++ body.PoRequest r ∷ []) map own
own-one words map own k r there number is = record {
  count =
      let same : last_request words ≡ max (last_request words) r.k = omega arith in
      is.count ∙ same ∙ sym (last_request-push words r);
  held = is.held;
  each = λ i. find-append (requests_number (i + 1)) words (body.PoRequest r ∷ [])
      ∙ by (i + 1) (find (requests_number (i + 1)) words) refl (nat_eq r.k (i + 1)) refl ∙ is.each i;
}
  where
    by : (h : ℕ) (o : Option Body) → find (requests_number h) words ≡ o → (b : Bool) → nat_eq r.k h ≡ b →
        option_or (find (requests_number h) words) (cond (nat_eq r.k h) (Some (body.PoRequest r)) None)
        ≡ find (requests_number h) words
    by h (Some w) is b e = ap (λ o. option_or o (cond (nat_eq r.k h) (Some (body.PoRequest r)) None)) is ∙ sym is
    by h None is true e = absurd (false≢true (sym (ap is_some is)
        ∙ found-too (requests_number h) (requests_number k) words (body.PoRequest r) there e))
    by h None is false e = ap (λ b. option_or (find (requests_number h) words)
        (cond b (Some (body.PoRequest r)) None)) e ∙ ap (λ o. option_or o None) is ∙ sym is

-- both, where a request is said again that was found, if any
again-one : (P : List Body → Type 0) (words : List Body) (k : ℕ) (b : Bool) (o : Option Body) →
    ((w : Body) → o ≡ Some w → find (requests_number k) words ≡ Some w) → P (words ++ []) →
    ((r : PoRequest) → find (requests_number k) words ≡ Some (body.PoRequest r) → P (words ++ body.PoRequest r ∷ [])) →
    P (words ++ cond b (option_to_list o) [])
again-one P words k false o is none some = none
again-one P words k true None is none some = none
again-one P words k true (Some w) is none some =
    let request = as_request k w (passes (requests_number k) words w (is w refl)) in
    subst (λ (x : Body). P (words ++ x ∷ [])) (sym request.1)
    (some request.0 (is w refl ∙ ap (λ (x : Body). Some x) request.1))

pub introduced-again : (words : List Body) (introduced : Introduced) (k : ℕ) (b : Bool) (o : Option Body) →
    ((w : Body) → o ≡ Some w → find (requests_number k) words ≡ Some w) → IsIntroduced words introduced →
    IsIntroduced (words ++ cond b (option_to_list o) []) introduced
introduced-again words introduced k b o is old =
    again-one (λ xs. IsIntroduced xs introduced) words k b o is
    (subst (λ (xs : List Body). IsIntroduced xs introduced) (sym (append-nil words)) old)
    (λ r there. let less = below-one words k r there in introduced-one words introduced r less.0 less.1 old)

pub own-again : (words : List Body) (map : PairMap (Signed Update)) (own : List (ℕ × ℕ)) (k : ℕ) (b : Bool)
    (o : Option Body) → ((w : Body) → o ≡ Some w → find (requests_number k) words ≡ Some w) → AreOwn words map own →
    AreOwn (words ++ cond b (option_to_list o) []) map own
own-again words map own k b o is old =
    again-one (λ xs. AreOwn xs map own) words k b o is
    (subst (λ (xs : List Body). AreOwn xs map own) (sym (append-nil words)) old)
    (λ r there. own-one words map own k r there (below-one words k r there).0 old)

abbrev greatest_number : List PoRequest → ℕ
greatest_number requests = greatest_of (map (λ (b : PoRequest). b.k) requests)

pub own-more : (words more : List Body) (map : PairMap (Signed Update)) (own : List (ℕ × ℕ)) →
    requests_said more ≡ [] → AreOwn words map own → AreOwn (words ++ more) map own
own-more words more map own none is = record {
  count = is.count ∙ ap greatest_number same;
  held = is.held;
  each = λ i. find-append (requests_number (i + 1)) words more
      ∙ ap (option_or (find (requests_number (i + 1)) words)) (number-none (i + 1) more none)
      ∙ or-none (find (requests_number (i + 1)) words) ∙ is.each i;
}
  where
    same : requests_said words ≡ requests_said (words ++ more)
    same = sym (filter_map-append request_in words more ∙ ap (λ rs. requests_said words ++ rs) none
        ∙ append-nil (requests_said words))

    or-none : (o : Option Body) → option_or o None ≡ o
    or-none None = refl
    or-none (Some x) = refl

pub own-alike : (words other : List Body) (map : PairMap (Signed Update)) (own : List (ℕ × ℕ)) →
    requests_said words ≡ requests_said other →
    ((k : ℕ) → find (requests_number k) words ≡ find (requests_number k) other) →
    AreOwn words map own → AreOwn other map own
own-alike words other map own same numbers is = record {
  count = is.count ∙ ap greatest_number same;
  held = is.held;
  each = λ i. sym (numbers (i + 1)) ∙ is.each i;
}

-- acknowledgements

pub told-learn : (g : Group) (known : List (Signed Body)) (said : List Body) (f : Signed Body)
    (map : PairMap First) → HasFirsts g known said map → AcknowledgesFirsts known said →
    AcknowledgesFirsts (known ++ f ∷ []) said
told-learn g known said f map has told j k any =
    told j k any ∙ ap (ack_of j k) (first-stays known f j k
    (by (at_pair map (j, k)) (has j k).update (sym (has j k).acked ∙ any)))
  where
    by : (first : Option First) → first_update first ≡ first_requested known j k → is_settled first ≡ true →
        IsSome (first_requested known j k)
    by None update settled = absurd (false≢true settled)
    by (Some x) update settled = ap is_some (sym update)

-- the words acknowledge first requests alone
abbrev pub AcksOnly : List (Signed Body) → List Body → Type 0
AcksOnly known words = (j k : ℕ) (w : Body) → find (acks j k) words ≡ Some w →
    Some w ≡ ack_of j k (first_requested known j k)

pub only-quiet : (known : List (Signed Body)) (words : List Body) →
    ((j k : ℕ) → list_any (acks j k) words ≡ false) → AcksOnly known words
only-quiet known words quiet j k w e =
    absurd (false≢true (ap is_some (sym (unfound (acks j k) words (quiet j k)) ∙ e)))

pub only-append : (known : List (Signed Body)) (xs ys : List Body) → AcksOnly known xs → AcksOnly known ys →
    AcksOnly known (xs ++ ys)
only-append known xs ys first second j k w e =
    by (find (acks j k) xs) refl (sym (find-append (acks j k) xs ys) ∙ e)
  where
    by : (o : Option Body) → find (acks j k) xs ≡ o → option_or (find (acks j k) xs) (find (acks j k) ys) ≡ Some w →
        Some w ≡ ack_of j k (first_requested known j k)
    by None is e = second j k w (sym (ap (λ o. option_or o (find (acks j k) ys)) is) ∙ e)
    by (Some v) is e = sym (sym (ap (λ o. option_or o (find (acks j k) ys)) is) ∙ e) ∙ first j k v is

pub only-flat : (known : List (Signed Body)) (f : ℕ → List Body) → ((n : ℕ) → AcksOnly known (f n)) → (ns : List ℕ) →
    AcksOnly known (flat_map f ns)
only-flat known f each [] = only-quiet known [] (λ j k. refl)
only-flat known f each (n ∷ ns) = only-append known (f n) (flat_map f ns) (each n) (only-flat known f each ns)

only-due : (known : List (Signed Body)) (said : List Body) (i h : ℕ) → AcksOnly known (ack_due known said i h)
only-due known said i h j k w e =
    by (list_any (acks i h) said) (updates_requested known i h) refl
    (sym (ap (find (acks j k)) (ack_due-is known said i h)) ∙ e)
  where
    one : (u : Update) → first_requested known i h ≡ Some u → (here : Bool) → same_pair (i, h) (j, k) ≡ here →
        cond here (Some (body.PoAck record { j = i; k = h; digest = digest_of_update u })) None ≡ Some w →
        Some w ≡ ack_of j k (first_requested known j k)
    one u first true here e = sym e ∙ ap (ack_of i h) (sym first)
        ∙ ap (λ (key : ℕ × ℕ). ack_of key.0 key.1 (first_requested known key.0 key.1))
        (same_pair-same (i, h) (j, k) here)
    one u first false here e = absurd (false≢true (ap is_some e))

    by : (b : Bool) (us : List Update) → updates_requested known i h ≡ us →
        find (acks j k) (cond b [] (settled.ack_of us i h)) ≡ Some w → Some w ≡ ack_of j k (first_requested known j k)
    by true us is e = absurd (false≢true (ap is_some e))
    by false [] is e = absurd (false≢true (ap is_some e))
    by false (u ∷ us) is e = one u (ap first_of_list is) (same_pair (i, h) (j, k)) refl e

only-turn : (g : Group) (known : List (Signed Body)) (said : List Body) (i h : ℕ) →
    AcksOnly known (ack_in_turn_due g known said i h)
only-turn g known said i h = by (has_turn g known i h)
  where
    by : (b : Bool) → AcksOnly known (cond b (ack_due known said i h) [])
    by true = only-due known said i h
    by false = only-quiet known [] (λ j k. refl)

pub only-turns : (g : Group) (known : List (Signed Body)) (said : List Body) →
    AcksOnly known (acks_in_turn_due g known said)
only-turns g known said = only-flat known (λ i. lane_acks_due g known said i)
    (λ i. only-flat known (λ h. ack_in_turn_due g known said i h) (λ h. only-turn g known said i h)
    (numbers_from 1 most_number)) (numbers_below g.n)

acks-same : (i h j k : ℕ) (w : Body) → acks i h w ≡ true → acks j k w ≡ true → same_pair (i, h) (j, k) ≡ true
acks-same i h j k (body.PoAck b) first second =
    let one = and_parts (nat_eq b.j i) (nat_eq b.k h) first in
    let two = and_parts (nat_eq b.j j) (nat_eq b.k k) second in
    let master : i ≡ j = sym (eqb-true b.j i one.0) ∙ eqb-true b.j j two.0 in
    let number : h ≡ k = sym (eqb-true b.k h one.1) ∙ eqb-true b.k k two.1 in
    ap (λ b. b && nat_eq h k) (eq-eqb i j master) ∙ eq-eqb h k number
acks-same i h j k _ first second = absurd (false≢true first)

only-repeat : (known : List (Signed Body)) (said : List Body) (i h : ℕ) → AcknowledgesFirsts known said →
    AcksOnly known (option_to_list (find (acks i h) said))
only-repeat known said i h told j k w = by (find (acks i h) said) refl
  where
    one : (v : Body) → find (acks i h) said ≡ Some v → (b : Bool) → acks j k v ≡ b → cond b (Some v) None ≡ Some w →
        Some w ≡ ack_of j k (first_requested known j k)
    one v is true here e = sym e ∙ sym is ∙ told i h (found (acks i h) said v is)
        ∙ ap (λ (key : ℕ × ℕ). ack_of key.0 key.1 (first_requested known key.0 key.1))
        (same_pair-same (i, h) (j, k) (acks-same i h j k v (passes (acks i h) said v is) here))
    one v is false here e = absurd (false≢true (ap is_some e))

    by : (o : Option Body) → find (acks i h) said ≡ o → find (acks j k) (option_to_list o) ≡ Some w →
        Some w ≡ ack_of j k (first_requested known j k)
    by None is e = absurd (false≢true (ap is_some e))
    by (Some v) is e = one v is (acks j k v) refl e

pub only-again : (known : List (Signed Body)) (said : List Body) (number : ℕ → ℕ) (b : Bool) (ns : List ℕ) →
    AcknowledgesFirsts known said →
    AcksOnly known (cond b (flat_map (λ j. option_to_list (find (acks j (number j)) said)) ns) [])
only-again known said number true ns told = only-flat known (λ j. option_to_list (find (acks j (number j)) said))
    (λ j. only-repeat known said j (number j) told) ns
only-again known said number false ns told = only-quiet known [] (λ j k. refl)

ack-requests-none : (i h : ℕ) (w : Body) → acks i h w ≡ true → requests_said (w ∷ []) ≡ []
ack-requests-none i h (body.PoAck b) e = refl
ack-requests-none i h _ e = absurd (false≢true e)

-- acknowledgements said again request nothing
pub again-requests : (said : List Body) (number : ℕ → ℕ) (b : Bool) (ns : List ℕ) →
    requests_said (cond b (flat_map (λ j. option_to_list (find (acks j (number j)) said)) ns) []) ≡ []
again-requests said number false ns = refl
again-requests said number true ns =
    settled.requests-none-in (λ j. option_to_list (find (acks j (number j)) said))
    (λ j. by j (find (acks j (number j)) said) refl) ns
  where
    by : (j : ℕ) (o : Option Body) → find (acks j (number j)) said ≡ o → requests_said (option_to_list o) ≡ []
    by j None is = refl
    by j (Some w) is = ack-requests-none j (number j) w (passes (acks j (number j)) said w is)

request-quiet : (k : ℕ) (w : Body) → requests_number k w ≡ true → (i h : ℕ) → acks i h w ≡ false
request-quiet k (body.PoRequest r) e i h = refl
request-quiet k _ e i h = absurd (false≢true e)

pub only-request : (known : List (Signed Body)) (said : List Body) (n : ℕ) (b : Bool) →
    AcksOnly known (cond b (option_to_list (find (requests_number n) said)) [])
only-request known said n false = only-quiet known [] (λ j k. refl)
only-request known said n true = by (find (requests_number n) said) refl
  where
    by : (o : Option Body) → find (requests_number n) said ≡ o → AcksOnly known (option_to_list o)
    by None is = only-quiet known [] (λ j k. refl)
    by (Some v) is = only-quiet known (v ∷ []) (λ j k.
        ap (λ b. b || false) (request-quiet n v (passes (requests_number n) said v is) j k))

pub told-say : (known : List (Signed Body)) (said words : List Body) → AcknowledgesFirsts known said →
    AcksOnly known words → AcknowledgesFirsts known (said ++ words)
told-say known said words told only j k any =
    find-append (acks j k) said words ∙ by (find (acks j k) said) refl (find (acks j k) words) refl
  where
    there : (p : Body → Bool) (xs : List Body) → list_any p xs ≡ true → IsSome (find p xs)
    there p [] e = absurd (false≢true e)
    there p (x ∷ xs) e = step (p x) e (there p xs)
      where
        step : (b : Bool) → (b || list_any p xs) ≡ true → (list_any p xs ≡ true → IsSome (find p xs)) →
            IsSome (cond b (Some x) (find p xs))
        step true e later = refl
        step false e later = later e

    neither : find (acks j k) said ≡ None → find (acks j k) words ≡ None → ⊥
    neither first second = at (list_any (acks j k) said) (list_any (acks j k) words) refl refl
        (sym (list_any-append (acks j k) said words) ∙ any)
      where
        at : (a b : Bool) → list_any (acks j k) said ≡ a → list_any (acks j k) words ≡ b → (a || b) ≡ true → ⊥
        at true b is_a is_b e = false≢true (sym (ap is_some first) ∙ there (acks j k) said is_a)
        at false true is_a is_b e = false≢true (sym (ap is_some second) ∙ there (acks j k) words is_b)
        at false false is_a is_b e = false≢true e

    by : (o : Option Body) → find (acks j k) said ≡ o → (p : Option Body) → find (acks j k) words ≡ p →
        option_or (find (acks j k) said) (find (acks j k) words) ≡ ack_of j k (first_requested known j k)
    by (Some v) is p also = ap (λ o. option_or o (find (acks j k) words)) is ∙ sym is
        ∙ told j k (found (acks j k) said v is)
    by None is (Some w) also = ap (λ o. option_or o (find (acks j k) words)) is ∙ also ∙ only j k w also
    by None is None also = absurd (neither is also)

pub only-known : (known : List (Signed Body)) (words : List Body) → AcksOnly known words →
    AcknowledgesKnown known words
only-known known words only j k none = false_from_ne_true (list_any (acks j k) words) (λ any.
    by (find (acks j k) words) refl any)
  where
    by : (o : Option Body) → find (acks j k) words ≡ o → list_any (acks j k) words ≡ true → ⊥
    by (Some w) is any = false≢true (sym (ap is_some (only j k w is ∙ ap (ack_of j k) none)))
    by None is any = false≢true (sym (ap is_some is) ∙ there words any)
      where
        there : (xs : List Body) → list_any (acks j k) xs ≡ true → IsSome (find (acks j k) xs)
        there [] e = absurd (false≢true e)
        there (x ∷ xs) e = step (acks j k x) e (there xs)
          where
            step : (b : Bool) → (b || list_any (acks j k) xs) ≡ true →
                (list_any (acks j k) xs ≡ true → IsSome (find (acks j k) xs)) →
                IsSome (cond b (Some x) (find (acks j k) xs))
            step true e later = refl
            step false e later = later e
