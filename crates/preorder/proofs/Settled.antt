-- What saying all that is due changes: afterwards nothing is pending, since all that was pending is acknowledged by it,
-- and nothing else is.
use Rattle.std.proofs.Common.{◌≡◌, ℕ, zero, suc, ◌+◌, ◌≤◌, ◌<◌, ◌⊎◌, inl, inr, Bool, true, false, cond, ◌||◌, ◌&&◌}
use Rattle.std.proofs.Common.{List, [], ◌∷◌, ◌++◌, Option, Some, None, is_some, length, nat_eq, nat_lt, filter, refl}
use Rattle.std.proofs.Common.{sym, ◌∙◌, ap, arith, append_assoc, true≢false}
use Rattle.std.specs.Prelude.{IsSome}
use Rattle.std.specs.List.{filter_map, flat_map, list_any}
use Rattle.std.proofs.Math.Bool.{or-false}
use Rattle.std.proofs.lemmas.Bool.{cases_lt, eq-eqb}
use Rattle.std.proofs.lemmas.List.{append-nil}
use Rattle.std.proofs.lemmas.List.Elements.{filter_map-append}
use Rattle.std.proofs.lemmas.List.Folds.{list_any-append}
use Rattle.std.proofs.lemmas.Grind.{flat_map-append}
use Rattle.message_types.specs.declared.signed.Signed.{Signed}
use Rattle.message_types.specs.declared.updates.Update.{Update}
use Rattle.message_types.specs.declared.body.Body.{Body}
use Rattle.message_types.specs.declared.body.Body.TheVariants as body
use Rattle.message_types.specs.Digests.{digest_of_update}
use Rattle.quorum_sets.specs.Masters.{numbers_below}
use Rattle.quorum_sets.proofs.MastersLemmas.{numbers_below-suc}
use Rattle.protocol_rules.specs.Group.{Group, most_number, is_door}
use Rattle.protocol_rules.specs.Words.{numbers_from, first_of_list}
use Rattle.protocol_rules.specs.Preorder.{update_of, updates_requested, acks, ack_due, acks_due, next_request}
use Rattle.protocol_rules.specs.Preorder.{requests_due, request_in, requests_said, requests_said_for}
use Rattle.preorder.specs.declared.firsts.First.{First}
use Rattle.preorder.specs.declared.requests.Counts.{Counts}
use Rattle.preorder.specs.Counted.{IsCounted}
use Rattle.preorder.specs.Index.{PairMap, same_pair, at_pair, HasFirsts, IsKnownFirst, IsPending, AcknowledgesKnown}
use Rattle.preorder.specs.Index.{first_update}
use Rattle.preorder.specs.PreorderState.{bodies_due}
use Rattle.preorder.proofs.Introductions.{next-is, request_of, from_below}
use Rattle.protocol_rules.proofs.Numbers.{any-from}
use Rattle.protocol_rules.proofs.Keys.{same_pair-same}

any-below : {X : Type 0} (p : X → Bool) (f : ℕ → List X) (n k : ℕ) → k < n → list_any p (f k) ≡ true →
    list_any p (flat_map f (numbers_below n)) ≡ true
any-below p f zero k less there = absurd (omega arith)
any-below p f (suc n) k less there =
    ap (λ ns. list_any p (flat_map f ns)) (numbers_below-suc n)
    ∙ ap (list_any p) (flat_map-append f (numbers_below n) (n ∷ []))
    ∙ list_any-append p (flat_map f (numbers_below n)) (flat_map f (n ∷ []))
    ∙ by (cases_lt k n) (λ smaller. any-below p f n k smaller there)
  where
    either : (a : Bool) → (a || true) ≡ true
    either true = refl
    either false = refl

    by : (k < n) ⊎ (n ≤ k) → (k < n → list_any p (flat_map f (numbers_below n)) ≡ true) →
        (list_any p (flat_map f (numbers_below n)) || list_any p (flat_map f (n ∷ []))) ≡ true
    by (inl smaller) more = ap (λ b. b || list_any p (flat_map f (n ∷ []))) (more smaller)
    by (inr le) more = let same : k ≡ n = omega arith in
        ap (λ b. list_any p (flat_map f (numbers_below n)) || b) (ap (list_any p) (append-nil (f n))
        ∙ ap (λ i. list_any p (f i)) (sym same) ∙ there) ∙ either (list_any p (flat_map f (numbers_below n)))

-- and where no part has one, the whole has none
pub none-in : {X : Type 0} (p : X → Bool) (f : ℕ → List X) → ((k : ℕ) → list_any p (f k) ≡ false) → (ns : List ℕ) →
    list_any p (flat_map f ns) ≡ false
none-in p f none [] = refl
none-in p f none (n ∷ ns) = list_any-append p (f n) (flat_map f ns) ∙ ap (λ b. b || list_any p (flat_map f ns))
    (none n) ∙ none-in p f none ns

pub requests-none-in : (f : ℕ → List Body) → ((k : ℕ) → requests_said (f k) ≡ []) → (ns : List ℕ) →
    requests_said (flat_map f ns) ≡ []
requests-none-in f none [] = refl
requests-none-in f none (n ∷ ns) = filter_map-append request_in (f n) (flat_map f ns)
    ∙ ap (λ rs. rs ++ requests_said (flat_map f ns)) (none n) ∙ requests-none-in f none ns

-- the acknowledgement due, by cases
abbrev pub ack_of : List Update → ℕ → ℕ → List Body
ack_of [] j k = []
ack_of (u ∷ us) j k = body.PoAck record { j = j; k = k; digest = digest_of_update u } ∷ []

pub ack_due-is : (known : List (Signed Body)) (said : List Body) (j k : ℕ) →
    ack_due known said j k ≡ cond (list_any (acks j k) said) [] (ack_of (updates_requested known j k) j k)
ack_due-is known said j k = ap (λ rest. cond (list_any (acks j k) said) [] rest) (by (updates_requested known j k))
  where
    by : (us : List Update) →
        (elim us [ [] ↦ [] | u ∷ _ ↦ body.PoAck record { j = j; k = k; digest = digest_of_update u } ∷ [] ])
        ≡ ack_of us j k
    by [] = refl
    by (u ∷ us) = refl

pub ack-requests : (known : List (Signed Body)) (said : List Body) (j k : ℕ) → requests_said (ack_due known said j k) ≡ []
ack-requests known said j k = ap requests_said (ack_due-is known said j k)
    ∙ by (list_any (acks j k) said) (updates_requested known j k)
  where
    by : (b : Bool) (us : List Update) → requests_said (cond b [] (ack_of us j k)) ≡ []
    by true us = refl
    by false [] = refl
    by false (u ∷ us) = refl

acks-requests : (g : Group) (known : List (Signed Body)) (said : List Body) → requests_said (acks_due g known said) ≡ []
acks-requests g known said = requests-none-in (λ j. flat_map (λ k. ack_due known said j k) (numbers_from 1 most_number))
    (λ j. requests-none-in (λ k. ack_due known said j k) (λ k. ack-requests known said j k)
    (numbers_from 1 most_number)) (numbers_below g.n)

-- what is pending is acknowledged
pub ack-there : (known : List (Signed Body)) (said : List Body) (j k : ℕ) → IsPending known said j k →
    list_any (acks j k) (ack_due known said j k) ≡ true
ack-there known said j k pending =
    ap (list_any (acks j k)) (ack_due-is known said j k
    ∙ ap (λ b. cond b [] (ack_of (updates_requested known j k) j k)) pending.1)
    ∙ by (updates_requested known j k) pending.0
  where
    by : (us : List Update) → IsSome (first_of_list us) → list_any (acks j k) (ack_of us j k) ≡ true
    by [] there = absurd (true≢false (sym there))
    by (u ∷ us) there = ap (λ b. (b && nat_eq k k) || false) (eq-eqb j j refl) ∙ ap (λ b. b || false) (eq-eqb k k refl)

acks-there : (g : Group) (known : List (Signed Body)) (said : List Body) (j k : ℕ) → j < g.n → 1 ≤ k →
    k ≤ most_number → IsPending known said j k →
    list_any (acks j k) (acks_due g known said) ≡ true
acks-there g known said j k below one limit pending =
    any-below (acks j k) (λ i. flat_map (λ h. ack_due known said i h) (numbers_from 1 most_number)) g.n j below
    (any-from (acks j k) (λ h. ack_due known said j h) 1 most_number k one (omega arith)
    (ack-there known said j k pending))

-- and what was never requested isn't
pub ack-apart : (known : List (Signed Body)) (said : List Body) (j k : ℕ) →
    first_of_list (updates_requested known j k) ≡ None → (i h : ℕ) →
    list_any (acks j k) (ack_due known said i h) ≡ false
ack-apart known said j k none i h =
    ap (list_any (acks j k)) (ack_due-is known said i h) ∙ by (list_any (acks i h) said) (same_pair (i, h) (j, k)) refl
  where
    other : (us : List Update) → same_pair (i, h) (j, k) ≡ false → list_any (acks j k) (ack_of us i h) ≡ false
    other [] apart = refl
    other (u ∷ us) apart = or-false (nat_eq i j && nat_eq h k) ∙ apart

    gone : (us : List Update) → first_of_list us ≡ None → list_any (acks j k) (ack_of us i h) ≡ false
    gone [] e = refl
    gone (u ∷ us) e = absurd (true≢false (ap is_some e))

    by : (b here : Bool) → same_pair (i, h) (j, k) ≡ here →
        list_any (acks j k) (cond b [] (ack_of (updates_requested known i h) i h)) ≡ false
    by true here e = refl
    by false false e = other (updates_requested known i h) e
    by false true e = gone (updates_requested known i h)
        (ap (λ (key : ℕ × ℕ). first_of_list (updates_requested known key.0 key.1)) (same_pair-same (i, h) (j, k) e)
        ∙ none)

acks-apart : (g : Group) (known : List (Signed Body)) (said : List Body) (j k : ℕ) →
    first_of_list (updates_requested known j k) ≡ None → list_any (acks j k) (acks_due g known said) ≡ false
acks-apart g known said j k none =
    none-in (acks j k) (λ i. flat_map (λ h. ack_due known said i h) (numbers_from 1 most_number))
    (λ i. none-in (acks j k) (λ h. ack_due known said i h) (λ h. ack-apart known said j k none i h)
    (numbers_from 1 most_number)) (numbers_below g.n)

-- requests acknowledge nothing
request-acks : (g : Group) (me : ℕ) (taken : List (Signed Body)) (said : List Body) (c j k : ℕ) →
    list_any (acks j k) (next_request g me taken said c) ≡ false
request-acks g me taken said c j k =
    ap (list_any (acks j k)) (next-is g me taken said c)
    ∙ by (is_door g c me && nat_lt (length (requests_said said)) most_number)
    (first_of_list (filter_map (update_of c (requests_said_for c said + 1)) taken))
  where
    by : (b : Bool) (found : Option (Signed Update)) → list_any (acks j k) (cond b (request_of said found) []) ≡ false
    by true None = refl
    by true (Some u) = refl
    by false found = refl

requests-acks : (g : Group) (me : ℕ) (taken : List (Signed Body)) (said : List Body) (cs : List ℕ) (j k : ℕ) →
    list_any (acks j k) (requests_due g me taken said cs) ≡ false
requests-acks g me taken said [] j k = refl
requests-acks g me taken said (c ∷ cs) j k =
    list_any-append (acks j k) (next_request g me taken said c)
    (requests_due g me taken (said ++ next_request g me taken said c) cs)
    ∙ ap (λ b. b || list_any (acks j k) (requests_due g me taken (said ++ next_request g me taken said c) cs))
    (request-acks g me taken said c j k)
    ∙ requests-acks g me taken (said ++ next_request g me taken said c) cs j k

-- all that is due acknowledges only what was requested
pub only-known : (g h : Group) (me : ℕ) (taken known : List (Signed Body)) (said bodies : List Body) (cs : List ℕ) →
    bodies ≡ requests_due h me taken said cs ++ acks_due g known said → AcknowledgesKnown known bodies
only-known g h me taken known said bodies cs all j k none =
    ap (list_any (acks j k)) all ∙ list_any-append (acks j k) (requests_due h me taken said cs) (acks_due g known said)
    ∙ ap (λ b. b || list_any (acks j k) (acks_due g known said)) (requests-acks h me taken said cs j k)
    ∙ acks-apart g known said j k none

-- after that nothing is pending
pub idle-after : (g h : Group) (me : ℕ) (taken known : List (Signed Body)) (said bodies : List Body)
    (cs : List ℕ) (map : PairMap First) →
    bodies ≡ requests_due h me taken said cs ++ acks_due g known said → HasFirsts g known said map → (j k : ℕ) →
    IsPending known (said ++ bodies) j k → ⊥
idle-after g h me taken known said bodies cs map all has j k pending =
    by (list_any (acks j k) said) refl
  where
    split : list_any (acks j k) (said ++ bodies) ≡ (list_any (acks j k) said
        || list_any (acks j k) (acks_due g known said))
    split = list_any-append (acks j k) said bodies
        ∙ ap (λ b. list_any (acks j k) said || b)
        (ap (list_any (acks j k)) all ∙ list_any-append (acks j k) (requests_due h me taken said cs)
        (acks_due g known said)
        ∙ ap (λ b. b || list_any (acks j k) (acks_due g known said)) (requests-acks h me taken said cs j k))

    in_grid : (first : Option First) → first_update first ≡ first_of_list (updates_requested known j k) →
        IsKnownFirst g j k first → list_any (acks j k) said ≡ false →
        list_any (acks j k) (acks_due g known said) ≡ true
    in_grid None update there unsaid = absurd (true≢false (sym (ap is_some update ∙ pending.0)))
    in_grid (Some f) update there unsaid = acks-there g known said j k there.0 there.1 there.2 (pending.0, unsaid)

    by : (b : Bool) → list_any (acks j k) said ≡ b → ⊥
    by true e = true≢false (sym (split ∙ ap (λ b. b || list_any (acks j k) (acks_due g known said)) e) ∙ pending.1)
    by false e = true≢false (sym (split ∙ ap (λ b. b || list_any (acks j k) (acks_due g known said)) e
        ∙ in_grid (at_pair map (j, k)) (has j k).update (has j k).placed e) ∙ pending.1)

pub counted-after : (g : Group) (known : List (Signed Body)) (before requests bodies : List Body) (counts : Counts) →
    bodies ≡ requests ++ acks_due g known before →
    IsCounted (before ++ requests) counts → IsCounted (before ++ bodies) counts
counted-after g known before requests bodies counts all old = record {
  all = old.all ∙ ap length same;
  limit = old.limit;
  clients = old.clients;
  of_client = λ c below. old.of_client c below
      ∙ ap (λ rs. length (filter (λ b. nat_eq b.update.body.client c) rs)) same;
}
  where
    same : requests_said (before ++ requests) ≡ requests_said (before ++ bodies)
    same =
        sym (ap (λ xs. requests_said (before ++ xs)) all
        ∙ ap requests_said (sym (append_assoc before requests (acks_due g known before)))
        ∙ filter_map-append request_in (before ++ requests) (acks_due g known before)
        ∙ ap (λ rs. requests_said (before ++ requests) ++ rs) (acks-requests g known before) ∙ append-nil _)

-- both kinds, one after the other, on an empty list
pub pushed-all : (none pushed bodies requests acknowledgements : List Body) → none ≡ [] → pushed ≡ none ++ requests →
    bodies ≡ pushed ++ acknowledgements → bodies ≡ requests ++ acknowledgements
pushed-all none pushed bodies requests acknowledgements empty first all =
    all ∙ ap (λ xs. xs ++ acknowledgements) (first ∙ ap (λ xs. xs ++ requests) empty)

-- the bodies due, by a group and a master that are these
pub due-is : (g h : Group) (me own : ℕ) (taken known : List (Signed Body)) (said bodies : List Body) →
    h ≡ g → own ≡ me →
    bodies ≡ requests_due h own taken said (numbers_from 0 h.clients) ++ acks_due g known said →
    bodies ≡ bodies_due g me taken known said
due-is g h me own taken known said bodies group master all =
    all ∙ ap (λ (z : Group). requests_due z own taken said (numbers_from 0 z.clients) ++ acks_due g known said) group
    ∙ ap (λ m. requests_due g m taken said (numbers_from 0 g.clients) ++ acks_due g known said) master
    ∙ ap (λ cs. requests_due g me taken said cs ++ acks_due g known said) (from_below g.clients)
