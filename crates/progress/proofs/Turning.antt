-- A correct master's requests have their turn wherever they are known: each is of a client of which it is a door, each of
-- its lower numbers is of a request that it said before, and those of the same client bear lower updates.
use Rattle.std.proofs.Common.{◌≡◌, ℕ, ◌+◌, ◌<◌, ◌≤◌, true, ◌&&◌, List, [], ◌∷◌, ◌++◌}
use Rattle.std.proofs.Common.{Some, filter, map, max, nat_eq, nat_lt, refl, sym, ◌∙◌, ap, subst}
use Rattle.std.proofs.Common.{inl, inr, arith, append_assoc, append-nil, eqb-true}
use Rattle.std.proofs.lemmas.Bool.{and_parts, cases_lt, ltb-true, eq-eqb}
use Rattle.std.specs.List.{filter_map}
use Rattle.plain_lists.specs.Lists.{IsIn, here, there}
use Rattle.plain_lists.proofs.Members.{each_none, each_one, each_if, none_in, in_cases, in_left, in_map, in_map_from, in_filter, in_filter_map, in_filter_map_from, some_same, none_some}
use Rattle.protocol_rules.proofs.FirstMet.{first_in}
use Rattle.message_types.specs.declared.signed.Signed.{Signed}
use Rattle.message_types.specs.declared.updates.Update.{Update}
use Rattle.message_types.specs.declared.preordering.PoRequest.{PoRequest}
use Rattle.message_types.specs.declared.body.Body.{Body}
use Rattle.message_types.specs.declared.body.Body.TheVariants as body
use Rattle.protocol_rules.specs.Words.{first_of_list, greatest_of}
use Rattle.protocol_rules.specs.Group.{Group, most_number, is_door}
use Rattle.protocol_rules.specs.Preorder.{request_in, requests_said, update_of}
use Rattle.protocol_rules.specs.Execution.{updates_of}
use Rattle.protocol_rules.specs.Turns.{last_request, last_introduced, next_in_turn, requests_in_turn_due}
use Rattle.agreement.proofs.SpokenByKind.{each_elim, if_some}
use Rattle.agreement.proofs.PlannedRows.{greatest_above}
use Rattle.progress.proofs.Requesting.{request_same, said_below}

-- the client and the number of the update that a request bears
abbrev pub client_of : PoRequest → ℕ
client_of r = r.update.body.client

abbrev pub number_of : PoRequest → ℕ
number_of r = r.update.body.t

-- a greatest number above 0 is one of them
pub greatest_in : (xs : List ℕ) → 1 ≤ greatest_of xs → IsIn (greatest_of xs) xs
greatest_in [] h = absurd (omega arith)
greatest_in (x ∷ xs) h = elim (cases_lt (greatest_of xs) x) [
  | inl less ↦ let same : max x (greatest_of xs) ≡ x = omega arith in
      subst (λ (z : ℕ). IsIn z (x ∷ xs)) (sym same) (here xs)
  | inr le ↦ let same : max x (greatest_of xs) ≡ greatest_of xs = omega arith in
      subst (λ (z : ℕ). IsIn z (x ∷ xs)) (sym same) (there x xs (greatest_in xs (omega arith)))
]

pub request_in_from : (b : Body) (r : PoRequest) → request_in b ≡ Some r → b ≡ body.PoRequest r
request_in_from (body.PoRequest b) r e = ap (λ (x : PoRequest). body.PoRequest x) (some_same e)
request_in_from _ r e = absurd (none_some e)

-- the request of the last number was said
pub last_said : (said : List Body) → 1 ≤ last_request said → (r : PoRequest) × IsIn (body.PoRequest r) said
    × (r.k ≡ last_request said)
last_said said h =
    let found = in_map_from (λ (b : PoRequest). b.k) (requests_said said)
    (greatest_in (map (λ (b : PoRequest). b.k) (requests_said said)) h) in
    let word = in_filter_map_from request_in said found.1 in
    (found.0, subst (λ (b : Body). IsIn b said) (request_in_from word.0 found.0 word.2) word.1, sym found.2)

-- with each request all of lower numbers were said
abbrev pub Whole : List Body → Type 0
Whole said = (r : PoRequest) → IsIn (body.PoRequest r) said → (i : ℕ) → 1 ≤ i → i < r.k →
    (q : PoRequest) × IsIn (body.PoRequest q) said × (q.k ≡ i)

-- and each of a lower number and the same client bears a lower update
abbrev pub Rises : List Body → Type 0
Rises said = (q r : PoRequest) → IsIn (body.PoRequest q) said → IsIn (body.PoRequest r) said → q.k < r.k
    → client_of q ≡ client_of r → number_of q < number_of r

-- an update that was introduced is no higher than the last that was
pub introduced_below : (q : PoRequest) (said : List Body) (c : ℕ) → IsIn (body.PoRequest q) said → client_of q ≡ c →
    number_of q ≤ last_introduced said c
introduced_below q said c h is =
    let among : IsIn q (requests_said said) = in_filter_map request_in h refl in
    let passes : IsIn q (filter (λ (b : PoRequest). nat_eq b.update.body.client c) (requests_said said)) =
    in_filter (λ (b : PoRequest). nat_eq b.update.body.client c) among (eq-eqb (client_of q) c is) in
    greatest_above (number_of q) (map (λ (b : PoRequest). b.update.body.t)
    (filter (λ (b : PoRequest). nat_eq b.update.body.client c) (requests_said said)))
    (in_map (λ (b : PoRequest). b.update.body.t) passes)

-- the frame that is taken as the client's update
pub update_from : (c t signer : ℕ) (word : Body) (sig : List ℕ) (u : Signed Update) →
    update_of c t record { signer = signer; body = word; sig = sig } ≡ Some u → (u.body.client ≡ c) × (u.body.t ≡ t)
update_from c t signer (body.Update b) sig u e =
    let is = if_some (nat_eq b.client c && nat_eq b.t t) e in
    let both = and_parts (nat_eq b.client c) (nat_eq b.t t) is.0 in (
      ap (λ (x : Signed Update). x.body.client) (sym is.1) ∙ eqb-true b.client c both.0,
      ap (λ (x : Signed Update). x.body.t) (sym is.1) ∙ eqb-true b.t t both.1,
    )
update_from c t signer _ sig u e = absurd (none_some e)

module _ (g : Group) (me : ℕ) (taken : List (Signed Body)) (done : List Update) where
  -- how the next request of a client follows what was said
  pub record Follows (said : List Body) (c : ℕ) (r : PoRequest) : Type 0 where
    pub serves : is_door g c me ≡ true
    pub low : last_request said < most_number
    pub next : r.k ≡ last_request said + 1
    pub by : client_of r ≡ c
    pub update : number_of r ≡ max (last_introduced said c) (updates_of c done) + 1

  pub next_follows : (said : List Body) (c : ℕ) (r : PoRequest) → IsIn (body.PoRequest r) (next_in_turn g me taken done said c) →
      Follows said c r
  next_follows said c r h = each_if (λ (b : Body). b ≡ body.PoRequest r → Follows said c r)
      (is_door g c me && nat_lt (last_request said) most_number) _ [] (λ may.
      each_elim (λ (b : Body). b ≡ body.PoRequest r → Follows said c r)
      (first_of_list (filter_map (update_of c t) taken)) _ (λ u e.
      each_one (λ (b : Body). b ≡ body.PoRequest r → Follows said c r)
      (body.PoRequest record { k = last_request said + 1; update = u }) (λ is.
      let found = in_filter_map_from (update_of c t) taken (first_in (filter_map (update_of c t) taken) e) in
      let from = update_from c t found.0.signer found.0.body found.0.sig u found.2 in
      let both = and_parts (is_door g c me) (nat_lt (last_request said) most_number) may in
      let same : record { k = last_request said + 1; update = u } ≡ r = request_same is in
      record {
        serves = both.0;
        low = ltb-true (last_request said) most_number both.1;
        next = ap (λ (x : PoRequest). x.k) (sym same);
        by = ap (λ (x : PoRequest). client_of x) (sym same) ∙ from.0;
        update = ap (λ (x : PoRequest). number_of x) (sym same) ∙ from.1;
      })))
      (λ _. each_none (λ (b : Body). b ≡ body.PoRequest r → Follows said c r)) (body.PoRequest r) h refl
    where
      t : ℕ
      t = max (last_introduced said c) (updates_of c done) + 1

  -- all that has its turn, after what was said
  abbrev and_due : List Body → List ℕ → List Body
  and_due said clients = said ++ requests_in_turn_due g me taken done said clients

  in_nested : (xs ys zs : List Body) (b : Body) → IsIn b ((xs ++ ys) ++ zs) → IsIn b (xs ++ (ys ++ zs))
  in_nested xs ys zs b h = subst (λ (bs : List Body). IsIn b bs) (append_assoc xs ys zs) h

  from_nested : (xs ys zs : List Body) (b : Body) → IsIn b (xs ++ (ys ++ zs)) → IsIn b ((xs ++ ys) ++ zs)
  from_nested xs ys zs b h = subst (λ (bs : List Body). IsIn b bs) (sym (append_assoc xs ys zs)) h

  whole_next : (said : List Body) (c : ℕ) → Whole said → Whole (said ++ next_in_turn g me taken done said c)
  whole_next said c whole r h i one less = elim (in_cases said h) [
    | inl earlier ↦ let q = whole r earlier i one less in (q.0, in_left _ q.1, q.2)
    | inr now ↦
        let next : r.k ≡ last_request said + 1 = (next_follows said c r now).next in
        let last = last_said said (omega arith) in
        let is : last.0.k ≡ last_request said = last.2 in
        elim (cases_lt i last.0.k) [
          | inl lower ↦ let q = whole last.0 last.1 i one lower in (q.0, in_left _ q.1, q.2)
          | inr same ↦ (last.0, in_left _ last.1, omega arith)
        ]
  ]

  pub whole_due : (said : List Body) (clients : List ℕ) → Whole said → Whole (and_due said clients)
  whole_due said [] whole = subst (λ (bs : List Body). Whole bs) (sym (append-nil said)) whole
  whole_due said (c ∷ clients) whole = subst (λ (bs : List Body). Whole bs)
      (append_assoc said (next_in_turn g me taken done said c)
      (requests_in_turn_due g me taken done (said ++ next_in_turn g me taken done said c) clients))
      (whole_due (said ++ next_in_turn g me taken done said c) clients (whole_next said c whole))

  rises_next : (said : List Body) (c : ℕ) → Rises said → Rises (said ++ next_in_turn g me taken done said c)
  rises_next said c rises q r h i less same = elim (in_cases said i) [
    | inl r_before ↦ elim (in_cases said h) [
      | inl q_before ↦ rises q r q_before r_before less same
      | inr q_now ↦
          let next : q.k ≡ last_request said + 1 = (next_follows said c q q_now).next in
          let low : r.k ≤ last_request said = said_below r said r_before in
          absurd (omega arith)
    ]
    | inr r_now ↦
        let follows : Follows said c r = next_follows said c r r_now in
        let next : r.k ≡ last_request said + 1 = follows.next in
        let update : number_of r ≡ max (last_introduced said c) (updates_of c done) + 1 = follows.update in
        elim (in_cases said h) [
          | inl q_before ↦
              let below : number_of q ≤ last_introduced said c = introduced_below q said c q_before (same ∙ follows.by) in
              omega arith
          | inr q_now ↦
              let also : q.k ≡ last_request said + 1 = (next_follows said c q q_now).next in
              absurd (omega arith)
        ]
  ]

  pub rises_due : (said : List Body) (clients : List ℕ) → Rises said → Rises (and_due said clients)
  rises_due said [] rises = subst (λ (bs : List Body). Rises bs) (sym (append-nil said)) rises
  rises_due said (c ∷ clients) rises = subst (λ (bs : List Body). Rises bs)
      (append_assoc said (next_in_turn g me taken done said c)
      (requests_in_turn_due g me taken done (said ++ next_in_turn g me taken done said c) clients))
      (rises_due (said ++ next_in_turn g me taken done said c) clients (rises_next said c rises))

  -- whom a request that has its turn is for, and its number
  pub record IsTurn (clients : List ℕ) (r : PoRequest) : Type 0 where
    pub among : IsIn (client_of r) clients
    pub serves : is_door g (client_of r) me ≡ true
    pub counted : 1 ≤ r.k
    pub low : r.k ≤ most_number
    pub positive : 1 ≤ number_of r

  pub turn_is : (said : List Body) (clients : List ℕ) (r : PoRequest) →
      IsIn (body.PoRequest r) (requests_in_turn_due g me taken done said clients) → IsTurn clients r
  turn_is said [] r h = absurd (none_in h)
  turn_is said (c ∷ clients) r h = elim (in_cases (next_in_turn g me taken done said c) h) [
    | inl first ↦
        let follows : Follows said c r = next_follows said c r first in
        let low : last_request said < most_number = follows.low in
        let next : r.k ≡ last_request said + 1 = follows.next in
        let update : number_of r ≡ max (last_introduced said c) (updates_of c done) + 1 = follows.update in
        record {
          among = subst (λ (x : ℕ). IsIn x (c ∷ clients)) (sym follows.by) (here clients);
          serves = ap (λ (x : ℕ). is_door g x me) follows.by ∙ follows.serves;
          counted = omega arith;
          low = omega arith;
          positive = omega arith;
        }
    | inr later ↦
        let turn : IsTurn clients r = turn_is (said ++ next_in_turn g me taken done said c) clients r later in
        record {
          among = there c clients turn.among;
          serves = turn.serves;
          counted = turn.counted;
          low = turn.low;
          positive = turn.positive;
        }
  ]
