-- The requests due in turn, one client after another, and how far the requests said went beside them: a client's next
-- request is that of the update found for its number, which is above all that were introduced and are executed.
use Rattle.std.proofs.Common.{◌≡◌, ◌≢◌, ℕ, suc, ◌+◌, ◌≤◌, ◌<◌, ◌⊎◌, inl, inr, Bool, true, false, cond, ◌&&◌, ◌||◌, List}
use Rattle.std.proofs.Common.{[], ◌∷◌, ◌++◌, Option, Some, None, nat_eq, nat_lt, length, filter, map, set, max, refl, sym}
use Rattle.std.proofs.Common.{◌∙◌, ap, subst, arith, append_assoc, get_or-set_same, get_or-set_other, replicate}
use Rattle.std.specs.Prelude.{slice_index}
use Rattle.std.proofs.Math.ListN.{length-set}
use Rattle.std.specs.List.{list_any, filter_map, cons_option}
use Rattle.std.proofs.lemmas.Bool.{cases_eq, eqb-true, eq-eqb, ne_eqb, le-ltb, lt-ltb, and_left, and_right}
use Rattle.std.proofs.lemmas.List.{append-nil, map-append}
use Rattle.std.proofs.lemmas.List.Elements.{filter_map-append, filter-append}
use Rattle.std.proofs.lemmas.List.Folds.{list_any-append}
use Rattle.message_types.specs.declared.signed.Signed.{Signed}
use Rattle.message_types.specs.declared.updates.Update.{Update}
use Rattle.message_types.specs.declared.preordering.PoRequest.{PoRequest}
use Rattle.message_types.specs.declared.body.Body.{Body}
use Rattle.message_types.specs.declared.body.Body.TheVariants as body
use Rattle.protocol_rules.specs.Group.{Group, most_number, is_door}
use Rattle.protocol_rules.specs.Words.{first_of_list, greatest_of, numbers_from}
use Rattle.protocol_rules.specs.Preorder.{acks, update_of, request_in, requests_said}
use Rattle.protocol_rules.specs.Execution.{updates_of}
use Rattle.protocol_rules.specs.Turns.{last_request, last_introduced, next_in_turn, requests_in_turn_due}
use Rattle.preorder.specs.declared.introducing.Introduced.{Introduced}
use Rattle.preorder.specs.Counted.{IsIntroduced}
use Rattle.preorder.proofs.Introductions.{requests_said-push, found_client}
use Rattle.preorder.proofs.Others.{zeros}
use Rattle.protocol_rules.proofs.Greatest.{greatest_of-push, greatest_of-append}
use Rattle.protocol_rules.proofs.Numbers.{numbers_from-more, numbers_from-none}

-- the client's next number
abbrev pub next_number : List Update → List Body → ℕ → ℕ
next_number executed said c = max (last_introduced said c) (updates_of c executed) + 1

-- the request of the update found, or none
abbrev pub turned_request : List Body → Option (Signed Update) → List Body
turned_request said (Some u) = body.PoRequest record { k = last_request said + 1; update = u } ∷ []
turned_request said None = []

pub turned-is : (g : Group) (me : ℕ) (taken : List (Signed Body)) (executed : List Update) (said : List Body) (c : ℕ) →
    next_in_turn g me taken executed said c
    ≡ cond (is_door g c me && nat_lt (last_request said) most_number)
    (turned_request said (first_of_list (filter_map (update_of c (next_number executed said c)) taken))) []
turned-is g me taken executed said c =
    ap (λ found. cond (is_door g c me && nat_lt (last_request said) most_number) found [])
    (by (first_of_list (filter_map (update_of c (next_number executed said c)) taken)))
  where
    by : (found : Option (Signed Update)) → (elim found [
      | Some u ↦ body.PoRequest record { k = last_request said + 1; update = u } ∷ []
      | None ↦ []
    ]) ≡ turned_request said found
    by None = refl
    by (Some u) = refl

turned-off : (g : Group) (me : ℕ) (taken : List (Signed Body)) (executed : List Update) (said : List Body) (c : ℕ) →
    (is_door g c me && nat_lt (last_request said) most_number) ≡ false → next_in_turn g me taken executed said c ≡ []
turned-off g me taken executed said c shut = turned-is g me taken executed said c
    ∙ ap (λ b. cond b (turned_request said
    (first_of_list (filter_map (update_of c (next_number executed said c)) taken))) []) shut

-- no request where the master is no door, or the numbers are used up
pub turned-other : (g : Group) (me : ℕ) (taken : List (Signed Body)) (executed : List Update) (said : List Body)
    (c : ℕ) → is_door g c me ≡ false → next_in_turn g me taken executed said c ≡ []
turned-other g me taken executed said c other = turned-off g me taken executed said c
    (and_left (is_door g c me) (nat_lt (last_request said) most_number) other)

pub turned-full : (g : Group) (me : ℕ) (taken : List (Signed Body)) (executed : List Update) (said : List Body)
    (c : ℕ) → most_number ≤ last_request said → next_in_turn g me taken executed said c ≡ []
turned-full g me taken executed said c full = turned-off g me taken executed said c
    (and_right (is_door g c me) (nat_lt (last_request said) most_number) (le-ltb (last_request said) most_number full))

-- else that of the update found
pub turned-found : (g : Group) (me : ℕ) (taken : List (Signed Body)) (executed : List Update) (said : List Body)
    (introduced : Introduced) (c count number : ℕ) (found : Option (Signed Update)) →
    is_door g c me ≡ true → IsIntroduced said introduced → c < 12 → introduced.request < most_number →
    count ≡ updates_of c executed → number ≡ max (slice_index introduced.updates c) count + 1 →
    found ≡ first_of_list (filter_map (update_of c number) taken) →
    next_in_turn g me taken executed said c ≡ turned_request said found
turned-found g me taken executed said introduced c count number found door is below room counted number_is first =
    let less : last_request said < most_number = omega (arith, is.request) in
    let same : number ≡ next_number executed said c =
    number_is ∙ ap (λ x. max x count + 1) (is.of_client c below)
    ∙ ap (λ x. max (last_introduced said c) x + 1) counted in
    turned-is g me taken executed said c
    ∙ ap (λ b. cond (b && nat_lt (last_request said) most_number) (turned_request said
    (first_of_list (filter_map (update_of c (next_number executed said c)) taken))) []) door
    ∙ ap (λ b. cond b (turned_request said
    (first_of_list (filter_map (update_of c (next_number executed said c)) taken))) [])
    (lt-ltb (last_request said) most_number less)
    ∙ ap (λ t. turned_request said (first_of_list (filter_map (update_of c t) taken))) (sym same)
    ∙ ap (turned_request said) (sym first)

-- the update found has the number looked for

number_in : (c t signer : ℕ) (word : Body) (sig : List ℕ) (u : Signed Update) →
    update_of c t (record { signer = signer; body = word; sig = sig }) ≡ Some u → u.body.t ≡ t
number_in c t signer (body.Update b) sig u e = by (nat_eq b.client c) (nat_eq b.t t) refl e
  where
    by : (here same : Bool) → nat_eq b.t t ≡ same →
        cond (here && same) (Some (record { signer = signer; body = b; sig = sig })) None ≡ Some u → u.body.t ≡ t
    by true true is_number e = let same : record { signer = signer; body = b; sig = sig } ≡ u = cc in
        ap (λ (x : Signed Update). x.body.t) (sym same) ∙ eqb-true b.t t is_number
    by true false is_number e = cc
    by false same is_number e = cc
number_in c t signer _ sig u e = cc

pub first_number : (c t : ℕ) (taken : List (Signed Body)) (u : Signed Update) →
    first_of_list (filter_map (update_of c t) taken) ≡ Some u → u.body.t ≡ t
first_number c t [] u e = cc
first_number c t (f ∷ taken) u e = by (update_of c t f) refl (first_number c t taken u) e
  where
    by : (o : Option (Signed Update)) → update_of c t f ≡ o →
        (first_of_list (filter_map (update_of c t) taken) ≡ Some u → u.body.t ≡ t) →
        first_of_list (cons_option o (filter_map (update_of c t) taken)) ≡ Some u → u.body.t ≡ t
    by None is rest e = rest e
    by (Some v) is rest e = number_in c t f.signer f.body f.sig u (is ∙ e)

-- one request more

pub last_request-push : (said : List Body) (r : PoRequest) →
    last_request (said ++ body.PoRequest r ∷ []) ≡ max (last_request said) r.k
last_request-push said r =
    ap (λ rs. greatest_of (map (λ (b : PoRequest). b.k) rs)) (requests_said-push said r)
    ∙ ap greatest_of (map-append (λ (b : PoRequest). b.k) (requests_said said) (r ∷ []))
    ∙ greatest_of-push (map (λ (b : PoRequest). b.k) (requests_said said)) r.k

pub last_introduced-push : (said : List Body) (r : PoRequest) (c : ℕ) →
    last_introduced (said ++ body.PoRequest r ∷ []) c
    ≡ max (last_introduced said c) (cond (nat_eq r.update.body.client c) r.update.body.t 0)
last_introduced-push said r c =
    ap (λ rs. greatest_of (map (λ (b : PoRequest). b.update.body.t)
    (filter (λ (b : PoRequest). nat_eq b.update.body.client c) rs))) (requests_said-push said r)
    ∙ ap (λ rs. greatest_of (map (λ (b : PoRequest). b.update.body.t) rs))
    (filter-append (λ (b : PoRequest). nat_eq b.update.body.client c) (requests_said said) (r ∷ []))
    ∙ ap greatest_of (map-append (λ (b : PoRequest). b.update.body.t)
    (filter (λ (b : PoRequest). nat_eq b.update.body.client c) (requests_said said))
    (filter (λ (b : PoRequest). nat_eq b.update.body.client c) (r ∷ [])))
    ∙ greatest_of-append (map (λ (b : PoRequest). b.update.body.t)
    (filter (λ (b : PoRequest). nat_eq b.update.body.client c) (requests_said said)))
    (map (λ (b : PoRequest). b.update.body.t) (filter (λ (b : PoRequest). nat_eq b.update.body.client c) (r ∷ [])))
    ∙ ap (max (last_introduced said c)) (by (nat_eq r.update.body.client c))
  where
    by : (b : Bool) → greatest_of (map (λ (b : PoRequest). b.update.body.t) (cond b (r ∷ []) []))
        ≡ cond b r.update.body.t 0
    by true = let e : max r.update.body.t 0 ≡ r.update.body.t = omega arith in e
    by false = refl

pub introduced-nothing : (said : List Body) (introduced : Introduced) (next : List Body) → next ≡ [] →
    IsIntroduced said introduced → IsIntroduced (said ++ next) introduced
introduced-nothing said introduced next none old =
    subst (λ all. IsIntroduced all introduced) (sym (ap (λ xs. said ++ xs) none ∙ append-nil said)) old

introduced-request : (said : List Body) (introduced after : Introduced) (c number : ℕ) (r : PoRequest) →
    r.update.body.client ≡ c → r.update.body.t ≡ number → r.k ≡ introduced.request + 1 → c < 12 →
    slice_index introduced.updates c < number → after.request ≡ introduced.request + 1 →
    after.updates ≡ set introduced.updates c number → IsIntroduced said introduced →
    IsIntroduced (said ++ body.PoRequest r ∷ []) after
introduced-request said introduced after c number r client t k below more request others old = record {
  request =
      let first : introduced.request ≡ last_request said = old.request in
      let greater : after.request ≡ max (last_request said) r.k = omega arith in
      greater ∙ sym (last_request-push said r);
  clients = ap length others ∙ length-set introduced.updates c number ∙ old.clients;
  of_client = λ i small. ap (λ xs. slice_index xs i) others ∙ at i small (cases_eq i c)
      ∙ sym (last_introduced-push said r i);
}
  where
    at : (i : ℕ) → i < 12 → (i ≡ c) ⊎ (i ≢ c) →
        slice_index (set introduced.updates c number) i
        ≡ max (last_introduced said i) (cond (nat_eq r.update.body.client i) r.update.body.t 0)
    at i small (inl e) =
        let size : length introduced.updates ≡ 12 = old.clients in
        let inside : c < length introduced.updates = omega arith in
        let mine : slice_index introduced.updates c ≡ last_introduced said c = old.of_client c below in
        let greater : number ≡ max (last_introduced said c) r.update.body.t = omega arith in
        ap (slice_index (set introduced.updates c number)) e
        ∙ get_or-set_same introduced.updates c number 0 inside ∙ greater
        ∙ ap (λ b. max (last_introduced said c) (cond b r.update.body.t 0))
        (sym (eq-eqb r.update.body.client c client))
        ∙ ap (λ x. max (last_introduced said x) (cond (nat_eq r.update.body.client x) r.update.body.t 0)) (sym e)
    at i small (inr ne) =
        let none : max (last_introduced said i) 0 ≡ last_introduced said i = omega arith in
        get_or-set_other introduced.updates c i number 0 ne
        ∙ old.of_client i small ∙ sym none
        ∙ ap (λ b. max (last_introduced said i) (cond b r.update.body.t 0))
        (sym (ne_eqb r.update.body.client i (λ e. ne (sym e ∙ client))))

pub introduced-found : (said : List Body) (introduced after : Introduced) (c count number : ℕ)
    (taken : List (Signed Body)) (u : Signed Update) →
    IsIntroduced said introduced → c < 12 → number ≡ max (slice_index introduced.updates c) count + 1 →
    Some u ≡ first_of_list (filter_map (update_of c number) taken) →
    after.request ≡ introduced.request + 1 → after.updates ≡ set introduced.updates c number →
    IsIntroduced (said ++ turned_request said (Some u)) after
introduced-found said introduced after c count number taken u old below number_is first request others =
    introduced-request said introduced after c number (record { k = last_request said + 1; update = u })
    (found_client c number taken (Some u) u first refl) (first_number c number taken u (sym first))
    (ap (λ n. n + 1) (sym old.request)) below (omega arith) request others old

-- how far they went is told by the requests among all that was said
pub introduced-same : (said other : List Body) (introduced : Introduced) → requests_said said ≡ requests_said other →
    IsIntroduced said introduced → IsIntroduced other introduced
introduced-same said other introduced same is = record {
  request = is.request ∙ ap (λ rs. greatest_of (map (λ (b : PoRequest). b.k) rs)) same;
  clients = is.clients;
  of_client = λ c below. is.of_client c below ∙ ap (λ rs. greatest_of (map (λ (b : PoRequest). b.update.body.t)
      (filter (λ (b : PoRequest). nat_eq b.update.body.client c) rs))) same;
}

pub introduced-more : (before requests more bodies : List Body) (introduced : Introduced) →
    bodies ≡ requests ++ more → requests_said more ≡ [] → IsIntroduced (before ++ requests) introduced →
    IsIntroduced (before ++ bodies) introduced
introduced-more before requests more bodies introduced all none =
    introduced-same (before ++ requests) (before ++ bodies) introduced
    (sym (ap (λ xs. requests_said (before ++ xs)) all
    ∙ ap requests_said (sym (append_assoc before requests more))
    ∙ filter_map-append request_in (before ++ requests) more
    ∙ ap (λ rs. requests_said (before ++ requests) ++ rs) none ∙ append-nil _))

pub introduced-begin : (introduced : Introduced) → introduced.request ≡ 0 → introduced.updates ≡ replicate 12 0 →
    IsIntroduced [] introduced
introduced-begin introduced request each = record {
  request = request;
  clients = ap length each;
  of_client = λ c below. ap (λ xs. slice_index xs c) each ∙ zeros 12 c;
}

-- requests of more clients

pub turned-none : (g : Group) (me : ℕ) (taken : List (Signed Body)) (executed : List Update) (said : List Body) →
    requests_in_turn_due g me taken executed said (numbers_from 0 0) ≡ []
unfolding numbers_from
turned-none g me taken executed said = refl

turned-append : (g : Group) (me : ℕ) (taken : List (Signed Body)) (executed : List Update) (said : List Body)
    (cs : List ℕ) (c : ℕ) →
    requests_in_turn_due g me taken executed said (cs ++ c ∷ []) ≡ requests_in_turn_due g me taken executed said cs
    ++ next_in_turn g me taken executed (said ++ requests_in_turn_due g me taken executed said cs) c
turned-append g me taken executed said [] c =
    append-nil (next_in_turn g me taken executed said c)
    ∙ ap (λ all. next_in_turn g me taken executed all c) (sym (append-nil said))
turned-append g me taken executed said (d ∷ cs) c =
    let first = next_in_turn g me taken executed said d in
    let rest = requests_in_turn_due g me taken executed (said ++ first) cs in
    ap (λ more. first ++ more) (turned-append g me taken executed (said ++ first) cs c)
    ∙ sym (append_assoc first rest (next_in_turn g me taken executed ((said ++ first) ++ rest) c))
    ∙ ap (λ all. (first ++ rest) ++ next_in_turn g me taken executed all c) (append_assoc said first rest)

pub turned-more : (g : Group) (me : ℕ) (taken : List (Signed Body)) (executed : List Update) (said : List Body)
    (c : ℕ) →
    requests_in_turn_due g me taken executed said (numbers_from 0 (c + 1))
    ≡ requests_in_turn_due g me taken executed said (numbers_from 0 c)
    ++ next_in_turn g me taken executed (said ++ requests_in_turn_due g me taken executed said (numbers_from 0 c)) c
turned-more g me taken executed said c =
    let e : 0 + c ≡ c = omega arith in
    ap (requests_in_turn_due g me taken executed said)
    (numbers_from-more 0 c ∙ ap (λ n. numbers_from 0 c ++ n ∷ []) e)
    ∙ turned-append g me taken executed said (numbers_from 0 c) c

-- requests acknowledge nothing

turned-acks-one : (g : Group) (me : ℕ) (taken : List (Signed Body)) (executed : List Update) (said : List Body)
    (c j k : ℕ) → list_any (acks j k) (next_in_turn g me taken executed said c) ≡ false
turned-acks-one g me taken executed said c j k =
    ap (list_any (acks j k)) (turned-is g me taken executed said c)
    ∙ by (is_door g c me && nat_lt (last_request said) most_number)
    (first_of_list (filter_map (update_of c (next_number executed said c)) taken))
  where
    by : (b : Bool) (found : Option (Signed Update)) →
        list_any (acks j k) (cond b (turned_request said found) []) ≡ false
    by true None = refl
    by true (Some u) = refl
    by false found = refl

pub turned-acks : (g : Group) (me : ℕ) (taken : List (Signed Body)) (executed : List Update) (said : List Body)
    (cs : List ℕ) (j k : ℕ) → list_any (acks j k) (requests_in_turn_due g me taken executed said cs) ≡ false
turned-acks g me taken executed said [] j k = refl
turned-acks g me taken executed said (c ∷ cs) j k =
    let first = next_in_turn g me taken executed said c in
    let rest = requests_in_turn_due g me taken executed (said ++ first) cs in
    list_any-append (acks j k) first rest
    ∙ ap (λ b. b || list_any (acks j k) rest) (turned-acks-one g me taken executed said c j k)
    ∙ turned-acks g me taken executed (said ++ first) cs j k

one-more : (start count : ℕ) → start ∷ numbers_from (start + 1) count ≡ numbers_from start (suc count)
unfolding numbers_from
one-more start count = let e : start + 1 ≡ suc start = omega arith in ap (λ n. start ∷ numbers_from n count) e

-- The requests due in turn are numbered from the one after the last said on, without a gap. So, by the rules that stay
-- alive, no two different requests with one number are ever said.
pub turned-numbers : (g : Group) (me : ℕ) (taken : List (Signed Body)) (executed : List Update) (said : List Body)
    (cs : List ℕ) →
    map (λ (b : PoRequest). b.k) (requests_said (requests_in_turn_due g me taken executed said cs))
    ≡ numbers_from (last_request said + 1)
    (length (requests_said (requests_in_turn_due g me taken executed said cs)))
turned-numbers g me taken executed said [] = sym (numbers_from-none (last_request said + 1))
turned-numbers g me taken executed said (c ∷ cs) =
    by (is_door g c me && nat_lt (last_request said) most_number)
    (first_of_list (filter_map (update_of c (next_number executed said c)) taken))
    (turned-is g me taken executed said c)
    (turned-numbers g me taken executed (said ++ next_in_turn g me taken executed said c) cs)
  where
    rest : List Body → List Body
    rest first = requests_in_turn_due g me taken executed (said ++ first) cs

    numbered : List Body → ℕ → Type 0
    numbered words start = map (λ (b : PoRequest). b.k) (requests_said words)
        ≡ numbers_from start (length (requests_said words))

    one : (u : Signed Update) → numbered (rest (turned_request said (Some u)))
        (last_request (said ++ turned_request said (Some u)) + 1) →
        numbered (turned_request said (Some u) ++ rest (turned_request said (Some u))) (last_request said + 1)
    one u later =
        let next : max (last_request said) (last_request said + 1) ≡ last_request said + 1 = omega arith in
        let last : last_request (said ++ turned_request said (Some u)) ≡ last_request said + 1 =
        last_request-push said (record { k = last_request said + 1; update = u }) ∙ next in
        ap (λ ks. (last_request said + 1) ∷ ks) (later ∙ ap (λ n. numbers_from (n + 1)
        (length (requests_said (rest (turned_request said (Some u)))))) last)
        ∙ one-more (last_request said + 1) (length (requests_said (rest (turned_request said (Some u)))))

    nothing : numbered (rest []) (last_request (said ++ []) + 1) → numbered ([] ++ rest []) (last_request said + 1)
    nothing later = later ∙ ap (λ (xs : List Body). numbers_from (last_request xs + 1)
        (length (requests_said (rest [])))) (append-nil said)

    by : (b : Bool) (o : Option (Signed Update)) →
        next_in_turn g me taken executed said c ≡ cond b (turned_request said o) [] →
        numbered (rest (next_in_turn g me taken executed said c))
        (last_request (said ++ next_in_turn g me taken executed said c) + 1) →
        numbered (next_in_turn g me taken executed said c ++ rest (next_in_turn g me taken executed said c))
        (last_request said + 1)
    by true (Some u) is later =
        subst (λ (xs : List Body). numbered (xs ++ rest xs) (last_request said + 1)) (sym is)
        (one u (subst (λ (xs : List Body). numbered (rest xs) (last_request (said ++ xs) + 1)) is later))
    by true None is later =
        subst (λ (xs : List Body). numbered (xs ++ rest xs) (last_request said + 1)) (sym is)
        (nothing (subst (λ (xs : List Body). numbered (rest xs) (last_request (said ++ xs) + 1)) is later))
    by false o is later =
        subst (λ (xs : List Body). numbered (xs ++ rest xs) (last_request said + 1)) (sym is)
        (nothing (subst (λ (xs : List Body). numbered (rest xs) (last_request (said ++ xs) + 1)) is later))
