-- The requests due, one client after another, and the counts beside them: a client's next request is that of the update
-- found for its number, which is one more than the count has.
use Rattle.std.proofs.Common.{◌≡◌, ◌≢◌, ℕ, zero, suc, ◌+◌, ◌≤◌, ◌<◌, ◌⊎◌, inl, inr, Bool, true, false, cond, ◌&&◌}
use Rattle.std.proofs.Common.{List, [], ◌∷◌, ◌++◌, Option, Some, None, nat_eq, nat_lt, length, filter, set, refl, sym}
use Rattle.std.proofs.Common.{◌∙◌, ap, subst, arith, append_assoc, length-append, get_or-set_same, get_or-set_other}
use Rattle.std.proofs.Common.{add-zero, min}
use Rattle.std.specs.Prelude.{slice_index}
use Rattle.std.proofs.Math.ListN.{length-set}
use Rattle.std.specs.List.{filter_map, cons_option}
use Rattle.std.proofs.lemmas.Bool.{cases_eq, eqb-true, eq-eqb, ne_eqb, le-ltb, lt-ltb, and_left, and_right}
use Rattle.std.proofs.lemmas.List.{append-nil}
use Rattle.std.proofs.lemmas.List.Elements.{filter_map-append, filter-append}
use Rattle.std.proofs.lemmas.List.Sums.{length-filter, count_by-le-length}
use Rattle.message_types.specs.declared.signed.Signed.{Signed}
use Rattle.message_types.specs.declared.updates.Update.{Update}
use Rattle.message_types.specs.declared.preordering.PoRequest.{PoRequest}
use Rattle.message_types.specs.declared.body.Body.{Body}
use Rattle.message_types.specs.declared.body.Body.TheVariants as body
use Rattle.quorum_sets.specs.Masters.{numbers_below}
use Rattle.protocol_rules.specs.Group.{Group, most_number, is_door}
use Rattle.protocol_rules.specs.Words.{first_of_list, numbers_from}
use Rattle.protocol_rules.specs.Preorder.{update_of, request_in, requests_said, requests_said_for, next_request}
use Rattle.protocol_rules.specs.Preorder.{requests_due}
use Rattle.preorder.specs.declared.requests.Counts.{Counts}
use Rattle.preorder.specs.Counted.{IsCounted}
use Rattle.protocol_rules.proofs.Numbers.{numbers_from-suc, numbers_from-more}

-- the request of the update found, or none
abbrev pub request_of : List Body → Option (Signed Update) → List Body
request_of said (Some u) = body.PoRequest record { k = length (requests_said said) + 1; update = u } ∷ []
request_of said None = []

pub next-is : (g : Group) (me : ℕ) (taken : List (Signed Body)) (said : List Body) (c : ℕ) →
    next_request g me taken said c
    ≡ cond (is_door g c me && nat_lt (length (requests_said said)) most_number)
    (request_of said (first_of_list (filter_map (update_of c (requests_said_for c said + 1)) taken))) []
next-is g me taken said c =
    ap (λ found. cond (is_door g c me && nat_lt (length (requests_said said)) most_number) found [])
    (by (first_of_list (filter_map (update_of c (requests_said_for c said + 1)) taken)))
  where
    by : (found : Option (Signed Update)) → (elim found [
      | Some u ↦ body.PoRequest record { k = length (requests_said said) + 1; update = u } ∷ []
      | None ↦ []
    ]) ≡ request_of said found
    by None = refl
    by (Some u) = refl

-- no request where the master is no door or the numbers are used up
pub next-off : (g : Group) (me : ℕ) (taken : List (Signed Body)) (said : List Body) (c : ℕ) →
    (is_door g c me && nat_lt (length (requests_said said)) most_number) ≡ false → next_request g me taken said c ≡ []
next-off g me taken said c shut = next-is g me taken said c
    ∙ ap (λ b. cond b (request_of said
    (first_of_list (filter_map (update_of c (requests_said_for c said + 1)) taken))) []) shut

pub shut-other : (g : Group) (me : ℕ) (said : List Body) (c : ℕ) → is_door g c me ≡ false →
    (is_door g c me && nat_lt (length (requests_said said)) most_number) ≡ false
shut-other g me said c other = and_left (is_door g c me) (nat_lt (length (requests_said said)) most_number) other

pub shut-full : (g : Group) (me : ℕ) (said : List Body) (c : ℕ) → most_number ≤ length (requests_said said) →
    (is_door g c me && nat_lt (length (requests_said said)) most_number) ≡ false
shut-full g me said c full = and_right (is_door g c me) (nat_lt (length (requests_said said)) most_number)
    (le-ltb (length (requests_said said)) most_number full)

next-on : (g : Group) (me : ℕ) (taken : List (Signed Body)) (said : List Body) (c : ℕ) → is_door g c me ≡ true →
    length (requests_said said) < most_number →
    next_request g me taken said c ≡ request_of said
    (first_of_list (filter_map (update_of c (requests_said_for c said + 1)) taken))
next-on g me taken said c door room = next-is g me taken said c
    ∙ ap (λ b. cond b (request_of said
    (first_of_list (filter_map (update_of c (requests_said_for c said + 1)) taken))) [])
    (ap (λ b. b && nat_lt (length (requests_said said)) most_number) door
    ∙ lt-ltb (length (requests_said said)) most_number room)

pub next-found : (g : Group) (me : ℕ) (taken : List (Signed Body)) (said : List Body) (c number : ℕ)
    (found : Option (Signed Update)) →
    is_door g c me ≡ true → length (requests_said said) < most_number → number ≡ requests_said_for c said + 1 →
    found ≡ first_of_list (filter_map (update_of c number) taken) →
    next_request g me taken said c ≡ request_of said found
next-found g me taken said c number found door room is_number is_found =
    next-on g me taken said c door room
    ∙ ap (λ t. request_of said (first_of_list (filter_map (update_of c t) taken))) (sym is_number)
    ∙ ap (request_of said) (sym is_found)

pub requests_said-for-le : (c : ℕ) (said : List Body) → requests_said_for c said ≤ length (requests_said said)
requests_said-for-le c said = rw (length-filter (λ b. nat_eq b.update.body.client c) (requests_said said))
    (count_by-le-length _ (requests_said said))

client_of : (c t signer : ℕ) (word : Body) (sig : List ℕ) (u : Signed Update) →
    update_of c t (record { signer = signer; body = word; sig = sig }) ≡ Some u → u.body.client ≡ c
client_of c t signer (body.Update b) sig u e = by (nat_eq b.client c) (nat_eq b.t t) refl e
  where
    by : (here same : Bool) → nat_eq b.client c ≡ here →
        cond (here && same) (Some (record { signer = signer; body = b; sig = sig })) None ≡ Some u → u.body.client ≡ c
    by true true is_client e = let same : record { signer = signer; body = b; sig = sig } ≡ u = cc in
        ap (λ (x : Signed Update). x.body.client) (sym same) ∙ eqb-true b.client c is_client
    by true false is_client e = cc
    by false same is_client e = cc
client_of c t signer _ sig u e = cc

first_client : (c t : ℕ) (taken : List (Signed Body)) (u : Signed Update) →
    first_of_list (filter_map (update_of c t) taken) ≡ Some u → u.body.client ≡ c
first_client c t [] u e = cc
first_client c t (f ∷ taken) u e = by (update_of c t f) refl (first_client c t taken u) e
  where
    by : (o : Option (Signed Update)) → update_of c t f ≡ o →
        (first_of_list (filter_map (update_of c t) taken) ≡ Some u → u.body.client ≡ c) →
        first_of_list (cons_option o (filter_map (update_of c t) taken)) ≡ Some u → u.body.client ≡ c
    by None is rest e = rest e
    by (Some v) is rest e = client_of c t f.signer f.body f.sig u (is ∙ e)

pub found_client : (c t : ℕ) (taken : List (Signed Body)) (found : Option (Signed Update)) (u : Signed Update) →
    found ≡ first_of_list (filter_map (update_of c t) taken) → found ≡ Some u → u.body.client ≡ c
found_client c t taken found u is_first is_some = first_client c t taken u (sym is_first ∙ is_some)

pub counted-nothing : (said : List Body) (counts : Counts) (next : List Body) → next ≡ [] → IsCounted said counts →
    IsCounted (said ++ next) counts
counted-nothing said counts next none old =
    subst (λ all. IsCounted all counts) (sym (ap (λ xs. said ++ xs) none ∙ append-nil said)) old

pub requests_said-push : (said : List Body) (r : PoRequest) →
    requests_said (said ++ body.PoRequest r ∷ []) ≡ requests_said said ++ r ∷ []
requests_said-push said r = filter_map-append request_in said (body.PoRequest r ∷ [])

requests_said_for-push : (c : ℕ) (said : List Body) (r : PoRequest) →
    requests_said_for c (said ++ body.PoRequest r ∷ []) ≡ requests_said_for c said + cond
    (nat_eq r.update.body.client c) 1 0
requests_said_for-push c said r =
    ap (λ rs. length (filter (λ b. nat_eq b.update.body.client c) rs)) (requests_said-push said r)
    ∙ ap length (filter-append (λ b. nat_eq b.update.body.client c) (requests_said said) (r ∷ []))
    ∙ length-append (filter (λ b. nat_eq b.update.body.client c) (requests_said said))
    (filter (λ b. nat_eq b.update.body.client c) (r ∷ []))
    ∙ ap (λ n. requests_said_for c said + n) (by (nat_eq r.update.body.client c))
  where
    by : (b : Bool) → length (cond b (r ∷ []) []) ≡ cond b 1 0
    by true = refl
    by false = refl

pub counted-request : (said : List Body) (counts after : Counts) (c : ℕ) (r : PoRequest) → r.update.body.client ≡ c →
    c < 12 → counts.introduced < most_number →
    after.introduced ≡ counts.introduced + 1 →
    after.said_for ≡ set counts.said_for c (slice_index counts.said_for c + 1) →
    IsCounted said counts → IsCounted (said ++ body.PoRequest r ∷ []) after
counted-request said counts after c r client below room all others old = record {
  all = all ∙ ap (λ n. n + 1) old.all
      ∙ sym (ap length (requests_said-push said r) ∙ length-append (requests_said said) (r ∷ []));
  limit = omega arith;
  clients = ap length others ∙ length-set counts.said_for c _ ∙ old.clients;
  of_client = λ i small. ap (λ xs. slice_index xs i) others ∙ at i small (cases_eq i c)
      ∙ sym (requests_said_for-push i said r);
}
  where
    at : (i : ℕ) → i < 12 → (i ≡ c) ⊎ (i ≢ c) →
        slice_index (set counts.said_for c (slice_index counts.said_for c + 1)) i ≡ requests_said_for i said + cond
        (nat_eq r.update.body.client i) 1 0
    at i small (inl e) =
        let inside : c < length counts.said_for = omega arith in
        subst (λ x. slice_index (set counts.said_for c (slice_index counts.said_for c + 1)) x ≡ requests_said_for x
        said + cond (nat_eq r.update.body.client x) 1 0) (sym e)
        (get_or-set_same counts.said_for c (slice_index counts.said_for c + 1) 0 inside
        ∙ ap (λ n. n + 1) (old.of_client c below)
        ∙ ap (λ b. requests_said_for c said + cond b 1 0) (sym (eq-eqb r.update.body.client c client)))
    at i small (inr ne) =
        get_or-set_other counts.said_for c i (slice_index counts.said_for c + 1) 0 ne
        ∙ old.of_client i small
        ∙ sym (ap (λ b. requests_said_for i said + cond b 1 0)
        (ne_eqb r.update.body.client i (λ e. ne (sym e ∙ client))) ∙ add-zero _)

-- requests of more clients

pub requests_due-none : (g : Group) (me : ℕ) (taken : List (Signed Body)) (said : List Body) →
    requests_due g me taken said (numbers_from 0 0) ≡ []
unfolding numbers_from
requests_due-none g me taken said = refl

-- the numbers from 0 on are those below one
pub from_below : (n : ℕ) → numbers_from 0 n ≡ numbers_below n
unfolding numbers_from numbers_below
from_below zero = refl
from_below (suc n) = let same : 0 + n ≡ n = omega arith in numbers_from-suc 0 n ∙ ap (λ x. numbers_from 0 n ++ x ∷ [])
    same ∙ ap (λ xs. xs ++ n ∷ []) (from_below n)

requests_due-append : (g : Group) (me : ℕ) (taken : List (Signed Body)) (said : List Body) (cs : List ℕ) (c : ℕ) →
    requests_due g me taken said (cs ++ c ∷ []) ≡ requests_due g me taken said cs
    ++ next_request g me taken (said ++ requests_due g me taken said cs) c
requests_due-append g me taken said [] c =
    append-nil (next_request g me taken said c) ∙ ap (λ all. next_request g me taken all c) (sym (append-nil said))
requests_due-append g me taken said (d ∷ cs) c =
    let first = next_request g me taken said d in
    ap (λ rest. first ++ rest) (requests_due-append g me taken (said ++ first) cs c)
    ∙ sym (append_assoc first (requests_due g me taken (said ++ first) cs)
    (next_request g me taken ((said ++ first) ++ requests_due g me taken (said ++ first) cs) c))
    ∙ ap (λ all. (first ++ requests_due g me taken (said ++ first) cs) ++ next_request g me taken all c)
    (append_assoc said first (requests_due g me taken (said ++ first) cs))

pub requests_due-more : (g : Group) (me : ℕ) (taken : List (Signed Body)) (said : List Body) (c : ℕ) →
    requests_due g me taken said (numbers_from 0 (c + 1))
    ≡ requests_due g me taken said (numbers_from 0 c)
    ++ next_request g me taken (said ++ requests_due g me taken said (numbers_from 0 c)) c
requests_due-more g me taken said c =
    let e : 0 + c ≡ c = omega arith in
    ap (requests_due g me taken said) (numbers_from-more 0 c ∙ ap (λ n. numbers_from 0 c ++ n ∷ []) e)
    ∙ requests_due-append g me taken said (numbers_from 0 c) c

-- the number looked up is the client's next, and it fits
pub number_is : (said : List Body) (counts : Counts) (c number : ℕ) → IsCounted said counts →
    c < 12 → counts.introduced < 4096 →
    number ≡ min (slice_index counts.said_for c + 1) 18446744073709551615 →
    (number ≡ requests_said_for c said + 1) × (number ≡ slice_index counts.said_for c + 1)
number_is said counts c number counted below room is =
    let mine = counted.of_client c below in
    let le = requests_said-for-le c said in
    let all = counted.all in
    (omega arith, omega arith)

pub step-found : (g : Group) (me : ℕ) (taken : List (Signed Body)) (said : List Body) (counts : Counts) (c number : ℕ)
    (found : Option (Signed Update)) →
    is_door g c me ≡ true → IsCounted said counts → c < 12 → counts.introduced < 4096 →
    number ≡ min (slice_index counts.said_for c + 1) 18446744073709551615 →
    found ≡ first_of_list (filter_map (update_of c number) taken) →
    next_request g me taken said c ≡ request_of said found
unfolding most_number
step-found g me taken said counts c number found door counted below room is first =
    let all = counted.all in
    let less : length (requests_said said) < most_number = omega arith in
    next-found g me taken said c number found door less (number_is said counts c number counted below room is).0 first

pub step-counted : (said : List Body) (counts after : Counts) (c number : ℕ) (taken : List (Signed Body))
    (u : Signed Update) (k : ℕ) →
    IsCounted said counts → c < 12 → counts.introduced < 4096 →
    number ≡ min (slice_index counts.said_for c + 1) 18446744073709551615 →
    Some u ≡ first_of_list (filter_map (update_of c number) taken) →
    after.introduced ≡ counts.introduced + 1 → after.said_for ≡ set counts.said_for c number →
    IsCounted (said ++ body.PoRequest (record { k = k; update = u }) ∷ []) after
unfolding most_number
step-counted said counts after c number taken u k counted below room is first all others =
    counted-request said counts after c (record { k = k; update = u })
    (found_client c number taken (Some u) u first refl) below room all
    (others ∙ ap (set counts.said_for c) (number_is said counts c number counted below room is).1) counted
