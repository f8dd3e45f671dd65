-- Words of other kinds change nothing of pre-ordering: each of its parts goes by the elements of a list that count, so
-- two lists that have the same ones make the same of it.
use Rattle.std.proofs.Common.{◌≡◌, ℕ, Bool, true, false, cond, List, [], ◌∷◌, ◌++◌, Option, Some, None, filter}
use Rattle.std.proofs.Common.{length, nat_eq, is_some, refl, sym, ◌∙◌, ap, append-nil, true≢false}
use Rattle.std.specs.Prelude.{slice_index}
use Rattle.std.specs.List.{list_any, find, filter_map}
use Rattle.std.proofs.Math.Path.{fun_ext}
use Rattle.std.proofs.lemmas.List.Elements.{filter-append}
use Rattle.std.proofs.lemmas.Map.Views.{any-filter_same}
use Rattle.message_types.specs.declared.signed.Signed.{Signed}
use Rattle.message_types.specs.declared.updates.Update.{Update}
use Rattle.message_types.specs.declared.body.Body.{Body}
use Rattle.message_types.specs.declared.body.Body.TheVariants as body
use Rattle.message_types.specs.Digests.{digest_of_update}
use Rattle.quorum_sets.specs.Quorum.{has_quorum}
use Rattle.protocol_rules.specs.Words.{or_else, first_met, first_of_list}
use Rattle.protocol_rules.specs.Group.{Group}
use Rattle.protocol_rules.specs.Preorder.{certified, is_ack, is_acked, update_requested, updates_requested, update_of}
use Rattle.protocol_rules.specs.Preorder.{request_in, requests_said, acks}
use Rattle.preorder.specs.declared.requests.Counts.{Counts}
use Rattle.protocol_rules.specs.Turns.{requests_number}
use Rattle.preorder.specs.Again.{ack_of}
use Rattle.preorder.specs.Index.{has_digest}
use Rattle.preorder.specs.Counted.{IsCounted}
use Rattle.preorder.specs.Composed.{is_preordering, is_preordering_word, is_update}
use Rattle.preorder.specs.PreorderState.{PreorderState, IsPreorderOf}
use Rattle.protocol_rules.proofs.FirstMet.{met-again}
use Rattle.preorder.proofs.Runs.{reaches-same}
use Rattle.preorder.proofs.Others.{pending-same}
use Rattle.preorder.proofs.Turning.{lanes-same}
use Rattle.preorder.proofs.RequestsInTurn.{introduced-same}
use Rattle.preorder.proofs.Holding.{own-alike}
use Rattle.plain_lists.proofs.Lists.{filter_map-filter}

first_met-step : {F X : Type 0} (met : List F → Option X) (p : F → Bool) (seen xs : List F) (x : F) (b : Bool) →
    p x ≡ b → met (filter p seen) ≡ met seen →
    first_met met (filter p (seen ++ x ∷ [])) (filter p xs) ≡ first_met met (seen ++ x ∷ []) xs →
    first_met met (filter p seen) (filter p (x ∷ xs)) ≡ or_else (met seen) (first_met met (seen ++ x ∷ []) xs)
unfolding first_met
first_met-step met p seen xs x true e same rest =
    let kept : filter p (x ∷ []) ≡ x ∷ [] = rw e refl in
    let kept_all : filter p (x ∷ xs) ≡ x ∷ filter p xs = rw e refl in
    let next : filter p (seen ++ x ∷ []) ≡ filter p seen ++ x ∷ [] = filter-append p seen (x ∷ [])
    ∙ ap (λ ys. filter p seen ++ ys) kept in
    ap (λ ys. first_met met (filter p seen) ys) kept_all
    ∙ ap (λ o. or_else o (first_met met (filter p seen ++ x ∷ []) (filter p xs))) same
    ∙ ap (λ ys. or_else (met seen) (first_met met ys (filter p xs))) (sym next)
    ∙ ap (or_else (met seen)) rest
first_met-step met p seen xs x false e same rest =
    let left : filter p (x ∷ []) ≡ [] = rw e refl in
    let left_all : filter p (x ∷ xs) ≡ filter p xs = rw e refl in
    let next : filter p (seen ++ x ∷ []) ≡ filter p seen = filter-append p seen (x ∷ [])
    ∙ ap (λ ys. filter p seen ++ ys) left ∙ append-nil (filter p seen) in
    ap (λ ys. first_met met (filter p seen) ys) left_all
    ∙ sym (met-again met (filter p seen) (filter p xs))
    ∙ ap (λ o. or_else o (first_met met (filter p seen) (filter p xs))) same
    ∙ ap (λ ys. or_else (met seen) (first_met met ys (filter p xs))) (sym next)
    ∙ ap (or_else (met seen)) rest

-- what was met first in the elements that count was met first in all
first_met-filter : {F X : Type 0} (met : List F → Option X) (p : F → Bool) →
    ((xs : List F) → met (filter p xs) ≡ met xs) →
    (seen xs : List F) → first_met met (filter p seen) (filter p xs) ≡ first_met met seen xs
unfolding first_met
first_met-filter met p same seen [] = same seen
first_met-filter met p same seen (x ∷ xs) =
    first_met-step met p seen xs x (p x) refl (same seen) (first_met-filter met p same (seen ++ x ∷ []) xs)

request_body : (j k signer : ℕ) (b : Body) (sig : List ℕ) → is_preordering_word b ≡ false →
    update_requested j k record { signer = signer; body = b; sig = sig } ≡ None
request_body j k signer (body.PoRequest b) sig e = absurd (cc)
request_body j k signer _ sig e = refl

not_requested : (j k : ℕ) (f : Signed Body) → is_preordering f ≡ false → update_requested j k f ≡ None
not_requested j k f e = request_body j k f.signer f.body f.sig e

ack_body : (j k : ℕ) (digest : List ℕ) (master signer : ℕ) (b : Body) (sig : List ℕ) →
    is_ack j k digest master record { signer = signer; body = b; sig = sig } ≡ true → is_preordering_word b ≡ true
ack_body j k digest master signer (body.PoAck b) sig e = refl
ack_body j k digest master signer _ sig e = absurd (cc)

ack_counts : (j k : ℕ) (digest : List ℕ) (master : ℕ) (f : Signed Body) → is_ack j k digest master f ≡ true →
    is_preordering f ≡ true
ack_counts j k digest master f e = ack_body j k digest master f.signer f.body f.sig e

requested-filter : (known : List (Signed Body)) (j k : ℕ) →
    updates_requested (filter is_preordering known) j k ≡ updates_requested known j k
requested-filter known j k = filter_map-filter (update_requested j k) is_preordering (not_requested j k) known

acked-filter : (g : Group) (known : List (Signed Body)) (j k : ℕ) (digest : List ℕ) →
    is_acked g (filter is_preordering known) j k digest ≡ is_acked g known j k digest
acked-filter g known j k digest =
    ap (has_quorum g.n g.q) (fun_ext (λ master. any-filter_same (is_ack j k digest master) is_preordering true
    (ack_counts j k digest master) known))

pub certified-filter : (g : Group) (known : List (Signed Body)) (j k : ℕ) →
    certified g (filter is_preordering known) j k ≡ certified g known j k
unfolding certified
certified-filter g known j k = first_met-filter met is_preordering same [] known
  where
    met : List (Signed Body) → Option Update
    met beginning = find (λ u. is_acked g beginning j k (digest_of_update u)) (updates_requested beginning j k)

    same : (xs : List (Signed Body)) → met (filter is_preordering xs) ≡ met xs
    same xs =
        ap (λ us. find (λ u. is_acked g (filter is_preordering xs) j k (digest_of_update u)) us)
        (requested-filter xs j k)
        ∙ ap (λ t. find t (updates_requested xs j k)) (fun_ext (λ u. acked-filter g xs j k (digest_of_update u)))

update_body : (c t signer : ℕ) (b : Body) (sig : List ℕ) →
    is_update record { signer = signer; body = b; sig = sig } ≡ false →
    update_of c t record { signer = signer; body = b; sig = sig } ≡ None
update_body c t signer (body.Update b) sig e = absurd (cc)
update_body c t signer _ sig e = refl

not_update : (c t : ℕ) (f : Signed Body) → is_update f ≡ false → update_of c t f ≡ None
not_update c t f e = update_body c t f.signer f.body f.sig e

not_request_in : (word : Body) → is_preordering_word word ≡ false → request_in word ≡ None
not_request_in (body.PoRequest b) e = absurd (cc)
not_request_in _ e = refl

acks_count : (j k : ℕ) (word : Body) → acks j k word ≡ true → is_preordering_word word ≡ true
acks_count j k (body.PoAck b) e = refl
acks_count j k _ e = absurd (cc)

-- what goes by the elements of a list that count is one for two lists that have the same ones
alike : {X Y : Type 0} (f : List X → Y) (counts : X → Bool) → ((xs : List X) → f (filter counts xs) ≡ f xs) →
    (xs ys : List X) → filter counts xs ≡ filter counts ys → f xs ≡ f ys
alike f counts same xs ys e = sym (same xs) ∙ ap f e ∙ same ys

pub taken-alike : (g : Group) (me : ℕ) (p : PreorderState) (taken other known : List (Signed Body)) (said : List Body) →
    filter is_update taken ≡ filter is_update other → IsPreorderOf g me p taken known said →
    IsPreorderOf g me p other known said
taken-alike g me p taken other known said same is = record {
  group = is.group;
  own = is.own;
  updates = λ c t. is.updates c t
      ∙ alike (λ xs. first_of_list (filter_map (update_of c t) xs)) is_update
      (λ xs. ap first_of_list (filter_map-filter (update_of c t) is_update (not_update c t) xs)) taken other same;
  numbers = is.numbers;
  firsts = is.firsts;
  ballots = is.ballots;
  certified = is.certified;
  reach = is.reach;
  pending = is.pending;
  counted = is.counted;
  lanes = is.lanes;
  introduced = is.introduced;
  requested = is.requested;
  acknowledged = is.acknowledged;
}

pub certified-alike : (g : Group) (known other : List (Signed Body)) →
    filter is_preordering known ≡ filter is_preordering other → (j k : ℕ) →
    certified g known j k ≡ certified g other j k
certified-alike g known other same j k =
    alike (λ xs. certified g xs j k) is_preordering (λ xs. certified-filter g xs j k) known other same

requested-alike : (known other : List (Signed Body)) → filter is_preordering known ≡ filter is_preordering other →
    (j k : ℕ) → updates_requested known j k ≡ updates_requested other j k
requested-alike known other same j k = alike (λ xs. updates_requested xs j k) is_preordering
    (λ xs. requested-filter xs j k) known other same

pub known-alike : (g : Group) (me : ℕ) (p : PreorderState) (taken known other : List (Signed Body)) (said : List Body) →
    filter is_preordering known ≡ filter is_preordering other → IsPreorderOf g me p taken known said →
    IsPreorderOf g me p taken other said
known-alike g me p taken known other said same is = record {
  group = is.group;
  own = is.own;
  updates = is.updates;
  numbers = is.numbers;
  firsts = λ j k. record {
    update = (is.firsts j k).update ∙ ap first_of_list (requested-alike known other same j k);
    acked = (is.firsts j k).acked;
    placed = (is.firsts j k).placed;
  };
  ballots = λ j k d. record {
    update = (is.ballots j k d).update ∙ ap (find (has_digest d)) (requested-alike known other same j k);
    voters = λ m below. (is.ballots j k d).voters m below
        ∙ alike (list_any (is_ack j k d m)) is_preordering
        (λ xs. any-filter_same (is_ack j k d m) is_preordering true (ack_counts j k d m) xs) known other same;
  };
  certified = λ j k. is.certified j k ∙ certified-alike g known other same j k;
  reach = λ j below. reaches-same (certified g known j) (certified g other j) (slice_index p.reach j)
      (certified-alike g known other same j) (is.reach j below);
  pending = pending-same known other said said p.pending.low p.pending.high
      (λ j k pending. (
        ap (λ us. is_some (first_of_list us)) (requested-alike known other same j k) ∙ pending.0,
        pending.1,
      )) is.pending;
  counted = is.counted;
  lanes = lanes-same g known other said said p.lanes
      (λ j i below low high. ap first_of_list (requested-alike known other same j i)) (λ j k there. there) is.lanes;
  introduced = is.introduced;
  requested = is.requested;
  acknowledged = λ live j k any. is.acknowledged live j k any
      ∙ ap (λ us. ack_of j k (first_of_list us)) (requested-alike known other same j k);
}

said-same : (said other : List Body) → filter is_preordering_word said ≡ filter is_preordering_word other →
    (j k : ℕ) → list_any (acks j k) said ≡ list_any (acks j k) other
said-same said other same j k =
    alike (list_any (acks j k)) is_preordering_word
    (λ xs. any-filter_same (acks j k) is_preordering_word true (acks_count j k) xs) said other same

counted-same : (said other : List Body) (counts : Counts) → requests_said said ≡ requests_said other →
    IsCounted said counts → IsCounted other counts
counted-same said other counts same is = record {
  all = is.all ∙ ap length same;
  limit = is.limit;
  clients = is.clients;
  of_client = λ c below. is.of_client c below ∙ ap (λ rs. length (filter (λ b. nat_eq b.update.body.client c) rs)) same;
}

number_counts : (k : ℕ) (word : Body) → requests_number k word ≡ true → is_preordering_word word ≡ true
number_counts k (body.PoRequest b) e = refl
number_counts k _ e = absurd (cc)

find-filter : {X : Type 0} (p q : X → Bool) → ((x : X) → p x ≡ true → q x ≡ true) → (xs : List X) →
    find p (filter q xs) ≡ find p xs
find-filter p q counts [] = refl
find-filter {X} p q counts (x ∷ xs) = by (q x) (p x) refl refl (find-filter p q counts xs)
  where
    by : (b a : Bool) → q x ≡ b → p x ≡ a → find p (filter q xs) ≡ find p xs →
        find p (cond b (x ∷ filter q xs) (filter q xs)) ≡ cond (p x) (Some x) (find p xs)
    by true a kept is rest = ap (cond (p x) (Some x)) rest
    by false true kept is rest = absurd (true≢false (sym (counts x is) ∙ kept))
    by false false kept is rest = rest ∙ sym (ap (λ b. cond b (Some x) (find p xs)) is)

pub said-alike : (g : Group) (me : ℕ) (p : PreorderState) (taken known : List (Signed Body)) (said other : List Body) →
    filter is_preordering_word said ≡ filter is_preordering_word other → IsPreorderOf g me p taken known said →
    IsPreorderOf g me p taken known other
said-alike g me p taken known said other same is = record {
  group = is.group;
  own = is.own;
  updates = is.updates;
  numbers = is.numbers;
  firsts = λ j k. record {
    update = (is.firsts j k).update;
    acked = sym (said-same said other same j k) ∙ (is.firsts j k).acked;
    placed = (is.firsts j k).placed;
  };
  ballots = is.ballots;
  certified = is.certified;
  reach = is.reach;
  pending = pending-same known known said other p.pending.low p.pending.high
      (λ j k pending. (pending.0, said-same said other same j k ∙ pending.1)) is.pending;
  counted = λ first. counted-same said other p.counts requests (is.counted first);
  lanes = lanes-same g known known said other p.lanes (λ j i below low high. refl)
      (λ j k there. sym (said-same said other same j k) ∙ there) is.lanes;
  introduced = λ live. introduced-same said other p.introduced requests (is.introduced live);
  requested = λ live. own-alike said other p.updates p.own requests numbers (is.requested live);
  acknowledged = λ live j k any. sym (found-acks j k)
      ∙ is.acknowledged live j k (said-same said other same j k ∙ any);
}
  where
    requests : requests_said said ≡ requests_said other
    requests = alike requests_said is_preordering_word
        (filter_map-filter request_in is_preordering_word not_request_in) said other same

    numbers : (k : ℕ) → find (requests_number k) said ≡ find (requests_number k) other
    numbers k = alike (find (requests_number k)) is_preordering_word
        (find-filter (requests_number k) is_preordering_word (number_counts k)) said other same

    found-acks : (j k : ℕ) → find (acks j k) said ≡ find (acks j k) other
    found-acks j k = alike (find (acks j k)) is_preordering_word
        (find-filter (acks j k) is_preordering_word (acks_count j k)) said other same

-- one more element that doesn't count
passed : {X : Type 0} (counts : X → Bool) (xs : List X) (x : X) → counts x ≡ false →
    filter counts xs ≡ filter counts (xs ++ x ∷ [])
passed counts xs x e = sym (filter-append counts xs (x ∷ []) ∙ ap (λ b. filter counts xs ++ cond b (x ∷ []) []) e
    ∙ append-nil (filter counts xs))

pub taken-passed : (g : Group) (me : ℕ) (p : PreorderState) (taken known : List (Signed Body)) (said : List Body)
    (f : Signed Body) → is_update f ≡ false →
    IsPreorderOf g me p taken known said → IsPreorderOf g me p (taken ++ f ∷ []) known said
taken-passed g me p taken known said f e is = taken-alike g me p taken (taken ++ f ∷ []) known said
    (passed is_update taken f e) is

pub known-passed : (g : Group) (me : ℕ) (p : PreorderState) (taken known : List (Signed Body)) (said : List Body)
    (f : Signed Body) → is_preordering f ≡ false →
    IsPreorderOf g me p taken known said → IsPreorderOf g me p taken (known ++ f ∷ []) said
known-passed g me p taken known said f e is = known-alike g me p taken known (known ++ f ∷ []) said
    (passed is_preordering known f e) is

-- a word of another kind certifies nothing
pub certified-passed : (g : Group) (known : List (Signed Body)) (f : Signed Body) → is_preordering f ≡ false →
    (j k : ℕ) → certified g (known ++ f ∷ []) j k ≡ certified g known j k
certified-passed g known f e j k = sym (certified-alike g known (known ++ f ∷ []) (passed is_preordering known f e) j k)
