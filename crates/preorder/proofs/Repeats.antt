-- What is said again is told from what is held: an own request by the update held for it, an acknowledgement by the first
-- request of its number. Both stay so as more is said, since what is found first in a list stays the first.
use Rattle.std.proofs.Common.{◌≡◌, ℕ, zero, suc, ◌+◌, ◌≤◌, ◌<◌, Bool, true, false, cond, ◌||◌}
use Rattle.std.proofs.Common.{List, [], ◌∷◌, ◌++◌, Option, Some, None, is_some, length, map, take, get_or}
use Rattle.std.proofs.Common.{refl, sym, ◌∙◌, ap, arith}
use Rattle.std.specs.Prelude.{IsSome, slice_get}
use Rattle.std.specs.List.{list_any, find}
use Rattle.std.specs.Option.{option_to_list}
use Rattle.std.proofs.lemmas.Bool.{false≢true, true≢false}
use Rattle.std.proofs.lemmas.List.{map-append, take_more}
use Rattle.std.proofs.lemmas.List.Elements.{filter_map-append}
use Rattle.message_types.specs.declared.signed.Signed.{Signed}
use Rattle.message_types.specs.declared.updates.Update.{Update}
use Rattle.message_types.specs.declared.preordering.PoRequest.{PoRequest}
use Rattle.message_types.specs.declared.body.Body.{Body}
use Rattle.message_types.specs.declared.body.Body.TheVariants as body
use Rattle.protocol_rules.specs.Group.{Group}
use Rattle.protocol_rules.specs.Preorder.{acks, request_in, requests_said}
use Rattle.protocol_rules.specs.Turns.{requests_number}
use Rattle.preorder.specs.declared.firsts.First.{First}
use Rattle.preorder.specs.Index.{PairMap, at_pair, HasFirsts, is_settled}
use Rattle.preorder.specs.Again.{request_held, AreOwn}

-- what is found

pub unfound : {X : Type 0} (p : X → Bool) (xs : List X) → list_any p xs ≡ false → find p xs ≡ None
unfound p [] none = refl
unfound {X} p (x ∷ xs) none = by (p x) none (unfound p xs)
  where
    by : (b : Bool) → (b || list_any p xs) ≡ false → (list_any p xs ≡ false → find p xs ≡ None) →
        cond b (Some x) (find p xs) ≡ None
    by true bad later = absurd (true≢false bad)
    by false rest later = later rest

pub found : {X : Type 0} (p : X → Bool) (xs : List X) (x : X) → find p xs ≡ Some x → list_any p xs ≡ true
found p [] x e = absurd (false≢true (ap is_some e))
found {X} p (y ∷ xs) x e = by (p y) e (found p xs x)
  where
    by : (b : Bool) → cond b (Some y) (find p xs) ≡ Some x → (find p xs ≡ Some x → list_any p xs ≡ true) →
        (b || list_any p xs) ≡ true
    by true e later = refl
    by false e later = later e

pub passes : {X : Type 0} (p : X → Bool) (xs : List X) (x : X) → find p xs ≡ Some x → p x ≡ true
passes p [] x e = absurd (false≢true (ap is_some e))
passes {X} p (y ∷ xs) x e = by (p y) refl e (passes p xs x)
  where
    by : (b : Bool) → p y ≡ b → cond b (Some y) (find p xs) ≡ Some x → (find p xs ≡ Some x → p x ≡ true) → p x ≡ true
    by true is e later = let same : y ≡ x = cc in ap p (sym same) ∙ is
    by false is e later = later e

-- what was found for one test is found for another that it passes, or something before it
pub found-too : {X : Type 0} (p q : X → Bool) (xs : List X) (x : X) → find q xs ≡ Some x → p x ≡ true →
    IsSome (find p xs)
found-too p q [] x e is = absurd (false≢true (ap is_some e))
found-too {X} p q (y ∷ xs) x e is = by (p y) (q y) refl e (found-too p q xs x)
  where
    by : (a b : Bool) → p y ≡ a → cond b (Some y) (find q xs) ≡ Some x →
        (find q xs ≡ Some x → p x ≡ true → IsSome (find p xs)) → IsSome (cond a (Some y) (find p xs))
    by true b none e later = refl
    by false true none e later = let same : y ≡ x = cc in absurd (false≢true (sym none ∙ ap p same ∙ is))
    by false false none e later = later e is

pub get-none : {X : Type 0} (xs : List X) (i : ℕ) → length xs ≤ i → slice_get xs i ≡ None
get-none [] i past = refl
get-none (x ∷ xs) zero past = absurd (omega arith)
get-none (x ∷ xs) (suc i) past = get-none xs i (omega arith)

pub get-some : {X : Type 0} (xs : List X) (i : ℕ) (x : X) → i < length xs → x ≡ get_or xs i x →
    Some x ≡ slice_get xs i
get-some [] i x within is = absurd (omega arith)
get-some (y ∷ xs) zero x within is = ap (λ z. Some z) is
get-some (y ∷ xs) (suc i) x within is = get-some xs i x (omega arith) is

-- an acknowledgement that wasn't said, as it is held
pub again-none : (g : Group) (known : List (Signed Body)) (said : List Body) (map : PairMap First) (j k : ℕ)
    (first : Option First) → first ≡ at_pair map (j, k) → is_settled first ≡ false → HasFirsts g known said map →
    find (acks j k) said ≡ None
again-none g known said map j k first is unsaid has =
    unfound (acks j k) said ((has j k).acked ∙ ap is_settled (sym is) ∙ unsaid)

-- an own request, as it is held
pub request-again : (said : List Body) (map : PairMap (Signed Update)) (own : List (ℕ × ℕ)) (i : ℕ) (b : Bool)
    (word : Option Body) (items : List Body) → AreOwn said map own → b ≡ true →
    word ≡ request_held map (i + 1) (slice_get own i) →
    items ++ cond b (option_to_list (find (requests_number (i + 1)) said)) [] ≡ items ++ option_to_list word
request-again said map own i b word items is beat held =
    ap (λ x. items ++ cond x (option_to_list (find (requests_number (i + 1)) said)) []) beat
    ∙ ap (λ o. items ++ option_to_list o) (is.each i ∙ sym held)

-- the client and the number of a request's update
abbrev pub key_of : PoRequest → ℕ × ℕ
key_of b = (b.update.body.client, b.update.body.t)

abbrev pub keys_in : List Body → List (ℕ × ℕ)
keys_in words = map key_of (requests_said words)

pub keys-append : (xs ys : List Body) →
    map key_of (requests_said (xs ++ ys)) ≡ map key_of (requests_said xs) ++ map key_of (requests_said ys)
keys-append xs ys = ap (map key_of) (filter_map-append request_in xs ys)
    ∙ map-append key_of (requests_said xs) (requests_said ys)

pub keys-more : (bodies : List Body) (i : ℕ) (item : Body) → i < length bodies → item ≡ get_or bodies i item →
    map key_of (requests_said (take i bodies)) ++ map key_of (requests_said (item ∷ []))
    ≡ map key_of (requests_said (take (i + 1) bodies))
keys-more bodies i item within is =
    sym (keys-append (take i bodies) (item ∷ []))
    ∙ ap (λ x. map key_of (requests_said (take i bodies ++ x ∷ []))) is
    ∙ ap (λ xs. map key_of (requests_said xs)) (sym (take_more bodies i item within))
