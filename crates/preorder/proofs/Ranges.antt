-- Ranges of numbers outside which nothing is due: what is due of all numbers is what is due of the range.
use Rattle.std.proofs.Common.{◌≡◌, ℕ, zero, suc, ◌+◌, ◌-◌, ◌<◌, ◌≤◌, Bool, true, false, cond, List, [], ◌∷◌, ◌++◌}
use Rattle.std.proofs.Common.{refl, sym, ◌∙◌, ap, arith, add-one, is_some}
use Rattle.std.specs.Prelude.{slice_index}
use Rattle.std.specs.List.{flat_map, list_any}
use Rattle.std.proofs.lemmas.List.{append-nil}
use Rattle.std.proofs.lemmas.Grind.{flat_map-append}
use Rattle.message_types.specs.declared.signed.Signed.{Signed}
use Rattle.message_types.specs.declared.updates.Update.{Update}
use Rattle.message_types.specs.declared.body.Body.{Body}
use Rattle.message_types.specs.declared.body.Body.TheVariants as body
use Rattle.message_types.specs.Digests.{digest_of_update}
use Rattle.quorum_sets.specs.Masters.{numbers_below}
use Rattle.quorum_sets.proofs.MastersLemmas.{numbers_below-suc}
use Rattle.protocol_rules.specs.Group.{Group, most_number}
use Rattle.protocol_rules.specs.Words.{numbers_from, first_of_list}
use Rattle.protocol_rules.specs.Preorder.{ack_due, acks, updates_requested, certified, vector}
use Rattle.preorder.specs.Index.{HasPending, IsPending, Reaches}
use Rattle.protocol_rules.proofs.Numbers.{run-length, length-run_from, head, numbers_from-more}

tail : {X : Type 0} (f : ℕ → List X) (start count most : ℕ) → most ≤ count → ((k : ℕ) → start + most ≤ k → f k ≡ []) →
    flat_map f (numbers_from start count) ≡ flat_map f (numbers_from start most)
unfolding numbers_from
tail f start zero zero fits none = refl
tail f start zero (suc most) fits none = absurd (omega arith)
tail f start (suc count) zero fits none =
    ap (λ xs. xs ++ flat_map f (numbers_from (suc start) count)) (none start (omega arith))
    ∙ tail f (suc start) count zero (omega arith) (λ k le. none k (omega arith))
tail f start (suc count) (suc most) fits none =
    ap (λ rest. f start ++ rest) (tail f (suc start) count most (omega arith) (λ k le. none k (omega arith)))

-- what stands outside a range gives nothing
pub narrow : {X : Type 0} (f : ℕ → List X) (count low high : ℕ) → 1 ≤ low → low ≤ count + 1 → high ≤ count + 1 →
    ((k : ℕ) → k < low → f k ≡ []) → ((k : ℕ) → high ≤ k → f k ≡ []) →
    flat_map f (numbers_from 1 count) ≡ flat_map f (numbers_from low (high - low))
narrow f count low high one low_fits high_fits before after =
    let all : count ≡ (low - 1) + (count + 1 - low) = omega arith in
    let start : 1 + (low - 1) ≡ low = omega arith in
    ap (λ n. flat_map f (numbers_from 1 n)) all
    ∙ head f 1 (low - 1) (count + 1 - low) (λ k le lt. before k (omega arith))
    ∙ ap (λ s. flat_map f (numbers_from s (count + 1 - low))) start
    ∙ tail f low (count + 1 - low) (high - low) (omega arith) (λ k le. after k (omega arith))

-- nothing is due where nothing is pending
pub ack_due-none : (known : List (Signed Body)) (said : List Body) (j k : ℕ) → (IsPending known said j k → ⊥) →
    ack_due known said j k ≡ []
ack_due-none known said j k idle = by (list_any (acks j k) said) (updates_requested known j k) refl refl
  where
    by : (b : Bool) (us : List Update) → list_any (acks j k) said ≡ b → updates_requested known j k ≡ us →
        cond {A = List Body} b []
        (elim us [ [] ↦ [] | u ∷ _ ↦ body.PoAck record { j = j; k = k; digest = digest_of_update u } ∷ [] ]) ≡ []
    by true us e is = refl
    by false [] e is = refl
    by false (u ∷ us) e is = absurd (idle (ap (λ xs. is_some (first_of_list xs)) is, e))

pub acks-narrow : (known : List (Signed Body)) (said : List Body) (low high : List ℕ) (j : ℕ) →
    HasPending known said low high → j < 14 →
    flat_map (ack_due known said j) (numbers_from (slice_index low j) (slice_index high j - slice_index low j))
    ≡ flat_map (λ k. ack_due known said j k) (numbers_from 1 most_number)
acks-narrow known said low high j has below =
    sym (narrow (λ k. ack_due known said j k) most_number (slice_index low j) (slice_index high j)
    (has.from_one j below) (has.low_limit j below) (has.high_limit j below)
    (λ k less. ack_due-none known said j k (λ pending. let le = has.from_low j k below pending in absurd (omega arith)))
    (λ k le. ack_due-none known said j k (λ pending. let less = has.below_high j k below pending in
    absurd (omega arith))))

pub flat_map-more : {X : Type 0} (f : ℕ → List X) (start count : ℕ) →
    flat_map f (numbers_from start (count + 1)) ≡ flat_map f (numbers_from start count) ++ f (start + count)
flat_map-more f start count = ap (flat_map f) (numbers_from-more start count)
    ∙ flat_map-append f (numbers_from start count) ((start + count) ∷ [])
    ∙ ap (λ xs. flat_map f (numbers_from start count) ++ xs) (append-nil (f (start + count)))

pub flat_map-below-none : {X : Type 0} (f : ℕ → List X) → flat_map f (numbers_below 0) ≡ []
unfolding numbers_below
flat_map-below-none f = refl

pub flat_map-below-more : {X : Type 0} (f : ℕ → List X) (n : ℕ) →
    flat_map f (numbers_below (n + 1)) ≡ flat_map f (numbers_below n) ++ f n
flat_map-below-more f n = ap (λ k. flat_map f (numbers_below k)) (add-one n) ∙ ap (flat_map f) (numbers_below-suc n)
    ∙ flat_map-append f (numbers_below n) (n ∷ [])
    ∙ ap (λ xs. flat_map f (numbers_below n) ++ xs) (append-nil (f n))

pub vector-reached : (g : Group) (known : List (Signed Body)) (j reach : ℕ) → Reaches (certified g known j) reach →
    reach ≡ vector g known j
unfolding vector
vector-reached g known j reach reached =
    sym (run-length (λ k. certified g known j k) 1 most_number reach reached.limit
    (λ k low high. reached.without_gap k low (omega arith))
    (λ less. let e : 1 + reach ≡ suc reach = omega arith in ap (certified g known j) e ∙ reached.stops less))

pub vector-limit : (g : Group) (known : List (Signed Body)) (j : ℕ) → vector g known j ≤ most_number
unfolding vector
vector-limit g known j = length-run_from (λ k. certified g known j k) 1 most_number
