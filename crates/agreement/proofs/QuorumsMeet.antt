-- Quorums meet, and lists of rising signers are as many masters.
use Rattle.std.proofs.Common.{◌≡◌, ℕ, ◌+◌, ◌*◌, ◌<◌, ◌≤◌, zero, suc, Bool, true, false, cond, ◌||◌, ◌&&◌, List, []}
use Rattle.std.proofs.Common.{◌∷◌, ◌++◌, nat_eq, nat_lt, take, length, refl, sym, ◌∙◌, ap, subst, inl, inr, ◌⊎◌}
use Rattle.std.proofs.Common.{arith, Option, Some, None}
use Rattle.std.specs.List.{filter_map, cons_option}
use Rattle.std.proofs.lemmas.Bool.{and_parts, eqb-true, eq-eqb, ne_eqb, cases_eq, false_from_ne_true, ltb-true}
use Rattle.std.proofs.lemmas.List.{append-nil, map-append}
use Rattle.std.proofs.lemmas.List.Elements.{filter_map-append}
use Rattle.plain_lists.specs.Lists.{IsIn, here, there, Each}
use Rattle.plain_lists.proofs.Members.{in_take, none_in, in_cons_cases, in_cases, each_none, any_from}
use Rattle.quorum_sets.specs.Masters.{numbers_below, has_master, voters}
use Rattle.quorum_sets.proofs.MastersLemmas.{length-voters-suc, voters-zero, voters_meet, voters_same}
use Rattle.message_types.specs.declared.signed.Signed.{Signed}
use Rattle.message_types.specs.Spelling.{is_rising, signers_of}
use Rattle.protocol_rules.specs.Group.{Group}
use Rattle.agreement.specs.Laws.{HasSizes}

-- more of s than of b: one of s that isn't of b
pub voter_beyond : (s b : ℕ → Bool) (n : ℕ) → length (voters b n) < length (voters s n) →
    (m : ℕ) × (m < n) × (s m ≡ true) × (b m ≡ false)
voter_beyond s b zero h =
    let none_s : length (voters s 0) ≡ 0 = ap length (voters-zero s) in
    let none_b : length (voters b 0) ≡ 0 = ap length (voters-zero b) in
    absurd (omega arith)
voter_beyond s b (suc n) h =
    let one_s : length (voters s (suc n)) ≡ length (voters s n) + cond (s n) 1 0 = length-voters-suc s n in
    let one_b : length (voters b (suc n)) ≡ length (voters b n) + cond (b n) 1 0 = length-voters-suc b n in
    by_last (s n) (b n) refl refl (omega arith) (λ less. let found = voter_beyond s b n less in
    (found.0, omega arith, found.2, found.3))
  where
    by_last : (x y : Bool) → s n ≡ x → b n ≡ y → length (voters b n) + cond y 1 0 < length (voters s n) + cond x 1 0
        → (length (voters b n) < length (voters s n) → (m : ℕ) × (m < suc n) × (s m ≡ true) × (b m ≡ false))
        → (m : ℕ) × (m < suc n) × (s m ≡ true) × (b m ≡ false)
    by_last true false p q less deeper = (n, omega arith, p, q)
    by_last true true p q less deeper = deeper (omega arith)
    by_last false true p q less deeper = deeper (omega arith)
    by_last false false p q less deeper = deeper (omega arith)

-- two quorums share one that isn't intruded
pub meet_at : (g : Group) (s t b : ℕ → Bool) → HasSizes g
    → g.q ≤ length (voters s g.n) → g.q ≤ length (voters t g.n) → length (voters b g.n) ≤ g.f
    → (m : ℕ) × (m < g.n) × (s m ≡ true) × (t m ≡ true) × (b m ≡ false)
meet_at g s t b sizes p q few =
    let all : g.n ≡ 3 * g.f + 2 * g.k + 1 = sizes.all in
    let quorum : g.q ≡ 2 * g.f + g.k + 1 = sizes.quorum in
    let both : length (voters s g.n) + length (voters t g.n) ≤ g.n + length (voters (λ x. s x && t x) g.n) =
    voters_meet s t g.n in
    let found = voter_beyond (λ x. s x && t x) b g.n (omega arith) in
    let parts = and_parts (s found.0) (t found.0) found.2 in
    (found.0, found.1, parts.0, parts.1, found.3)

-- each number is below those behind it
abbrev pub Rising : List ℕ → Type 0
Rising [] = Unit {0}
Rising (x ∷ xs) = Each (λ y. x < y) xs × Rising xs

rising_head : (x : ℕ) (xs : List ℕ) → is_rising (x ∷ xs) ≡ true → Each (λ y. x < y) xs
rising_head x [] h y k = absurd (none_in k)
rising_head x (z ∷ zs) h y k =
    let parts = and_parts (nat_lt x z) (is_rising (z ∷ zs)) h in
    let less : x < z = ltb-true x z parts.0 in
    elim (in_cons_cases k) [
      | inl e ↦ subst (λ (v : ℕ). x < v) (sym e) less
      | inr later ↦ let above : z < y = rising_head z zs parts.1 y later in omega arith
    ]

rising_tail : (x : ℕ) (xs : List ℕ) → is_rising (x ∷ xs) ≡ true → is_rising xs ≡ true
rising_tail x [] h = refl
rising_tail x (z ∷ zs) h = (and_parts (nat_lt x z) (is_rising (z ∷ zs)) h).1

pub rising_from : (xs : List ℕ) → is_rising xs ≡ true → Rising xs
rising_from [] h = tt
rising_from (x ∷ xs) h = (rising_head x xs h, rising_from xs (rising_tail x xs h))

pub rising_take : (n : ℕ) (xs : List ℕ) → Rising xs → Rising (take n xs)
rising_take zero xs h = tt
rising_take (suc n) [] h = tt
rising_take (suc n) (x ∷ xs) h = ((λ y k. h.0 y (in_take n xs k)), rising_take n xs h.1)

pub rising_snoc : (xs : List ℕ) (x : ℕ) → Rising xs → Each (λ y. y < x) xs → Rising (xs ++ x ∷ [])
rising_snoc [] x h below = (each_none (λ y. x < y), tt)
rising_snoc (z ∷ zs) x h below = (
  (λ y k. elim (in_cases zs k) [
    | inl in_zs ↦ h.0 y in_zs
    | inr last ↦ elim (in_cons_cases last) [
      | inl e ↦ subst (λ (v : ℕ). z < v) (sym e) (below z (here zs))
      | inr none ↦ absurd (none_in none)
    ]
  ]),
  rising_snoc zs x h.1 (λ y k. below y (there z zs k)),
)

abbrev bit : Bool → ℕ
bit b = cond b 1 0

-- one more voter
count_more : (x n : ℕ) (t : ℕ → Bool) → x < n → t x ≡ false →
    length (voters (λ m. nat_eq x m || t m) n) ≡ suc (length (voters t n))
count_more x zero t lt not_x = absurd (omega arith)
count_more x (suc n) t lt not_x =
    let one : length (voters (λ m. nat_eq x m || t m) (suc n)) ≡ length (voters (λ m. nat_eq x m || t m) n) + bit
    (nat_eq x n || t n) = length-voters-suc (λ m. nat_eq x m || t m) n in
    let other : length (voters t (suc n)) ≡ length (voters t n) + bit (t n) = length-voters-suc t n in
    by_last (cases_eq x n) one other (λ less. count_more x n t less not_x)
  where
    by_last : (x ≡ n) ⊎ (x ≡ n → ⊥)
        → length (voters (λ m. nat_eq x m || t m) (suc n)) ≡ length (voters (λ m. nat_eq x m || t m) n) + bit
        (nat_eq x n || t n)
        → length (voters t (suc n)) ≡ length (voters t n) + bit (t n)
        → (x < n → length (voters (λ m. nat_eq x m || t m) n) ≡ suc (length (voters t n)))
        → length (voters (λ m. nat_eq x m || t m) (suc n)) ≡ suc (length (voters t (suc n)))
    by_last (inl e) one other deeper =
        let here_bit : bit (nat_eq x n || t n) ≡ 1 = ap (λ b. bit (b || t n)) (eq-eqb x n e) in
        let other_bit : bit (t n) ≡ 0 = ap bit (ap t (sym e) ∙ not_x) in
        let below : length (voters (λ m. nat_eq x m || t m) n) ≡ length (voters t n) =
        ap length (voters_same (λ m. nat_eq x m || t m) t n
        (λ m lt. ap (λ b. b || t m) (ne_eqb x m (λ same. let a : n ≡ m = sym e ∙ same in omega arith)))) in
        omega arith
    by_last (inr ne) one other deeper =
        let same_bit : bit (nat_eq x n || t n) ≡ bit (t n) = ap (λ b. bit (b || t n)) (ne_eqb x n ne) in
        let more : length (voters (λ m. nat_eq x m || t m) n) ≡ suc (length (voters t n)) = deeper (omega arith) in
        omega arith

pub rising_counts : (xs : List ℕ) (n : ℕ) → Rising xs → Each (λ x. x < n) xs →
    length xs ≤ length (voters (has_master xs) n)
rising_counts [] n h below = omega arith
rising_counts (x ∷ xs) n h below =
    let less : length xs ≤ length (voters (has_master xs) n) = rising_counts xs n h.1 (λ y k. below y (there x xs k)) in
    let more : length (voters (λ m. nat_eq x m || has_master xs m) n) ≡ suc (length (voters (has_master xs) n)) =
    count_more x n (has_master xs) (below x (here xs)) (false_from_ne_true (has_master xs x) (λ has.
    let found = any_from (λ y. nat_eq y x) xs has in
    let same : found.0 ≡ x = eqb-true found.0 x found.2 in
    let above : x < found.0 = h.0 found.0 found.1 in
    omega arith)) in
    omega arith

pub below_from : (n x : ℕ) → IsIn x (numbers_below n) → x < n
unfolding numbers_below
below_from zero x h = absurd (none_in h)
below_from (suc n) x h = elim (in_cases (numbers_below n) h) [
  | inl k ↦ let less : x < n = below_from n x k in omega arith
  | inr last ↦ elim (in_cons_cases last) [ inl e ↦ omega arith | inr none ↦ absurd (none_in none) ]
]

signers_kept : {B : Type 0} (xs : List (Signed B)) (n : ℕ) → Rising (signers_of xs) → Each (λ y. y < n) (signers_of xs)
    → Rising (signers_of (xs ++ [])) × Each (λ y. y < suc n) (signers_of (xs ++ []))
signers_kept {B} xs n rising below =
    subst (λ (ys : List (Signed B)). Rising (signers_of ys) × Each (λ y. y < suc n) (signers_of ys))
    (sym (append-nil xs))
    (rising, λ y k. let less : y < n = below y k in omega arith)

signers_more : {B : Type 0} (xs : List (Signed B)) (x : Signed B) (n : ℕ) → Rising (signers_of xs) →
    Each (λ y. y < n) (signers_of xs) → x.signer ≡ n
    → Rising (signers_of (xs ++ x ∷ [])) × Each (λ y. y < suc n) (signers_of (xs ++ x ∷ []))
signers_more xs x n rising below at =
    let split : signers_of (xs ++ x ∷ []) ≡ signers_of xs ++ x.signer ∷ [] = map-append (λ f. f.signer) xs (x ∷ []) in
    subst (λ (ys : List ℕ). Rising ys × Each (λ y. y < suc n) ys) (sym split) (
      rising_snoc (signers_of xs) x.signer rising (λ y k. let less : y < n = below y k in omega arith),
      λ y k. elim (in_cases (signers_of xs) k) [
        | inl earlier ↦ let less : y < n = below y earlier in omega arith
        | inr last ↦ elim (in_cons_cases last) [ inl e ↦ omega arith | inr none ↦ absurd (none_in none) ]
      ],
    )

-- what each master has one of at most, master by master, has rising signers
pub rising_by_master : {B : Type 0} (f : ℕ → Option (Signed B)) →
    ((m : ℕ) (x : Signed B) → f m ≡ Some x → x.signer ≡ m) → (n : ℕ)
    → Rising (signers_of (filter_map f (numbers_below n)))
    × Each (λ y. y < n) (signers_of (filter_map f (numbers_below n)))
unfolding numbers_below
rising_by_master f own zero = (tt, each_none (λ y. y < 0))
rising_by_master {B} f own (suc n) =
    let less = rising_by_master f own n in
    let split : filter_map f (numbers_below n ++ n ∷ []) ≡ filter_map f (numbers_below n) ++ filter_map f (n ∷ []) =
    filter_map-append f (numbers_below n) (n ∷ []) in
    subst (λ (xs : List (Signed B)). Rising (signers_of xs) × Each (λ y. y < suc n) (signers_of xs)) (sym split)
    (by_last (f n) refl less.0 less.1)
  where
    by_last : (o : Option (Signed B)) → f n ≡ o → Rising (signers_of (filter_map f (numbers_below n))) →
        Each (λ y. y < n) (signers_of (filter_map f (numbers_below n)))
        → Rising (signers_of (filter_map f (numbers_below n) ++ cons_option o []))
        × Each (λ y. y < suc n) (signers_of (filter_map f (numbers_below n) ++ cons_option o []))
    by_last None e rising below = signers_kept (filter_map f (numbers_below n)) n rising below
    by_last (Some x) e rising below = signers_more (filter_map f (numbers_below n)) x n rising below (own n x e)
