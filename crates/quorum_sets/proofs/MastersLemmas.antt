-- Laws of `voters`: one number more, equal tests, membership, and the intersection of two quorums.
use Rattle.std.proofs.Common.{◌≡◌, ℕ, ◌+◌, ◌<◌, ◌≤◌, zero, suc, Bool, true, false, cond, ◌||◌, ◌&&◌, List, [], ◌∷◌}
use Rattle.std.proofs.Common.{◌++◌, nat_eq, nat_lt, filter, length, refl, sym, ◌∙◌, ap, subst, inl, inr, ◌⊎◌, arith}
use Rattle.std.proofs.Common.{length-append, add-one}
use Rattle.std.specs.List.{list_any}
use Rattle.std.proofs.lemmas.List.Elements.{filter-append}
use Rattle.std.proofs.lemmas.List.Folds.{list_any-append}
use mir.Val.{bool_byte}
use Rattle.std.proofs.Common.{get_or, set, get_or-set_same, get_or-set_other}
use Rattle.std.proofs.Math.Bool.{or-false, and-true}
use Rattle.std.proofs.lemmas.Bool.{le-ltb, lt-ltb, eq-eqb, ne_eqb, cases_lt, cases_eq, and_right}
use Rattle.quorum_sets.specs.Masters.{numbers_below, has_master, voters, with_master}

pub numbers_below-suc : (n : ℕ) → numbers_below (suc n) ≡ numbers_below n ++ n ∷ []
unfolding numbers_below
numbers_below-suc n = refl

pub voters-suc : (t : ℕ → Bool) (n : ℕ) → voters t (suc n) ≡ voters t n ++ cond (t n) (n ∷ []) []
voters-suc t n = ap (filter t) (numbers_below-suc n) ∙ filter-append t (numbers_below n) (n ∷ [])

pub voters-zero : (t : ℕ → Bool) → voters t 0 ≡ []
unfolding numbers_below
voters-zero t = refl

pub length-voters-suc : (t : ℕ → Bool) (n : ℕ) → length (voters t (suc n)) ≡ length (voters t n) + cond (t n) 1 0
length-voters-suc t n = ap length (voters-suc t n) ∙ length-append (voters t n) (cond (t n) (n ∷ []) [])
    ∙ ap (λ k. length (voters t n) + k) (length_bit (t n))
  where
    length_bit : (b : Bool) → length (cond b (n ∷ []) []) ≡ cond b 1 0
    length_bit true = refl
    length_bit false = refl

-- tests that agree below n have the same voters
pub voters_same : (s t : ℕ → Bool) (n : ℕ) → ((x : ℕ) → x < n → s x ≡ t x) → voters s n ≡ voters t n
voters_same s t zero h = voters-zero s ∙ sym (voters-zero t)
voters_same s t (suc n) h =
    let less : voters s n ≡ voters t n = voters_same s t n (λ x lt. h x (omega arith)) in
    let here : s n ≡ t n = h n (omega arith) in
    voters-suc s n ∙ ap (λ xs. xs ++ cond (s n) (n ∷ []) []) less ∙ ap (λ b. voters t n ++ cond b (n ∷ []) []) here
    ∙ sym (voters-suc t n)

pub voters_none : (n : ℕ) → voters (λ _. false) n ≡ []
voters_none zero = voters-zero (λ _. false)
voters_none (suc n) = voters-suc (λ _. false) n ∙ ap (λ xs. xs ++ []) (voters_none n)

nat_lt-self : (n : ℕ) → nat_lt n n ≡ false
nat_lt-self n = le-ltb n n (omega arith)

nat_lt-suc_self : (n : ℕ) → nat_lt n (suc n) ≡ true
nat_lt-suc_self n = lt-ltb n (suc n) (omega arith)

nat_lt-suc_other : (n m : ℕ) → (n ≡ m → ⊥) → nat_lt m (suc n) ≡ nat_lt m n
nat_lt-suc_other n m ne = by_order (cases_lt m n)
  where
    by_order : (m < n) ⊎ (n ≤ m) → nat_lt m (suc n) ≡ nat_lt m n
    by_order (inl lt) = lt-ltb m (suc n) (omega arith) ∙ sym (lt-ltb m n lt)
    by_order (inr le) = le-ltb m (suc n) (above (cases_eq n m)) ∙ sym (le-ltb m n le)
      where
        above : (n ≡ m) ⊎ (n ≡ m → ⊥) → suc n ≤ m
        above (inl e) = absurd (ne e)
        above (inr other) = omega arith

has_here : (b : Bool) (n : ℕ) →
    ((b && nat_lt n n) || list_any (λ x. nat_eq x n) (cond b (n ∷ []) [])) ≡ (b && nat_lt n (suc n))
has_here true n = ap (λ v. v || (nat_eq n n || false)) (nat_lt-self n) ∙ ap (λ v. v || false) (eq-eqb n n refl)
    ∙ sym (nat_lt-suc_self n)
has_here false n = refl

has_apart : (b c : Bool) (n m : ℕ) → (n ≡ m → ⊥) →
    ((b && nat_lt m n) || list_any (λ x. nat_eq x m) (cond c (n ∷ []) [])) ≡ (b && nat_lt m (suc n))
has_apart b true n m ne = ap (λ v. (b && nat_lt m n) || (v || false)) (ne_eqb n m ne) ∙ or-false (b && nat_lt m n)
    ∙ ap (λ v. b && v) (sym (nat_lt-suc_other n m ne))
has_apart b false n m ne = or-false (b && nat_lt m n) ∙ ap (λ v. b && v) (sym (nat_lt-suc_other n m ne))

-- a master is among the voters where it passes and is below n
pub has_master-voters : (t : ℕ → Bool) (n m : ℕ) → has_master (voters t n) m ≡ (t m && nat_lt m n)
has_master-voters t zero m = ap (λ xs. has_master xs m) (voters-zero t)
    ∙ sym (and_right (t m) (nat_lt m 0) (le-ltb m 0 (omega arith)))
has_master-voters t (suc n) m =
    ap (λ xs. has_master xs m) (voters-suc t n) ∙ list_any-append (λ x. nat_eq x m)
    (voters t n) (cond (t n) (n ∷ []) [])
    ∙ ap (λ b. b || list_any (λ x. nat_eq x m) (cond (t n) (n ∷ []) [])) (has_master-voters t n m) ∙ last (cases_eq n m)
  where
    last : (n ≡ m) ⊎ (n ≡ m → ⊥) →
        ((t m && nat_lt m n) || list_any (λ x. nat_eq x m) (cond (t n) (n ∷ []) [])) ≡ (t m && nat_lt m (suc n))
    last (inl e) = subst (λ (k : ℕ). ((t k && nat_lt k n) || list_any (λ x. nat_eq x k) (cond (t n) (n ∷ []) [])) ≡
        (t k && nat_lt k (suc n))) e (has_here (t n) n)
    last (inr ne) = has_apart (t m) (t n) n m ne

-- below n, membership of the voters is the test
pub has_master-voters_below : (t : ℕ → Bool) (n x : ℕ) → x < n → has_master (voters t n) x ≡ t x
has_master-voters_below t n x lt = has_master-voters t n x ∙ ap (λ b. t x && b) (lt-ltb x n lt) ∙ and-true (t x)

-- the voters among the voters, of fewer numbers or as many
pub voters-again : (t : ℕ → Bool) (n m : ℕ) → m ≤ n → voters (has_master (voters t n)) m ≡ voters t m
voters-again t n m le = voters_same (has_master (voters t n)) t m (λ x lt. has_master-voters_below t n x (omega arith))

-- two sets below n share at least what they are too many for n
pub voters_meet : (s t : ℕ → Bool) (n : ℕ) → length (voters s n) + length (voters t n) ≤ n + length
    (voters (λ x. s x && t x) n)
voters_meet s t zero = rw (voters-zero s, voters-zero t) (omega arith)
voters_meet s t (suc n) =
    let less : length (voters s n) + length (voters t n) ≤ n + length (voters (λ x. s x && t x) n) =
    voters_meet s t n in
    rw (length-voters-suc s n, length-voters-suc t n, length-voters-suc (λ x. s x && t x) n) (bits (s n) (t n) less)
  where
    bits : (a b : Bool) → length (voters s n) + length (voters t n) ≤ n + length (voters (λ x. s x && t x) n) →
        length (voters s n) + cond a 1 0 + (length (voters t n) + cond b 1 0) ≤ suc
        n + (length (voters (λ x. s x && t x) n) + cond (a && b) 1 0)
    bits true true h = omega arith
    bits true false h = omega arith
    bits false true h = omega arith
    bits false false h = omega arith

-- there are no more voters than numbers
pub length-voters-le : (t : ℕ → Bool) (n : ℕ) → length (voters t n) ≤ n
length-voters-le t zero = rw (voters-zero t) (omega arith)
length-voters-le t (suc n) =
    let less : length (voters t n) ≤ n = length-voters-le t n in
    rw (length-voters-suc t n) (bit (t n) less)
  where
    bit : (b : Bool) → length (voters t n) ≤ n → length (voters t n) + cond b 1 0 ≤ suc n
    bit true h = omega arith
    bit false h = omega arith

pub bool_byte-cond : (b : Bool) → bool_byte b ≡ cond b 1 0
bool_byte-cond true = refl
bool_byte-cond false = refl

-- the steps of a loop that counts the numbers that pass a test
pub count_start : (t : ℕ → Bool) → 0 ≡ length (voters t 0)
count_start t = rw (voters-zero t)

pub count_step : (t : ℕ → Bool) (n count bit : ℕ) → count ≡ length (voters t n) → bit ≡ bool_byte (t n) →
    count + bit ≡ length (voters t (n + 1))
count_step t n count bit so_far one =
    ap (λ k. k + bit) so_far ∙ ap (λ k. length (voters t n) + k) (one ∙ bool_byte-cond (t n))
    ∙ sym (length-voters-suc t n) ∙ ap (λ k. length (voters t k)) (sym (add-one n))

pub count_fits : (t : ℕ → Bool) (n count bit : ℕ) → count ≡ length (voters t n) → bit ≡ bool_byte (t n) →
    n < 14 → count + bit < 16
count_fits t n count bit so_far one below =
    let few : length (voters t n) ≤ n = length-voters-le t n in
    let small : bool_byte (t n) ≤ 1 = by_bit (t n) in
    omega arith
  where
    by_bit : (b : Bool) → bool_byte b ≤ 1
    by_bit true = omega arith
    by_bit false = omega arith

-- marking one master in an array of marks adds it to the set that the array stands for
pub voters-marked : (marked : List Bool) (m : ℕ) → length marked ≡ 14 → m < 14 →
    voters (λ x. get_or (set marked m true) x false) 14 ≡ with_master (voters (λ x. get_or marked x false) 14) m
voters-marked marked m len lt = voters_same (λ x. get_or (set marked m true) x false)
    (λ x. nat_eq x m || has_master old x) 14 (λ x below. at x below (cases_eq x m))
  where
    old : List ℕ
    old = voters (λ x. get_or marked x false) 14

    at : (x : ℕ) → x < 14 → (x ≡ m) ⊎ (x ≡ m → ⊥) →
        get_or (set marked m true) x false ≡ (nat_eq x m || has_master (voters (λ x. get_or marked x false) 14) x)
    at x below (inl e) =
        let within : m < length marked = omega arith in
        subst (λ (k : ℕ). get_or (set marked m true)
        k false ≡ (nat_eq k m || has_master (voters (λ x. get_or marked x false) 14) k)) (sym e)
        (get_or-set_same marked m true false within
        ∙ sym (ap (λ b. b || has_master (voters (λ x. get_or marked x false) 14) m) (eq-eqb m m refl)))
    at x below (inr ne) = get_or-set_other marked m x true false ne
        ∙ sym (ap (λ b. b || has_master (voters (λ x. get_or marked x false) 14) x) (ne_eqb x m ne)
        ∙ has_master-voters_below (λ x. get_or marked x false) 14 x below)

pub at_most_one : (b : Bool) → cond b 1 0 ≤ 1
at_most_one true = omega arith
at_most_one false = omega arith
