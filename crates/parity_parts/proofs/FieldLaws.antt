-- The laws of the field that interpolation needs. Products are sums of shifted copies, and so linear on both sides, and
-- as shifts are linear, two products by different elements may be taken in either order. What is left, that the
-- inverses that are kept in a table are inverses and that 1 is neutral, is computed for each element.
use Rattle.std.proofs.Common.{◌≡◌, ◌≢◌, ◌∙◌, ◌<◌, ◌≤◌, ◌+◌, ◌-◌, ◌*◌, ◌/◌, ◌%◌, ◌^◌, ◌==◌, ◌&&◌, ℕ, zero, suc, Bool}
use Rattle.std.proofs.Common.{true, false, refl, sym, ap, ap₂, arith, bit_xor, true≢false, eqb-true, eq-eqb, ◌||◌}
use Rattle.std.proofs.Common.{ne_eqb, ltb-true, nat_lt}
use lib.Bits.{xor_assoc, xor_self, xor_zero_r, xor_zero_l, xor_block, xor_lt}
use Rattle.std.proofs.lemmas.Nat.{xor_comm, xor_mod, xor_shr}
use Rattle.std.proofs.lemmas.Bool.{and_parts}
use Rattle.parity_parts.specs.Field.{inverse, times_x, product_by, product}

-- ---- Sums.

-- two sums of two, taken the other way
pub xor_swap : (a b c d : ℕ) → bit_xor (bit_xor a b) (bit_xor c d) ≡ bit_xor (bit_xor a c) (bit_xor b d)
xor_swap a b c d = xor_assoc a b (bit_xor c d)
    ∙ ap (bit_xor a) (sym (xor_assoc b c d) ∙ ap (λ z. bit_xor z d) (xor_comm b c) ∙ xor_assoc c b d)
    ∙ sym (xor_assoc a c (bit_xor b d))

-- what is added twice is gone
pub xor_twice : (a b : ℕ) → bit_xor a (bit_xor a b) ≡ b
xor_twice a b = sym (xor_assoc a a b) ∙ ap (λ z. bit_xor z b) (xor_self a) ∙ xor_zero_l b

-- ---- Shifts are linear.

doubled : (a b : ℕ) → bit_xor a b * 2 ≡ bit_xor (a * 2) (b * 2)
doubled a b =
    let joined = xor_block 1 a b 0 0 (omega arith) (omega arith) in
    let first : a * 2 ^ 1 + 0 ≡ a * 2 = omega arith in
    let second : b * 2 ^ 1 + 0 ≡ b * 2 = omega arith in
    let whole : bit_xor a b * 2 ≡ bit_xor a b * 2 ^ 1 + bit_xor 0 0 = omega arith in
    whole ∙ sym joined ∙ ap₂ bit_xor first second

-- a bit times 29
parted : (s t : ℕ) → s < 2 → t < 2 → bit_xor s t * 29 ≡ bit_xor (s * 29) (t * 29)
parted zero t hs ht = ap (λ z. z * 29) (xor_zero_l t) ∙ sym (xor_zero_l (t * 29))
parted (suc zero) zero hs ht = refl
parted (suc zero) (suc zero) hs ht = refl
parted (suc zero) (suc (suc t)) hs ht = absurd (omega arith)
parted (suc (suc s)) t hs ht = absurd (omega arith)

pub times_x_sum : (a b : ℕ) → a < 256 → b < 256 → times_x (bit_xor a b) ≡ bit_xor (times_x a) (times_x b)
unfolding times_x
times_x_sum a b ha hb =
    ap₂ (λ low high. bit_xor (low * 2) (high * 29)) (xor_mod a b 7) (xor_shr a b 7)
    ∙ ap₂ bit_xor (doubled (a % 128) (b % 128)) (parted (a / 128) (b / 128) (omega arith) (omega arith))
    ∙ xor_swap ((a % 128) * 2) ((b % 128) * 2) ((a / 128) * 29) ((b / 128) * 29)

pub times_x_byte : (a : ℕ) → a < 256 → times_x a < 256
unfolding times_x
times_x_byte a h = xor_lt 8 ((a % 128) * 2) ((a / 128) * 29) (omega arith) (omega arith)

-- ---- A bit times an element.

bit_sum : (s b c : ℕ) → s < 2 → s * bit_xor b c ≡ bit_xor (s * b) (s * c)
bit_sum zero b c h =
    let left : 0 * bit_xor b c ≡ 0 = omega arith in
    let first : 0 * b ≡ 0 = omega arith in
    let second : 0 * c ≡ 0 = omega arith in
    left ∙ sym (ap₂ bit_xor first second)
bit_sum (suc zero) b c h =
    let left : 1 * bit_xor b c ≡ bit_xor b c = omega arith in
    let first : 1 * b ≡ b = omega arith in
    let second : 1 * c ≡ c = omega arith in
    left ∙ sym (ap₂ bit_xor first second)
bit_sum (suc (suc s)) b c h = absurd (omega arith)

bits_sum : (s t b : ℕ) → s < 2 → t < 2 → bit_xor s t * b ≡ bit_xor (s * b) (t * b)
bits_sum zero t b hs ht =
    let none : 0 * b ≡ 0 = omega arith in
    ap (λ z. z * b) (xor_zero_l t) ∙ sym (ap (λ z. bit_xor z (t * b)) none ∙ xor_zero_l (t * b))
bits_sum (suc zero) zero b hs ht =
    let none : 0 * b ≡ 0 = omega arith in
    sym (ap (λ z. bit_xor (1 * b) z) none ∙ xor_zero_r (1 * b))
bits_sum (suc zero) (suc zero) b hs ht =
    let none : 0 * b ≡ 0 = omega arith in
    none ∙ sym (xor_self (1 * b))
bits_sum (suc zero) (suc (suc t)) b hs ht = absurd (omega arith)
bits_sum (suc (suc s)) t b hs ht = absurd (omega arith)

bit_byte : (s b : ℕ) → s < 2 → b < 256 → s * b < 256
bit_byte zero b h hb = omega arith
bit_byte (suc zero) b h hb = omega arith
bit_byte (suc (suc s)) b h hb = absurd (omega arith)

-- a function that takes 0 to 0 may be taken before or after
bit_through : (f : ℕ → ℕ) (s b : ℕ) → s < 2 → f 0 ≡ 0 → s * f b ≡ f (s * b)
bit_through f zero b h none =
    let left : 0 * f b ≡ 0 = omega arith in
    let inside : 0 * b ≡ 0 = omega arith in
    left ∙ sym (ap f inside ∙ none)
bit_through f (suc zero) b h none =
    let left : 1 * f b ≡ f b = omega arith in
    let inside : 1 * b ≡ b = omega arith in
    left ∙ sym (ap f inside)
bit_through f (suc (suc s)) b h none = absurd (omega arith)

parity : (a : ℕ) → a % 2 < 2
parity a = omega arith

-- ---- Products are linear on both sides.

times_x_none : times_x 0 ≡ 0
unfolding times_x
times_x_none = refl

by_none : (k a : ℕ) → product_by k a 0 ≡ 0
unfolding product_by
by_none zero a = refl
by_none (suc k) a =
    let first : (a % 2) * 0 ≡ 0 = omega arith in
    ap₂ bit_xor first (ap (product_by k (a / 2)) times_x_none ∙ by_none k (a / 2))

by_byte : (k a b : ℕ) → b < 256 → product_by k a b < 256
unfolding product_by
by_byte zero a b h = omega arith
by_byte (suc k) a b h =
    xor_lt 8 ((a % 2) * b) (product_by k (a / 2) (times_x b)) (bit_byte (a % 2) b (parity a) h)
    (by_byte k (a / 2) (times_x b) (times_x_byte b h))

by_sum : (k a b c : ℕ) → b < 256 → c < 256
    → product_by k a (bit_xor b c) ≡ bit_xor (product_by k a b) (product_by k a c)
unfolding product_by
by_sum zero a b c hb hc = refl
by_sum (suc k) a b c hb hc =
    ap₂ bit_xor (bit_sum (a % 2) b c (parity a))
    (ap (product_by k (a / 2)) (times_x_sum b c hb hc)
    ∙ by_sum k (a / 2) (times_x b) (times_x c) (times_x_byte b hb) (times_x_byte c hc))
    ∙ xor_swap ((a % 2) * b) ((a % 2) * c) (product_by k (a / 2) (times_x b)) (product_by k (a / 2) (times_x c))

sum_by_bits : (k a b c : ℕ) → product_by k (bit_xor a b) c ≡ bit_xor (product_by k a c) (product_by k b c)
unfolding product_by
sum_by_bits zero a b c = refl
sum_by_bits (suc k) a b c =
    ap₂ bit_xor (ap (λ z. z * c) (xor_mod a b 1) ∙ bits_sum (a % 2) (b % 2) c (parity a) (parity b))
    (ap (λ z. product_by k z (times_x c)) (xor_shr a b 1) ∙ sum_by_bits k (a / 2) (b / 2) (times_x c))
    ∙ xor_swap ((a % 2) * c) ((b % 2) * c) (product_by k (a / 2) (times_x c)) (product_by k (b / 2) (times_x c))

by_shift : (k a b : ℕ) → b < 256 → product_by k a (times_x b) ≡ times_x (product_by k a b)
unfolding product_by
by_shift zero a b h = sym times_x_none
by_shift (suc k) a b h =
    ap₂ bit_xor (bit_through times_x (a % 2) b (parity a) times_x_none)
    (by_shift k (a / 2) (times_x b) (times_x_byte b h))
    ∙ sym (times_x_sum ((a % 2) * b) (product_by k (a / 2) (times_x b)) (bit_byte (a % 2) b (parity a) h)
    (by_byte k (a / 2) (times_x b) (times_x_byte b h)))

by_turned : (k j x y a : ℕ) → a < 256 → product_by k x (product_by j y a) ≡ product_by j y (product_by k x a)
unfolding product_by
by_turned zero j x y a h = sym (by_none j y)
by_turned (suc k) j x y a h =
    ap₂ bit_xor (bit_through (product_by j y) (x % 2) a (parity x) (by_none j y))
    (ap (product_by k (x / 2)) (sym (by_shift j y a h))
    ∙ by_turned k j (x / 2) y (times_x a) (times_x_byte a h))
    ∙ sym (by_sum j y ((x % 2) * a) (product_by k (x / 2) (times_x a)) (bit_byte (x % 2) a (parity x) h)
    (by_byte k (x / 2) (times_x a) (times_x_byte a h)))

-- ---- The same of whole products.

pub product_byte : (a b : ℕ) → b < 256 → product a b < 256
unfolding product
product_byte a b h = by_byte 8 a b h

pub product_none : (a : ℕ) → product a 0 ≡ 0
unfolding product
product_none a = by_none 8 a

pub product_sum : (a b c : ℕ) → b < 256 → c < 256 → product a (bit_xor b c) ≡ bit_xor (product a b) (product a c)
unfolding product
product_sum a b c hb hc = by_sum 8 a b c hb hc

pub sum_product : (a b c : ℕ) → product (bit_xor a b) c ≡ bit_xor (product a c) (product b c)
unfolding product
sum_product a b c = sum_by_bits 8 a b c

pub product_turned : (x y a : ℕ) → a < 256 → product x (product y a) ≡ product y (product x a)
unfolding product
product_turned x y a h = by_turned 8 8 x y a h

-- what is multiplied by a sum of an element with itself is gone
pub product_self : (x a : ℕ) → product (bit_xor x x) a ≡ 0
product_self x a = sum_product x x a ∙ xor_self (product x a)

-- ---- What is computed.

unfoldable all_below : ℕ → (ℕ → Bool) → Bool
all_below zero test = true
all_below (suc n) test = test n && all_below n test

below_at : (n : ℕ) (test : ℕ → Bool) (k : ℕ) → all_below n test ≡ true → k < n → test k ≡ true
unfolding all_below
below_at zero test k h below = absurd (omega arith)
below_at (suc n) test k h below =
    choose (k == n) refl (λ lower. below_at n test k (and_parts _ _ h).1 lower)
  where
    choose : (is_last : Bool) → (k == n) ≡ is_last → (k < n → test k ≡ true) → test k ≡ true
    choose true e before = ap test (eqb-true k n e) ∙ (and_parts _ _ h).0
    choose false e before =
        let other : k ≢ n = λ same. true≢false (sym (eq-eqb k n same) ∙ e) in
        before (omega arith)

one_is_neutral : all_below 256 (λ b. product b 1 == b) ≡ true
unfolding all_below product product_by times_x
one_is_neutral = refl

pub product_one : (b : ℕ) → b < 256 → product b 1 ≡ b
product_one b h = eqb-true _ _ (below_at 256 (λ b. product b 1 == b) b one_is_neutral h)

inverses_are : all_below 16 (λ a. a == 0 || (nat_lt (inverse a) 256 && product a (inverse a) == 1)) ≡ true
unfolding all_below product product_by times_x
inverses_are = refl

inverse_is : (a : ℕ) → a ≢ 0 → a < 16 → (inverse a < 256) × (product a (inverse a) ≡ 1)
inverse_is a some below =
    let test = below_at 16 (λ a. a == 0 || (nat_lt (inverse a) 256 && product a (inverse a) == 1)) a inverses_are
    below in
    let none : (a == 0) ≡ false = ne_eqb a 0 some in
    let both = and_parts _ _ (rw none at test) in
    (ltb-true _ _ both.0, eqb-true _ _ both.1)

-- each element is a product with 1, and products may be turned, so that the law at 1 is the law everywhere
pub inverse_after : (a b : ℕ) → a ≢ 0 → a < 16 → b < 256 → product a (product (inverse a) b) ≡ b
inverse_after a b some below h =
    let is = inverse_is a some below in
    ap (λ z. product a (product (inverse a) z)) (sym (product_one b h))
    ∙ ap (product a) (product_turned (inverse a) b 1 (omega arith))
    ∙ product_turned a b (product (inverse a) 1) (product_byte (inverse a) 1 (omega arith))
    ∙ ap (λ z. product b (product a z)) (product_one (inverse a) is.0)
    ∙ ap (product b) is.1
    ∙ product_one b h

pub inverse_before : (a b : ℕ) → a ≢ 0 → a < 16 → b < 256 → product (inverse a) (product a b) ≡ b
inverse_before a b some below h = product_turned (inverse a) a b h ∙ inverse_after a b some below h

-- the sum of two different elements isn't 0
pub sum_of_different : (a b : ℕ) → a ≢ b → bit_xor a b ≢ 0
sum_of_different a b differ none =
    differ (sym (xor_zero_r a) ∙ ap (bit_xor a) (sym none) ∙ xor_twice a b)

-- ---- The rounds of a product's loop.

pub first_round : (a b : ℕ) → bit_xor 0 (product_by 8 a b) ≡ product a b
unfolding product
first_round a b = xor_zero_l (product_by 8 a b)

pub next_round : (i sum left copy whole next : ℕ) → i < 8 → bit_xor sum (product_by (8 - i) left copy) ≡ whole
    → next ≡ times_x copy
    → bit_xor (bit_xor sum ((left % 2) * copy)) (product_by (8 - (i + 1)) (left / 2) next) ≡ whole
unfolding product_by
next_round i sum left copy whole next below is shift =
    let k : ℕ = 8 - (i + 1) in
    let rounds : 8 - i ≡ suc k = omega arith in
    let known : bit_xor sum (product_by (suc k) left copy) ≡ whole =
    ap (λ n. bit_xor sum (product_by n left copy)) (sym rounds) ∙ is in
    ap (λ z. bit_xor (bit_xor sum ((left % 2) * copy)) (product_by k (left / 2) z)) shift
    ∙ xor_assoc sum ((left % 2) * copy) (product_by k (left / 2) (times_x copy)) ∙ known

pub last_round : (i sum left copy whole : ℕ) → 8 ≤ i → bit_xor sum (product_by (8 - i) left copy) ≡ whole → sum ≡
    whole
unfolding product_by
last_round i sum left copy whole over is =
    let none : 8 - i ≡ 0 = omega arith in
    sym (xor_zero_r sum) ∙ ap (λ n. bit_xor sum (product_by n left copy)) (sym none) ∙ is
