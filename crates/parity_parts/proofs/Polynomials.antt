-- Interpolation is exact: the polynomial that it gives takes the values at the points, and no other of its length does.
-- Both are by induction on the points: a polynomial is y + (X + x) Q with y its value at x, and Q takes the quotients
-- at the other points exactly where the whole takes the values.
use Rattle.std.proofs.Common.{◌≡◌, ◌≢◌, ◌∙◌, ◌<◌, ℕ, List, [], ◌∷◌, length, map, refl, sym, ap}
use Rattle.std.proofs.Common.{ap₂}
use Rattle.std.proofs.Common.{arith, bit_xor}
use lib.Bits.{xor_assoc, xor_zero_r, xor_lt}
use Rattle.std.proofs.lemmas.Nat.{xor_comm}
use Rattle.parity_parts.specs.Field.{inverse, product, value}
use Rattle.parity_parts.specs.Interpolation.{interpolated, quotients, raised}
use Rattle.parity_parts.specs.Parts.{AreBytes, AreDifferent, AreSmall, DiffersFrom}
use Rattle.parity_parts.proofs.FieldLaws.{inverse_after, inverse_before, product_byte, product_none, product_self}
use Rattle.parity_parts.proofs.FieldLaws.{product_sum, product_turned, sum_of_different, sum_product, xor_twice}

pub value_byte : (cs : List ℕ) (x : ℕ) → AreBytes cs → value cs x < 256
value_byte [] x h = omega arith
value_byte (c ∷ cs) x h = xor_lt 8 c (product x (value cs x)) h.0 (product_byte x (value cs x) (value_byte cs x h.1))

pub raised_bytes : (x y : ℕ) (qs : List ℕ) → y < 256 → AreBytes qs → AreBytes (raised x y qs)
raised_bytes x y [] h hs = (h, tt)
raised_bytes x y (q ∷ qs) h hs =
    (xor_lt 8 y (product x q) h (product_byte x q hs.0), raised_bytes x q qs hs.0 hs.1)

pub quotients_bytes : (x y : ℕ) (us vs : List ℕ) → y < 256 → AreBytes vs → AreBytes (quotients x y us vs)
quotients_bytes x y [] vs h hs = tt
quotients_bytes x y (u ∷ us) [] h hs = tt
quotients_bytes x y (u ∷ us) (v ∷ vs) h hs =
    (product_byte (inverse (bit_xor u x)) (bit_xor v y) (xor_lt 8 v y hs.0 h), quotients_bytes x y us vs h hs.1)

pub interpolated_bytes : (xs ys : List ℕ) → AreBytes ys → AreBytes (interpolated xs ys)
interpolated_bytes [] ys h = tt
interpolated_bytes (x ∷ xs) [] h = tt
interpolated_bytes (x ∷ xs) (y ∷ ys) h =
    raised_bytes x y (interpolated xs (quotients x y xs ys)) h.0
    (interpolated_bytes xs (quotients x y xs ys) (quotients_bytes x y xs ys h.0 h.1))

-- ---- The value of y + (X + x) Q.

xor_left : (a b c : ℕ) → bit_xor a (bit_xor b c) ≡ bit_xor b (bit_xor a c)
xor_left a b c = sym (xor_assoc a b c) ∙ ap (λ z. bit_xor z c) (xor_comm a b) ∙ xor_assoc b a c

-- (y + a) + (b + t) is y + ((b + a) + t)
regroup : (y a b t : ℕ) → bit_xor (bit_xor y a) (bit_xor b t) ≡ bit_xor y (bit_xor (bit_xor b a) t)
regroup y a b t =
    xor_assoc y a (bit_xor b t) ∙ ap (bit_xor y) (xor_left a b t ∙ sym (xor_assoc b a t))

pub raised_value : (x y : ℕ) (qs : List ℕ) (z : ℕ) → AreBytes qs
    → value (raised x y qs) z ≡ bit_xor y (product (bit_xor z x) (value qs z))
raised_value x y [] z h = ap (bit_xor y) (product_none z ∙ sym (product_none (bit_xor z x)))
raised_value x y (q ∷ qs) z h =
    let v : ℕ = value qs z in
    let s : ℕ = bit_xor z x in
    let small : v < 256 = value_byte qs z h.1 in
    ap (λ t. bit_xor (bit_xor y (product x q)) (product z t)) (raised_value x q qs z h.1)
    ∙ ap (bit_xor (bit_xor y (product x q)))
    (product_sum z q (product s v) h.0 (product_byte s v small)
    ∙ ap (bit_xor (product z q)) (product_turned z s v small))
    ∙ regroup y (product x q) (product z q) (product s (product z v))
    ∙ ap (λ t. bit_xor y (bit_xor t (product s (product z v)))) (sym (sum_product z x q))
    ∙ ap (bit_xor y) (sym (product_sum s q (product z v) h.0 (product_byte z v small)))

value_at_own : (x y : ℕ) (qs : List ℕ) → AreBytes qs → value (raised x y qs) x ≡ y
value_at_own x y qs h =
    raised_value x y qs x h ∙ ap (bit_xor y) (product_self x (value qs x)) ∙ xor_zero_r y

-- ---- What the quotients are for.

-- the whole takes v at u exactly where Q takes the quotient
from_quotient : (x y u v : ℕ) (qs : List ℕ) → u < 16 → x < 16 → u ≢ x → y < 256 → v < 256 → AreBytes qs
    → value qs u ≡ product (inverse (bit_xor u x)) (bit_xor v y) → value (raised x y qs) u ≡ v
from_quotient x y u v qs hu hx differ hy hv h is =
    raised_value x y qs u h
    ∙ ap (λ t. bit_xor y (product (bit_xor u x) t)) is
    ∙ ap (bit_xor y) (inverse_after (bit_xor u x) (bit_xor v y) (sum_of_different u x differ) (xor_lt 4 u x hu hx)
    (xor_lt 8 v y hv hy))
    ∙ ap (bit_xor y) (xor_comm v y) ∙ xor_twice y v

to_quotient : (x y u v : ℕ) (qs : List ℕ) → u < 16 → x < 16 → u ≢ x → AreBytes qs
    → value (raised x y qs) u ≡ v → value qs u ≡ product (inverse (bit_xor u x)) (bit_xor v y)
to_quotient x y u v qs hu hx differ h is =
    let s : ℕ = bit_xor u x in
    let inner : bit_xor v y ≡ product s (value qs u) =
    ap (λ t. bit_xor t y) (sym is ∙ raised_value x y qs u h)
    ∙ xor_comm (bit_xor y (product s (value qs u))) y ∙ xor_twice y (product s (value qs u)) in
    sym (ap (product (inverse s)) inner
    ∙ inverse_before s (value qs u) (sum_of_different u x differ) (xor_lt 4 u x hu hx) (value_byte qs u h))

all_from : (x y : ℕ) (us vs qs : List ℕ) → length us ≡ length vs → AreSmall us → x < 16 → DiffersFrom x us → y < 256
    → AreBytes vs → AreBytes qs → map (value qs) us ≡ quotients x y us vs → map (value (raised x y qs)) us ≡ vs
all_from x y [] [] qs same small hx differ hy hv h is = refl
all_from x y [] (v ∷ vs) qs same small hx differ hy hv h is = absurd (omega arith)
all_from x y (u ∷ us) [] qs same small hx differ hy hv h is = absurd (omega arith)
all_from x y (u ∷ us) (v ∷ vs) qs same small hx differ hy hv h is =
    let first : value qs u ≡ product (inverse (bit_xor u x)) (bit_xor v y) = cc in
    let rest : map (value qs) us ≡ quotients x y us vs = cc in
    ap₂ (λ (a : ℕ) (as' : List ℕ). a ∷ as')
    (from_quotient x y u v qs small.0 hx (λ e. differ.0 (sym e)) hy hv.0 h first)
    (all_from x y us vs qs (omega arith) small.1 hx differ.1 hy hv.1 h rest)

all_to : (x y : ℕ) (us vs qs : List ℕ) → AreSmall us → x < 16 → DiffersFrom x us → AreBytes qs
    → map (value (raised x y qs)) us ≡ vs → map (value qs) us ≡ quotients x y us vs
all_to x y [] vs qs small hx differ h is = refl
all_to x y (u ∷ us) [] qs small hx differ h is = cc
all_to x y (u ∷ us) (v ∷ vs) qs small hx differ h is =
    let first : value (raised x y qs) u ≡ v = cc in
    let rest : map (value (raised x y qs)) us ≡ vs = cc in
    ap₂ (λ (a : ℕ) (as' : List ℕ). a ∷ as')
    (to_quotient x y u v qs small.0 hx (λ e. differ.0 (sym e)) h first)
    (all_to x y us vs qs small.1 hx differ.1 h rest)

-- ---- The two laws.

pub quotients_length : (x y : ℕ) (us vs : List ℕ) → length us ≡ length vs → length us ≡ length (quotients x y us vs)
quotients_length x y [] vs same = refl
quotients_length x y (u ∷ us) [] same = absurd (omega arith)
quotients_length x y (u ∷ us) (v ∷ vs) same =
    let more : length us ≡ length (quotients x y us vs) = quotients_length x y us vs (omega arith) in
    omega arith

pub interpolated_takes : (xs ys : List ℕ) → length xs ≡ length ys → AreSmall xs → AreDifferent xs → AreBytes ys
    → map (value (interpolated xs ys)) xs ≡ ys
interpolated_takes [] [] same small differ h = refl
interpolated_takes [] (y ∷ ys) same small differ h = absurd (omega arith)
interpolated_takes (x ∷ xs) [] same small differ h = absurd (omega arith)
interpolated_takes (x ∷ xs) (y ∷ ys) same small differ h =
    let us : List ℕ = quotients x y xs ys in
    let q : List ℕ = interpolated xs us in
    let alike : length xs ≡ length ys = omega arith in
    let bytes : AreBytes us = quotients_bytes x y xs ys h.0 h.1 in
    let inner : AreBytes q = interpolated_bytes xs us bytes in
    ap₂ (λ (a : ℕ) (as' : List ℕ). a ∷ as') (value_at_own x y q inner)
    (all_from x y xs ys q alike small.1 small.0 differ.0 h.0 h.1 inner
    (interpolated_takes xs us (quotients_length x y xs ys alike) small.1 differ.1 bytes))

-- a polynomial divided by X + x, with its rest
record Divided (x : ℕ) (cs : List ℕ) (long : ℕ) : Type 0 where
  pub rest : ℕ
  pub quotient : List ℕ
  pub is : cs ≡ raised x rest quotient
  pub size : length quotient ≡ long
  pub bytes : AreBytes quotient
  pub rest_byte : rest < 256

divided : (x c : ℕ) (cs : List ℕ) → c < 256 → AreBytes cs → Divided x (c ∷ cs) (length cs)
divided x c [] h hs = record { rest = c; quotient = []; is = refl; size = refl; bytes = tt; rest_byte = h }
divided x c (d ∷ ds) h hs =
    let below = divided x d ds hs.0 hs.1 in
    let taken : ℕ = product x below.rest in
    record {
      rest = bit_xor c taken;
      quotient = below.rest ∷ below.quotient;
      is = ap₂ (λ (a : ℕ) (as' : List ℕ). a ∷ as')
          (sym (xor_comm (bit_xor c taken) taken ∙ ap (bit_xor taken) (xor_comm c taken) ∙ xor_twice taken c))
          below.is;
      size = let e = below.size in omega arith;
      bytes = (below.rest_byte, below.bytes);
      rest_byte = xor_lt 8 c taken h (product_byte x below.rest below.rest_byte);
    }

pub only_interpolated : (xs cs : List ℕ) → length cs ≡ length xs → AreSmall xs → AreDifferent xs → AreBytes cs
    → cs ≡ interpolated xs (map (value cs) xs)
only_interpolated [] [] same small differ h = refl
only_interpolated [] (c ∷ cs) same small differ h = absurd (omega arith)
only_interpolated (x ∷ xs) [] same small differ h = absurd (omega arith)
only_interpolated (x ∷ xs) (c ∷ cs) same small differ h =
    go (divided x c cs h.0 h.1) (λ q size bytes. only_interpolated xs q size small.1 differ.1 bytes)
  where
    go : Divided x (c ∷ cs) (length cs)
        → ((q : List ℕ) → length q ≡ length xs → AreBytes q → q ≡ interpolated xs (map (value q) xs))
        → c ∷ cs ≡ interpolated (x ∷ xs) (map (value (c ∷ cs)) (x ∷ xs))
    go d again =
        let own : value (c ∷ cs) x ≡ d.rest =
        ap (λ (as' : List ℕ). value as' x) d.is ∙ value_at_own x d.rest d.quotient d.bytes in
        let others : map (value d.quotient) xs ≡ quotients x d.rest xs (map (value (c ∷ cs)) xs) =
        all_to x d.rest xs (map (value (c ∷ cs)) xs) d.quotient small.1 small.0 differ.0 d.bytes
        (ap (λ (as' : List ℕ). map (value as') xs) (sym d.is)) in
        let long : length d.quotient ≡ length xs = let e = d.size in omega arith in
        let found : d.quotient ≡ interpolated xs (map (value d.quotient) xs) = again d.quotient long d.bytes in
        d.is ∙ ap (raised x d.rest) (found ∙ ap (interpolated xs) others)
        ∙ ap (λ y. raised x y (interpolated xs (quotients x y xs (map (value (c ∷ cs)) xs)))) (sym own)
