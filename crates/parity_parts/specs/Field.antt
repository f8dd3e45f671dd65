-- The field of 256 elements, as Reed and Solomon's codes take it: a byte is a polynomial over {0, 1} of degree below 8,
-- bit i being the coefficient of x^i. The sum of two is `bit_xor`, each element being its own negative, and products
-- are taken modulo x^8 + x^4 + x^3 + x^2 + 1, which is this project's choice.
use Rattle.std.specs.Prelude.{ℕ, zero, suc, ◌*◌, ◌/◌, ◌%◌, List, [], ◌∷◌, bit_xor, slice_index}

-- x times a: the bits move up by one, and for x^8, where it comes up, x^4 + x^3 + x^2 + 1 stands, which is 29
unfoldable pub times_x : ℕ → ℕ
times_x a = bit_xor ((a % 128) * 2) ((a / 128) * 29)

-- the sum of x^i times b, over the lowest bits i of a that are 1
unfoldable pub product_by : ℕ → ℕ → ℕ → ℕ
product_by zero a b = 0
product_by (suc bits) a b = bit_xor ((a % 2) * b) (product_by bits (a / 2) (times_x b))

-- the product of two bytes
unfoldable pub product : ℕ → ℕ → ℕ
product a b = product_by 8 a b

-- the value at x of the polynomial with these coefficients, lowest first
abbrev pub value : List ℕ → ℕ → ℕ
value [] x = 0
value (c ∷ cs) x = bit_xor c (product x (value cs x))

-- The inverses of the elements below 16, in which the sums of two masters lie: times its inverse an element is 1. For 0
-- there is none.
abbrev pub inverses : List ℕ
inverses = 0 ∷ 1 ∷ 142 ∷ 244 ∷ 71 ∷ 167 ∷ 122 ∷ 186 ∷ 173 ∷ 157 ∷ 221 ∷ 152 ∷ 61 ∷ 170 ∷ 93 ∷ 150 ∷ []

abbrev pub inverse : ℕ → ℕ
inverse a = slice_index inverses a
