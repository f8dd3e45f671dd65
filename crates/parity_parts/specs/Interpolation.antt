-- Newton's interpolation in the field: the coefficients of the polynomial that takes given values at given points.
use Rattle.std.specs.Prelude.{ℕ, List, [], ◌∷◌, bit_xor}
use Rattle.parity_parts.specs.Field.{inverse, product}

-- (v + y) / (u + x) for each point u with its value v
abbrev pub quotients : ℕ → ℕ → List ℕ → List ℕ → List ℕ
quotients x y [] vs = []
quotients x y (u ∷ us) [] = []
quotients x y (u ∷ us) (v ∷ vs) = product (inverse (bit_xor u x)) (bit_xor v y) ∷ quotients x y us vs

-- the coefficients of y + (X + x) Q, where Q has these
abbrev pub raised : ℕ → ℕ → List ℕ → List ℕ
raised x y [] = y ∷ []
raised x y (q ∷ qs) = bit_xor y (product x q) ∷ raised x q qs

-- the polynomial is y + (X + x) Q, where Q takes the quotients at the other points
abbrev pub interpolated : List ℕ → List ℕ → List ℕ
interpolated [] ys = []
interpolated (x ∷ xs) [] = []
interpolated (x ∷ xs) (y ∷ ys) = raised x y (interpolated xs (quotients x y xs ys))
