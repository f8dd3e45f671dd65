-- A run that took nothing yet.
use Rattle.std.proofs.Common.{◌≡◌, ℕ, zero, suc, List, get_or, refl}
use Rattle.std.specs.Prelude.{replicate}

abbrev pub zeros : ℕ → List ℕ
zeros n = replicate n zero

pub zeros-are : (n c : ℕ) → get_or (zeros n) c zero ≡ zero
zeros-are zero c = refl
zeros-are (suc n) zero = refl
zeros-are (suc n) (suc c) = zeros-are n c
