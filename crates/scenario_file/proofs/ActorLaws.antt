-- Actors looked up one by one.
use Rattle.std.proofs.Common.{◌≡◌, ℕ, zero, suc, ◌+◌, ◌-◌, ◌<◌, ◌≤◌, Bool, true, false, refl, sym, ap, arith, Some}
use Rattle.std.proofs.Common.{None}
use Rattle.point_table.specs.Point.{first_that}

left-over : (a n : ℕ) → a < n → n - a ≡ suc (n - (a + 1))
left-over a n h = omega arith

-- one that doesn't pass is passed over
pub first_that-next : (p : ℕ → Bool) (a n : ℕ) → a < n → p a ≡ false →
    first_that p (a + 1) (n - (a + 1)) ≡ first_that p a (n - a)
first_that-next p a n inside other =
    let later : suc a ≡ a + 1 = omega arith in
    sym (rw (left-over a n inside, other) (ap (λ b. first_that p b (n - (a + 1))) later))

-- one that passes is the first
pub first_that-here : (p : ℕ → Bool) (a n : ℕ) → a < n → p a ≡ true → first_that p a (n - a) ≡ Some a
first_that-here p a n inside this = rw (left-over a n inside, this) refl

-- none is left
pub first_that-end : (p : ℕ → Bool) (a n : ℕ) → n ≤ a → first_that p a (n - a) ≡ None
first_that-end p a n end = let none : n - a ≡ zero = omega arith in rw none refl
