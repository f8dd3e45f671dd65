-- How often a number stands in a list, and among the numbers below another.
use Rattle.std.proofs.Common.{◌≡◌, ℕ, ◌+◌, ◌<◌, ◌≤◌, List, [], ◌∷◌, ◌++◌, length, get_or, cond, nat_eq, Bool, refl}
use Rattle.std.proofs.Common.{sym, ap, arith}
use Rattle.std.proofs.lemmas.List.Sums.{sum_by-append, get_or-le-sum_by, count_by-le-length}
use Rattle.std.proofs.lemmas.Bool.{eq-eqb}
use Rattle.std.proofs.lemmas.Bool.Decides.{nat_tests}
use Rattle.stamps.specs.Seats.{times, once_below}

pub times_none : (x : ℕ) → times x [] ≡ 0
unfolding times
times_none x = refl

pub times-append : (x : ℕ) (xs ys : List ℕ) → times x (xs ++ ys) ≡ times x xs + times x ys
unfolding times
times-append x xs ys = sum_by-append (λ y. cond (nat_eq x y) 1 0) xs ys

pub times-le-length : (x : ℕ) (xs : List ℕ) → times x xs ≤ length xs
unfolding times
times-le-length x xs = count_by-le-length (nat_eq x) xs

pub times_there : (x : ℕ) (xs : List ℕ) (k d : ℕ) → k < length xs → get_or xs k d ≡ x → 0 < times x xs
unfolding times
times_there x xs k d inside is =
    let one : ◌≡◌ {A = ℕ} (cond (nat_eq x (get_or xs k d)) 1 0) 1 =
    ap (λ (b : Bool). cond {A = ℕ} b 1 0) (eq-eqb x (get_or xs k d) (sym is)) in
    let part : cond (nat_eq x (get_or xs k d)) 1 0 ≤ times x xs =
    get_or-le-sum_by (λ y. cond (nat_eq x y) 1 0) xs k d inside in
    omega (arith, one, part)

pub once_none : (x : ℕ) → once_below 0 x ≡ 0
unfolding once_below
once_none x = grind (arith, nat_tests)

pub once_more : (n x : ℕ) → once_below (n + 1) x ≡ once_below n x + times x (n ∷ [])
unfolding once_below times
once_more n x = grind (arith, nat_tests)

pub once_inside : (n x : ℕ) → 0 < once_below n x → x < n
unfolding once_below
once_inside n x some = grind (arith, nat_tests)
