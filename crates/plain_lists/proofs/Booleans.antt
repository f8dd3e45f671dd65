-- Tests and their answers, where the kit has no law of them.
use Rattle.std.proofs.Common.{◌≡◌, ℕ, nat_eq, arith, true, refl, Bool, false, ◌||◌, sym, ◌&&◌, cond, List}
use Rattle.std.proofs.lemmas.Bool.Decides.{nat_tests}
use Rattle.std.proofs.lemmas.Bool.{eq-eqb}
use Rattle.std.proofs.lemmas.Slice.Eq.{bytes_eq-Decides}
use Rattle.std.specs.Str.{bytes_eq}

pub nat_eq-flipped : (m x : ℕ) → nat_eq m x ≡ nat_eq x m
nat_eq-flipped m x = grind (arith, nat_tests)

pub nat_eq-itself : (x : ℕ) → nat_eq x x ≡ true
nat_eq-itself x = eq-eqb x x refl

pub or_middle : (a b d : Bool) → (a || (b || d)) ≡ (b || (a || d))
or_middle true true d = refl
or_middle true false d = refl
or_middle false b d = refl

-- two tests that are true together are the same
pub same_truth : (x y : Bool) → (x ≡ true → y ≡ true) → (y ≡ true → x ≡ true) → x ≡ y
same_truth true y to from = sym (to refl)
same_truth false true to from = from refl
same_truth false false to from = refl

pub regroup : (a b c d : Bool) → (((b && c) && d) && a) ≡ (((a && b) && c) && d)
regroup true true true true = refl
regroup true true true false = refl
regroup true true false d = refl
regroup true false c d = refl
regroup false true true true = refl
regroup false true true false = refl
regroup false true false d = refl
regroup false false c d = refl

pub cond_true : (t b : Bool) → cond t true b ≡ (t || b)
cond_true true b = refl
cond_true false b = refl

pub bytes_eq-swap : (a b : List ℕ) → bytes_eq a b ≡ bytes_eq b a
bytes_eq-swap a b = same_truth (bytes_eq a b) (bytes_eq b a)
    (λ t. (bytes_eq-Decides b a).1 (sym ((bytes_eq-Decides a b).0 t)))
    (λ t. (bytes_eq-Decides a b).1 (sym ((bytes_eq-Decides b a).0 t)))
