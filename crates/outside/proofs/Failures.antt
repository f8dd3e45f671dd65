-- One more failure that is noted under a name makes the count of that name greater by one: the count of a list
-- with one more is the sum of both, and a name is the same as itself.
use Rattle.std.proofs.Common.{◌≡◌, ℕ, ◌<◌, List, [], ◌∷◌, ◌++◌, true, cond, refl, arith}
use Rattle.std.specs.List.{count_by}
use Rattle.std.specs.Str.{bytes_eq}
use Rattle.std.proofs.lemmas.Slice.Eq.{bytes_eq-Decides}
use Rattle.std.proofs.lemmas.List.Sums.{sum_by-append}

-- One more failure of that name counts.
pub failures-rise : (before after : List (List ℕ)) (name : List ℕ) → after ≡ before ++ name ∷ [] →
    count_by (λ other. bytes_eq other name) before < count_by (λ other. bytes_eq other name) after
failures-rise before after name e =
    let same : bytes_eq name name ≡ true = (bytes_eq-Decides name name).1 refl in
    let split = sum_by-append (λ (other : List ℕ). cond (bytes_eq other name) 1 0) before (name ∷ []) in
    rw e (rw split (rw same (omega arith)))
