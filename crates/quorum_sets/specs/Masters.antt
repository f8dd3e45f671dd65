-- Sets of masters as rising lists of numbers, and how many of them there are.
use Rattle.std.specs.Prelude.{ℕ, zero, suc, Bool, ◌||◌, ◌&&◌, List, [], ◌∷◌, ◌++◌, nat_eq, filter}
use Rattle.std.specs.List.{list_any}
use Rattle.quorum_sets.specs.declared.limits.TheConstants.{MOST_MASTERS}

-- the numbers below n, rising
unfoldable pub numbers_below : ℕ → List ℕ
numbers_below zero = []
numbers_below (suc n) = numbers_below n ++ n ∷ []

-- whether the master is in the set
abbrev pub has_master : List ℕ → ℕ → Bool
has_master masters m = list_any (λ x. nat_eq x m) masters

-- the masters below n that pass a test, rising; with "voted for this" as the test these are the voters
abbrev pub voters : (ℕ → Bool) → ℕ → List ℕ
voters test n = filter test (numbers_below n)

-- the set with one master more
abbrev pub with_master : List ℕ → ℕ → List ℕ
with_master masters m = voters (λ x. nat_eq x m || has_master masters x) MOST_MASTERS

-- the masters of both sets that are below n
abbrev pub shared_masters : List ℕ → List ℕ → ℕ → List ℕ
shared_masters a b n = voters (λ x. has_master a x && has_master b x) n
