-- Quorums of masters.
use Rattle.std.proofs.Common.{◌≡◌, ℕ, zero, suc, ◌+◌, ◌*◌, ◌<◌, ◌≤◌, Bool, true, false, cond, ◌||◌, List, [], length}
use Rattle.std.proofs.Common.{nat_eq, nat_le, refl, sym, ◌∙◌, ap, arith, IsTrue, ◌↔◌}
use Rattle.std.proofs.lemmas.Bool.{le-leb, leb-true}
use Rattle.quorum_sets.specs.Masters.{has_master, voters, with_master}
use Rattle.quorum_sets.specs.Quorum.{has_quorum}
use Rattle.quorum_sets.specs.declared.sizes.Sizes.{Sizes}
use Rattle.quorum_sets.proofs.MastersLemmas.{voters_same, length-voters-suc, voters-zero, voters_none}
use Rattle.quorum_sets.proofs.MastersLemmas.{has_master-voters_below}

-- quorums of tests that agree
pub quorum-same : (n q : ℕ) (s t : ℕ → Bool) → ((j : ℕ) → j < n → s j ≡ t j) → has_quorum n q s ≡ has_quorum n q t
unfolding has_quorum
quorum-same n q s t same = ap (λ (xs : List ℕ). nat_le q (length xs)) (voters_same s t n same)

decided : (r : Bool) (a b : ℕ) → IsTrue r ↔ (a ≤ b) → r ≡ nat_le a b
decided true a b h = sym (le-leb a b (h.0 refl))
decided false a b h = at (nat_le a b) refl
  where
    at : (t : Bool) → nat_le a b ≡ t → false ≡ t
    at true e = h.1 (leb-true a b e)
    at false e = refl

-- what a set of voters answers
pub quorum-is : (n q : ℕ) (masters : List ℕ) (r : Bool) → IsTrue r ↔ (q ≤ length (voters (has_master masters) n)) →
    r ≡ has_quorum n q (has_master masters)
unfolding has_quorum
quorum-is n q masters r h = decided r q (length (voters (has_master masters) n)) h

fewer : (s t : ℕ → Bool) (n : ℕ) → ((j : ℕ) → j < n → s j ≡ true → t j ≡ true) →
    length (voters s n) ≤ length (voters t n)
fewer s t zero more = rw (voters-zero s, voters-zero t) (omega arith)
fewer s t (suc n) more =
    let less : length (voters s n) ≤ length (voters t n) = fewer s t n (λ j lt. more j (omega arith)) in
    rw (length-voters-suc s n, length-voters-suc t n) (at (s n) (t n) (more n (omega arith)) less)
  where
    at : (a b : Bool) → (a ≡ true → b ≡ true) → length (voters s n) ≤ length (voters t n) →
        length (voters s n) + cond a 1 0 ≤ length (voters t n) + cond b 1 0
    at true true h less = omega arith
    at true false h less = absurd (let e : false ≡ true = h refl in cc)
    at false true h less = omega arith
    at false false h less = omega arith

-- where a quorum fails with more votes, it failed before
pub quorum-fewer : (n q : ℕ) (s t : ℕ → Bool) → ((j : ℕ) → j < n → s j ≡ true → t j ≡ true) →
    has_quorum n q t ≡ false → has_quorum n q s ≡ false
unfolding has_quorum
quorum-fewer n q s t more fails = at (nat_le q (length (voters s n))) refl
  where
    at : (b : Bool) → nat_le q (length (voters s n)) ≡ b → b ≡ false
    at false e = refl
    at true e =
        let enough : q ≤ length (voters s n) = leb-true q (length (voters s n)) e in
        let less : length (voters s n) ≤ length (voters t n) = fewer s t n more in
        let holds : nat_le q (length (voters t n)) ≡ true = le-leb q (length (voters t n)) (omega arith) in
        sym holds ∙ fails

-- a set with one master more
pub has_with_master : (masters : List ℕ) (m j : ℕ) → j < 14 →
    has_master (with_master masters m) j ≡ (nat_eq j m || has_master masters j)
has_with_master masters m j lt = has_master-voters_below (λ x. nat_eq x m || has_master masters x) 14 j lt

-- nobody is no quorum
pub quorum-none : (n q : ℕ) → 1 ≤ q → has_quorum n q (has_master []) ≡ false
unfolding has_quorum
quorum-none n q least = ap (λ (xs : List ℕ). nat_le q (length xs)) (voters_none n) ∙ above q least
  where
    above : (q : ℕ) → 1 ≤ q → nat_le q 0 ≡ false
    above q h = by (nat_le q 0) refl
      where
        by : (b : Bool) → nat_le q 0 ≡ b → b ≡ false
        by true e = let low : q ≤ 0 = leb-true q 0 e in absurd (omega arith)
        by false e = refl

pub quorum_some : (sizes : Sizes) → 1 ≤ sizes.q
quorum_some sizes = some sizes.f sizes.k sizes.q sizes.quorum
  where
    some : (f k q : ℕ) → q ≡ 2 * f + k + 1 → 1 ≤ q
    some f k q e = omega arith
