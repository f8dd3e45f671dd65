-- A ballot's set of masters has a quorum exactly where the rules say so.
use Rattle.std.proofs.Common.{◌≡◌, ℕ, ◌≤◌, ◌<◌, Bool, true, false, List, length, nat_le, refl, sym, ◌∙◌, ap, arith}
use Rattle.std.specs.Prelude.{IsTrue, ◌↔◌}
use Rattle.std.proofs.lemmas.Bool.{le-leb, lt-leb, leb-true}
use Rattle.quorum_sets.specs.Masters.{has_master, voters}
use Rattle.quorum_sets.specs.Quorum.{has_quorum}
use Rattle.quorum_sets.proofs.MastersLemmas.{voters_same, voters_none}

pub has_quorum-set : (n q : ℕ) (set : List ℕ) (test : ℕ → Bool) (answer : Bool) → n ≤ 14 →
    (IsTrue answer ↔ (q ≤ length (voters (has_master set) n))) → ((m : ℕ) → m < 14 → has_master set m ≡ test m) →
    answer ≡ has_quorum n q test
unfolding has_quorum
has_quorum-set n q set test answer small tells same =
    let equal : length (voters (has_master set) n) ≡ length (voters test n) =
    ap length (voters_same (has_master set) test n (λ m below. same m (omega arith))) in
    rw (← equal) (by answer tells)
  where
    by : (answer : Bool) → (IsTrue answer ↔ (q ≤ length (voters (has_master set) n))) →
        answer ≡ nat_le q (length (voters (has_master set) n))
    by true tells = sym (le-leb q _ (tells.0 refl))
    by false tells = few (nat_le q (length (voters (has_master set) n))) refl
      where
        few : (b : Bool) → nat_le q (length (voters (has_master set) n)) ≡ b → false ≡ b
        few false e = refl
        few true e = (tells.1 (leb-true q _ e))

pub has_quorum-none : (n q : ℕ) (test : ℕ → Bool) → n ≤ 14 → 1 ≤ q → ((m : ℕ) → m < 14 → false ≡ test m) →
    false ≡ has_quorum n q test
unfolding has_quorum
has_quorum-none n q test small some none =
    let empty : length (voters test n) ≡ 0 =
    ap length (sym (voters_same (λ _. false) test n (λ m below. none m (omega arith))) ∙ voters_none n) in
    rw empty (sym (lt-leb q 0 some))
