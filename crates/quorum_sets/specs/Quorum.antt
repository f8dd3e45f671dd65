-- Group sizes and quorums: n = 3f + 2k + 1 masters of which f may be intruded and k away, as in Spire, and
-- quorums of q = 2f + k + 1, of which any two share f + 1.
use Rattle.std.specs.Prelude.{ℕ, ◌+◌, ◌*◌, ◌≤◌, Bool, List, length, nat_le}
use Rattle.quorum_sets.specs.Masters.{voters, has_master}

-- f and k that a group may have
pub record IsGroup (f k : ℕ) : Type 0 where
  pub some_may_be_intruded : 1 ≤ f
  pub at_most_three_intruded : f ≤ 3
  pub at_most_two_away : k ≤ 2

abbrev pub group_size : ℕ → ℕ → ℕ
group_size f k = 3 * f + 2 * k + 1

abbrev pub quorum_size : ℕ → ℕ → ℕ
quorum_size f k = 2 * f + k + 1

-- whether at least q of the masters below n pass the test
unfoldable pub has_quorum : ℕ → ℕ → (ℕ → Bool) → Bool
has_quorum n q test = nat_le q (length (voters test n))

-- at least q masters of the set are below n
abbrev pub IsQuorum : ℕ → ℕ → List ℕ → Type 0
IsQuorum n q masters = q ≤ length (voters (has_master masters) n)
