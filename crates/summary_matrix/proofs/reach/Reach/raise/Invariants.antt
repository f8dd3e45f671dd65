use Rattle.std.proofs.Common.{◌≡◌, ◌<◌, ◌≤◌, ℕ, max, get_or}
use Rattle.summary_matrix.proofs.reach.Reach.raise.Given as goal

abbrev pub invariant-loop-place : goal.invariant-loop-place
invariant-loop-place l = ((j : ℕ) → j < l.place → get_or l.self.numbers j 0 ≡ max (get_or l.fn.self.numbers j 0)
    (get_or l.other.numbers j 0)) × ((j : ℕ) → l.place ≤ j → get_or l.self.numbers j 0 ≡ get_or l.fn.self.numbers j 0)
