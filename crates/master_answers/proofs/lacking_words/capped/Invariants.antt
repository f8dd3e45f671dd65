use Rattle.std.proofs.Common.{◌≡◌, ◌<◌, ◌≤◌, ℕ, min, get_or}
use Rattle.protocol_rules.specs.declared.limits.TheConstants.{MOST_NUMBER}
use Rattle.master_answers.proofs.lacking_words.capped.Given as goal

abbrev pub invariant-loop-place : goal.invariant-loop-place
invariant-loop-place l = ((j : ℕ) → j < l.place → get_or l.limited.numbers j 0 ≡ min MOST_NUMBER (get_or l.reach.numbers j 0))
    × ((j : ℕ) → l.place ≤ j → get_or l.limited.numbers j 0 ≡ get_or l.reach.numbers j 0)
