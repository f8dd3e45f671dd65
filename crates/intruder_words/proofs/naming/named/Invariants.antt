use Rattle.std.proofs.Common.{◌≡◌, ◌≤◌}
use Rattle.intruder_words.proofs.Which.{from_place}
use Rattle.intruder_words.proofs.naming.named.Given as goal

-- the frame meant is, of those still to come, the one of so many
abbrev pub invariant-loop-place : goal.invariant-loop-place
invariant-loop-place l = (from_place l.known l.which 0 l.which.number ≡ from_place l.known l.which l.place l.left)
    × (1 ≤ l.left)
