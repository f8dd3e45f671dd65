use Rattle.std.proofs.Common.{◌≡◌, ℕ}
use Rattle.protocol_rules.specs.Group.{group_of, is_door}
use Rattle.quorum_sets.specs.Masters.{voters}
use Rattle.world_history.proofs.addressing.doors.Given as goal

-- the doors among the masters so far
abbrev pub invariant-loop-master : goal.invariant-loop-master
invariant-loop-master l = (clients : ℕ) → l.to ≡ voters (is_door (group_of l.sizes clients) l.client) l.master
