use Rattle.std.proofs.Common.{◌≡◌, ◌≤◌, length}
use Rattle.quorum_sets.specs.Masters.{voters, has_master}
use Rattle.history_audit.proofs.counting.count_intruded.Given as goal

abbrev pub invariant-loop-master : goal.invariant-loop-master
invariant-loop-master l = (l.count ≤ l.master) × (l.count ≡ length (voters (has_master l.scenario.intruded) l.master))
