use Rattle.std.proofs.Common.{◌≡◌, length}
use Rattle.quorum_sets.specs.Masters.{voters}
use Rattle.trend_archive.specs.Boards.{has_vote}
use Rattle.trend_archive.proofs.board.count_supporters.Given as goal

abbrev pub invariant-loop-master : goal.invariant-loop-master
invariant-loop-master l = l.count ≡ length (voters (has_vote l.votes l.changes) l.master)
