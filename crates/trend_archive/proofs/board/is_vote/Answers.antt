use Rattle.trend_archive.proofs.BoardLaws.{voted}
use Rattle.trend_archive.proofs.board.is_vote.Goals as goal

pub returns-then-vote-master : goal.returns-then-vote-master
returns-then-vote-master c = voted _ _ _ _ c.if-vote-master.true c.is_same.ensures
