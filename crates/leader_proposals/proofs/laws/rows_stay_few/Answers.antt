use Rattle.leader_proposals.proofs.Standing.{few-start, frame-few}
use Rattle.leader_proposals.proofs.laws.rows_stay_few.Goals as goal

pub returns-clause-nothing : goal.returns-clause-nothing
returns-clause-nothing c = few-start

pub returns-clause-frame : goal.returns-clause-frame
returns-clause-frame c = frame-few
