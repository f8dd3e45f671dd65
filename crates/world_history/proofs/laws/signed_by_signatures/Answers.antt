use Rattle.world_history.proofs.LeavesSuffice.{signatures_for_all, signed_by_signatures}
use Rattle.world_history.proofs.laws.signed_by_signatures.Goals as goal

pub returns-clause-all : goal.returns-clause-all
returns-clause-all c = signatures_for_all

pub returns-clause-frames : goal.returns-clause-frames
returns-clause-frames c = signed_by_signatures
