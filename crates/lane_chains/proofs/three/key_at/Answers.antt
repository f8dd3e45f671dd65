use Rattle.std.proofs.Common.{arith}
use Rattle.lane_chains.proofs.ThreeKeys.{third_is}
use Rattle.lane_chains.proofs.three.key_at.Goals as goal

pub returns-in_default : goal.returns-in_default
returns-in_default c = third_is c.args.a.now c.args.b.now c.args.c.now c.args.k (omega arith)
