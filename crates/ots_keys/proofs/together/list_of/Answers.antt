use Rattle.std.proofs.Common.{arith}
use Rattle.ots_keys.proofs.TogetherLaws.{third_is}
use Rattle.ots_keys.proofs.together.list_of.Goals as goal

pub returns-in_default : goal.returns-in_default
returns-in_default c = third_is c.args.x.now c.args.y.now c.args.z.now c.args.k (omega arith)
