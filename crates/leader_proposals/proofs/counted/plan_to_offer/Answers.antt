use Rattle.std.proofs.Common.{rules}
use Rattle.leader_proposals.proofs.counted.plan_to_offer.Goals as goal

pub returns-then-is_open : goal.returns-then-is_open
returns-then-is_open c g facts said is = let told = c.plan.ensures g facts said is in search rules
