use Rattle.std.proofs.Common.{refl}
use Rattle.protocol_rules.specs.Group.{group_of}
use Rattle.leader_wait.proofs.Stretches.{none_seen}
use Rattle.leader_wait.proofs.wait.LeaderWait.new.Goals as goal

pub returns-clause-nothing : goal.returns-clause-nothing
returns-clause-nothing c clients ordered =
    none_seen (group_of c.args.sizes clients) _ ordered refl refl c.new.ensures.items
