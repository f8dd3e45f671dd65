use Rattle.std.proofs.Common.{refl}
use Rattle.protocol_rules.specs.Group.{group_of}
use Rattle.leader_proposals.proofs.Offering.{progress-none}
use Rattle.leader_proposals.proofs.proposer.Proposer.new.Goals as goal

pub returns-clause-nothing : goal.returns-clause-nothing
returns-clause-nothing c clients = record {
  sizes = record { masters = refl; quorum = refl };
  progress = progress-none (group_of c.args.sizes clients) c.start.result _ c.start.ensures.greatest
      c.start.ensures.settled c.start.ensures.reach;
}
