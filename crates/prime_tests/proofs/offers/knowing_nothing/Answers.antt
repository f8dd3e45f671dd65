-- A new order was handed no facts, so it knows few rows.
use Rattle.std.proofs.Common.{[]}
use Rattle.protocol_rules.specs.Group.{group_of}
use Rattle.leader_proposals.proofs.Few.{few-none}
use Rattle.prime_tests.proofs.offers.knowing_nothing.Goals as goal

pub returns-clause-few : goal.returns-clause-few
returns-clause-few c = record {
  group = group_of c.args.sizes 0;
  facts = [];
  said = [];
  is =
      c.new.ensures 0;
  few = few-none;
}
