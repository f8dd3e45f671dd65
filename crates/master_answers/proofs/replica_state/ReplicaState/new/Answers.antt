-- A master that heard and said nothing knows nothing, owes nothing and has vouched for nothing: each part
-- begins as the rules have it for empty lists.
use Rattle.std.proofs.Common.{refl, []}
use Rattle.protocol_rules.specs.Group.{group_of}
use Rattle.protocol_rules.specs.Views.{view}
use Rattle.master_answers.proofs.Growing.{starts_offers, from_zero}
use Rattle.master_answers.proofs.replica_state.ReplicaState.new.Goals as goal

pub returns-clause-is_replica : goal.returns-clause-is_replica
returns-clause-is_replica c = record {
  own = refl;
  knows = c.new.ensures;
  summary = c.new-2.ensures c.args.clients;
  proposer = starts_offers (group_of c.args.sizes c.args.clients) c.new-3.result
      (c.new-3.ensures.nothing c.args.clients);
  view = from_zero c.new-3.result.progress.view (view (group_of c.args.sizes c.args.clients) []) c.new-3.ensures.view;
  vouchers = c.none.ensures.nothing;
  shares = λ live. c.new-4.ensures;
}
