-- Before the first event the list of words known is empty, and each part of the master begins as the rules have
-- it for an empty list.
use Rattle.std.proofs.Common.{[], refl}
use Rattle.protocol_rules.specs.Group.{group_of}
use Rattle.quorum_sets.proofs.Numbered.{masters_few}
use Rattle.master_knowledge.specs.Knows.{ordered_reach}
use Rattle.master_knowledge.proofs.Starting.{starts_order, starts_run, starts_far}
use Rattle.master_knowledge.proofs.knowledge.Knowledge.new.Goals as goal

pub returns : goal.returns
returns c = record {
  masters = refl;
  quorum = refl;
  rules = refl;
  whole = refl;
  preorder = c.new.ensures;
  matrix = c.new-2.ensures.nothing c.args.clients;
  order = starts_order (group_of c.args.sizes c.args.clients) c.new-3.result (c.new-3.ensures c.args.clients);
  run = starts_run (group_of c.args.sizes c.args.clients) c.new-4.result c.new-4.ensures;
  views = c.new-5.ensures.nothing c.args.clients;
  ticks_told = c.new-6.ensures.ticks;
  ticks = c.new-6.ensures.ticks;
  measure = λ first. c.new-6.ensures.nothing c.args.clients;
  patience = λ live. c.new-7.ensures c.args.clients;
  wait = λ live. c.new-8.ensures.nothing c.args.clients (ordered_reach (group_of c.args.sizes c.args.clients) []);
  furthest = starts_far (group_of c.args.sizes c.args.clients) c.new-9.result (c.new-9.ensures c.args.clients);
  earlier = c.new-10.ensures (group_of c.args.sizes c.args.clients) (masters_few c.args.sizes);
  asks = c.new-11.ensures (group_of c.args.sizes c.args.clients) refl;
  gifts = c.new-12.ensures (group_of c.args.sizes c.args.clients) refl refl;
}
