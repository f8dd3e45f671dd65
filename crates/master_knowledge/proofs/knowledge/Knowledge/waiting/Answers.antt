-- The execution is caught up, so its reach is that of what is ordered, by which the wait is asked for.
use Rattle.std.proofs.Common.{◌≤◌, subst, arith}
use Rattle.quorum_sets.proofs.Numbered.{masters_few}
use Rattle.master_knowledge.specs.Knows.{ordered_reach}
use Rattle.master_knowledge.proofs.knowledge.Knowledge.waiting.Goals as goal

pub returns-clause-waiting : goal.returns-clause-waiting
returns-clause-waiting c g me taken known past said k live caught =
    let few : g.n ≤ 14 = subst (λ n. n ≤ 14) k.masters (masters_few c.args.self.now.sizes) in
    c.ticks.ensures.waiting g (ordered_reach g known) past.moments (k.wait live)
    (λ j lt. c.reach-reach.ensures g _ _ caught j (omega arith))

pub returns-clause-knows : goal.returns-clause-knows
returns-clause-knows c g me taken known past said k caught =
    let few : g.n ≤ 14 = subst (λ n. n ≤ 14) k.masters (masters_few c.args.self.now.sizes) in
    record {
      masters = k.masters;
      quorum = k.quorum;
      rules = k.rules;
      whole = k.whole;
      preorder = k.preorder;
      matrix = k.matrix;
      order = k.order;
      run = k.run;
      views = k.views;
      ticks_told = k.ticks_told;
      ticks = k.ticks;
      measure = k.measure;
      patience = k.patience;
      wait = λ live. c.ticks.ensures.kept g (ordered_reach g known) past.moments
          (λ j lt. c.reach-reach.ensures g _ _ caught j (omega arith)) (k.wait live);
      furthest = k.furthest;
      earlier = k.earlier;
      asks = k.asks;
      gifts = k.gifts;
    }
