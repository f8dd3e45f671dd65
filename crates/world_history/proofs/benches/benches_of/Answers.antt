-- The benches taken out so far and those of the actors left are together all of them in order, and once no
-- actor is left they are the whole list.
use Rattle.std.proofs.Common.{◌≡◌, List, ◌++◌, length, map, sym, ap, ◌∙◌, arith}
use Rattle.std.specs.Vec.Iter.{into_iter_items}
use Rattle.world_history.specs.State.{BenchState}
use Rattle.world_history.specs.KeptState.{KeptState}
use Rattle.world_history.proofs.TakenOut.{one_taken, all_taken}
use Rattle.world_history.proofs.benches.benches_of.Goals as goal

pub loop-actor-init : goal.loop-actor-init
loop-actor-init c = (
  ap (λ (bs : List BenchState). bs ++ map (λ (k : KeptState). k.bench)
      (into_iter_items c.into_iter-actor-iterator.result)) c.in_ok-benches.ensures.items,
  omega (
    arith,
    c.into_iter-actor-iterator.ensures.into_iter_gives.1,
    ap length c.into_iter-actor-iterator.ensures.into_iter_gives.0,
    c.args.kept.ok,
  ),
)

pub loop-actor-preserved : goal.loop-actor-preserved
loop-actor-preserved c = (
  one_taken c.loop-actor.benches.items c.push.new.self.items c.into_bench.result c.in-Some.actor
      (into_iter_items c.loop-actor.actor-iterator) (into_iter_items c.next.new.self) _
      c.in-Some.ensures.steps.0 c.in_ok-push.ensures.items c.into_bench.ensures c.loop-actor.invariant.0,
  let was = c.loop-actor.invariant.1 in let gone = c.in-Some.ensures.steps.1 in let short =
      ap length c.in-Some.ensures.steps.0 in omega arith,
)

pub returns : goal.returns
returns c =
    all_taken c.loop-actor.benches.items (into_iter_items c.loop-actor.actor-iterator) _
    (sym c.loop-actor.invariant.1 ∙ c.in-None.ensures.steps.0) c.loop-actor.invariant.0
    ∙ ap (map (λ (k : KeptState). k.bench)) c.into_iter-actor-iterator.ensures.into_iter_gives.0
