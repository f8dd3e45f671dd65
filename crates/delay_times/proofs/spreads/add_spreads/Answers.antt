use Rattle.delay_times.specs.Spreads.{spreads_at}
use Rattle.delay_times.proofs.Growing.{below_more, below_start}
use Rattle.delay_times.proofs.spreads.add_spreads.Goals as goal

pub loop-actor-init : goal.loop-actor-init
loop-actor-init c = below_start (spreads_at c.args.outcomes.now c.args.client) c.args.spreads.now.items

pub loop-actor-preserved : goal.loop-actor-preserved
loop-actor-preserved c =
    below_more (spreads_at c.args.outcomes.now c.args.client) c.loop-actor.actor c.args.spreads.now.items
    c.loop-actor.spreads.items _ c.loop-actor.invariant c.in_ok-add_spread.ensures
