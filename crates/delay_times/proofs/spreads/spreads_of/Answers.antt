use Rattle.std.proofs.Common.{ℕ}
use Rattle.delay_times.specs.Spreads.{spreads_of_client}
use Rattle.delay_times.proofs.Growing.{flat_more, flat_start}
use Rattle.delay_times.proofs.spreads.spreads_of.Goals as goal

pub loop-client-init : goal.loop-client-init
loop-client-init c =
    flat_start (λ (client : ℕ). spreads_of_client c.args.outcomes.now client c.args.actors) c.new-spreads.result.items
    c.new-spreads.ensures.items

pub loop-client-preserved : goal.loop-client-preserved
loop-client-preserved c =
    flat_more (λ (client : ℕ). spreads_of_client c.args.outcomes.now client c.args.actors) c.loop-client.client
    c.loop-client.spreads.items _ c.loop-client.invariant c.in_ok-add_spreads.ensures
