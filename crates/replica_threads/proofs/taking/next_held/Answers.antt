-- A frame that is still held is kept, and it stands already. Otherwise the next of the actor's own inbox is
-- taken, which stands as the taking checks it.
use Rattle.std.proofs.Common.{get_or, arith}
use Rattle.replica_threads.proofs.Lists.{get_there}
use Rattle.replica_threads.proofs.TakenByHands.{next_stands}
use Rattle.replica_threads.proofs.HandPasses.{pass_here, still_passes}
use Rattle.replica_threads.proofs.Sending.{nothing_sent}
use Rattle.replica_threads.proofs.Quiet.{quiet_set}
use Rattle.replica_threads.proofs.taking.next_held.Goals as goal

pub take_held-requires : goal.take_held-requires
take_held-requires g c = record {
  of = pass_here c.args.shared.now.inboxes.now c.args.passes.now.items c.args.actor
      (get_or c.args.shared.now.inboxes.now c.args.actor c.index-shared-place.result) c.index_mut.result.now
      c.requires.passes c.requires.there
      (get_there c.args.shared.now.inboxes.now c.args.actor c.index-shared-place.result c.requires.there)
      c.index_mut.ensures.value;
}

pub returns-then-is_some-clause-stands : goal.returns-then-is_some-clause-stands
returns-then-is_some-clause-stands g c = λ all same well. well

pub returns-then-is_some-clause-quiet : goal.returns-then-is_some-clause-quiet
returns-then-is_some-clause-quiet g c = nothing_sent c.args.passes.now.items

pub returns : goal.returns
returns g c = record {
  passes = still_passes c.args.shared.now.inboxes.now c.args.passes.now.items c.args.actor
      (get_or c.args.shared.now.inboxes.now c.args.actor c.index-shared-place.result) c.take_held.new.pass
      c.requires.passes c.requires.there
      (get_there c.args.shared.now.inboxes.now c.args.actor c.index-shared-place.result c.requires.there)
      c.take_held.ensures.of;
  quiet = quiet_set c.args.passes.now.items c.args.actor c.index_mut.result.now c.take_held.new.pass
      (omega (arith, c.requires.there, c.requires.passes.count)) c.index_mut.ensures.value c.take_held.ensures.quiet;
  stands = next_stands c.take_held.result c.args.shared.now.ring.now c.args.held c.index_mut.result.now
      c.take_held.new.pass c.take_held.ensures.takes;
}
