use Rattle.replica_threads.proofs.Passes.{none_made, one_made}
use Rattle.replica_threads.proofs.mailing.empty_inboxes.Goals as goal

pub loop-actor-init : goal.loop-actor-init
loop-actor-init c = none_made c.new-inboxes.result.items c.new-passes.result.items c.new-inboxes.ensures.items
    c.new-passes.ensures.items

pub loop-actor-preserved : goal.loop-actor-preserved
loop-actor-preserved c =
    one_made c.loop-actor._actor c.loop-actor.inboxes.items c.push.new.self.items c.loop-actor.passes.items
    c.push-in-loop-actor.new.self.items c.in_ok-inbox.inbox c.in_ok-inbox.pass c.loop-actor.invariant
    c.in_ok-inbox.ensures.0 c.in_ok-push.ensures.items c.in_ok-push-2.ensures.items
