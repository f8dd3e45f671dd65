-- A copy goes to one more actor each turn, so what was sent grows by one letter each. All actors named have an
-- inbox.
use Rattle.std.proofs.Common.{◌<◌, length, get_or, arith, ap, ◌∙◌}
use Rattle.message_types.specs.Spelling.{has_spelling}
use Rattle.replica_threads.specs.declared.posted.Posted.{Posted}
use Rattle.replica_threads.proofs.Lists.{get_there, one_below}
use Rattle.replica_threads.proofs.Sending.{nothing_sent, to_one_more, to_all}
use Rattle.replica_threads.proofs.posting.post.Goals as goal

pub loop-actor-init : goal.loop-actor-init
loop-actor-init g c = (c.requires.passes, nothing_sent c.args.passes.now.items, omega arith)

pub post_one-requires-clause-there : goal.post_one-requires-clause-there
post_one-requires-clause-there g c =
    one_below (length c.args.shared.now.inboxes.now) c.args.to.now c.loop-actor.actor-index 0 c.requires.there
    (omega (arith, c.loop-actor-test.true, c.loop-actor.auto.actor-index-end))

pub post_one-requires-clause-spelled : goal.post_one-requires-clause-spelled
post_one-requires-clause-spelled g c = ap (λ (p : Posted). has_spelling p.frame) c.in_ok-copy.ensures
    ∙ c.requires.spelled

pub loop-actor-preserved : goal.loop-actor-preserved
loop-actor-preserved g c =
    let within : c.loop-actor.actor-index < length c.args.to.now =
    omega (arith, c.loop-actor-test.true, c.loop-actor.auto.actor-index-end) in (
      c.in_ok-post_one.ensures.passes,
      to_one_more c.args.passes.now.items c.loop-actor.passes.items c.post_one.new.passes.items c.args.to.now
          c.loop-actor.actor-index (get_or c.args.to.now c.loop-actor.actor-index 0)
          c.args.posted.now c.in_ok-copy.field-0 (get_there c.args.to.now c.loop-actor.actor-index 0 within)
          c.in_ok-copy.ensures c.loop-actor.invariant.1 c.in_ok-post_one.ensures.sent,
      omega arith,
    )

pub returns : goal.returns
returns g c = record {
  passes = c.loop-actor.invariant.0;
  sent = to_all c.args.passes.now.items c.loop-actor.passes.items c.args.to.now
      c.loop-actor.actor-index c.args.posted.now
      (omega (arith, c.loop-actor-test.false, c.loop-actor.auto.actor-index-end)) c.loop-actor.invariant.1;
}
