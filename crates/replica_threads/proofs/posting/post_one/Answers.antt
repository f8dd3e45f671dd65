-- The actor's inbox takes the frame under the pass of that place, which changes that one pass alone. So one
-- letter more was sent, and a refusal is want of memory.
use Rattle.std.proofs.Common.{◌<◌, length, get_or, arith}
use Rattle.replica_threads.proofs.Lists.{get_there}
use Rattle.replica_threads.proofs.HandPasses.{pass_here, still_passes}
use Rattle.replica_threads.proofs.Sending.{where_posted, one_sent}
use Rattle.replica_threads.proofs.posting.post_one.Goals as goal

pub post-requires-clause-of : goal.post-requires-clause-of
post-requires-clause-of g c =
    pass_here c.args.shared.now.inboxes.now c.args.passes.now.items c.args.to
    (get_or c.args.shared.now.inboxes.now c.args.to c.index-shared-to.result) c.index_mut.result.now
    c.requires.passes c.requires.there
    (get_there c.args.shared.now.inboxes.now c.args.to c.index-shared-to.result c.requires.there)
    c.index_mut.ensures.value

pub returns-then-refused-clause-passes : goal.returns-then-refused-clause-passes
returns-then-refused-clause-passes g c =
    still_passes c.args.shared.now.inboxes.now c.args.passes.now.items c.args.to
    (get_or c.args.shared.now.inboxes.now c.args.to c.index-shared-to.result)
    c.post.new.pass c.requires.passes c.requires.there
    (get_there c.args.shared.now.inboxes.now c.args.to c.index-shared-to.result c.requires.there) c.post.ensures.of

pub returns-clause-passes : goal.returns-clause-passes
returns-clause-passes g c =
    still_passes c.args.shared.now.inboxes.now c.args.passes.now.items c.args.to
    (get_or c.args.shared.now.inboxes.now c.args.to c.index-shared-to.result)
    c.post.new.pass c.requires.passes c.requires.there
    (get_there c.args.shared.now.inboxes.now c.args.to c.index-shared-to.result c.requires.there) c.post.ensures.of

pub returns-clause-sent : goal.returns-clause-sent
returns-clause-sent g c =
    let within : c.args.to < length c.args.passes.now.items =
    (let count = c.requires.passes.count in let there = c.requires.there in omega arith) in
    one_sent c.args.passes.now.items c.args.to c.args.posted c.index_mut.result.now c.post.new.pass
    within c.index_mut.ensures.value
    (where_posted c.post.result c.is_err-refused.result _ _ c.is_err-refused.ensures.value
    c.if-refused.false c.post.ensures.posted)
