-- A pass of an inbox splits into two of that same inbox. So the list that one of them was put back into still
-- fits, and the other is of the inbox at that place.
use Rattle.replica_threads.proofs.Passes.{pass_at, pass_changed, other_of}
use Rattle.replica_threads.proofs.mailing.split_off.Goals as goal

pub split-requires : goal.split-requires
split-requires c =
    pass_at c.args.inboxes.now c.args.passes.now.items c.args.place c.index-inboxes-place.result
    c.index_mut.result.now c.requires.passes c.requires.there c.index-inboxes-place.is c.index_mut.ensures.value

pub returns-clause-passes : goal.returns-clause-passes
returns-clause-passes c =
    pass_changed c.args.inboxes.now c.args.passes.now.items c.args.place c.index-inboxes-place.result c.split.new.pass
    c.requires.passes c.requires.there c.index-inboxes-place.is c.split.ensures.of.0

pub returns-clause-other : goal.returns-clause-other
returns-clause-other c = other_of c.args.inboxes.now c.args.place c.index-inboxes-place.result _ c.split.result
    c.requires.there c.index-inboxes-place.is c.split.ensures.other
