-- Looked through from behind.
use Rattle.std.proofs.Common.{◌∙◌, sym}
use Rattle.world_entries.specs.Entries.{entry_of}
use Rattle.joined_histories.specs.Order.{says}
use Rattle.joined_histories.proofs.Waiting.{any_at_last, any_but_last, any_of_none}
use Rattle.joined_histories.proofs.waits.was_said.Goals as goal

pub returns-then-says : goal.returns-then-says
returns-then-says c =
    sym (c.loop-last.invariant ∙ any_at_last (says c.args.body.now) entry_of c.in-Some.before.now c.in-Some.last.now
    c.loop-last.rest.now c.in-Some.ensures.cases.0 (sym c.if-says.ensures))

pub loop-last-preserved : goal.loop-last-preserved
loop-last-preserved c =
    c.loop-last.invariant ∙ any_but_last (says c.args.body.now) entry_of c.in-Some.before.now c.in-Some.last.now
    c.loop-last.rest.now c.in-Some.ensures.cases.0 (sym c.if-says.ensures)

pub returns : goal.returns
returns c =
    sym (c.loop-last.invariant ∙ any_of_none (says c.args.body.now) entry_of c.loop-last.rest.now c.in_default.ensures.cases)
