-- What is appended is the text of the bench's last entry, which fits its form. Where the keeper fails it has
-- counted the call and the fault, and holds what it held before.
use Rattle.std.proofs.Common.{true, false}
use Rattle.world_history.specs.Lists.{last_of}
use Rattle.world_history.proofs.KeptGrows.{appended_last}
use Rattle.world_history.proofs.kept_actor.keep_last.Goals as goal

pub returns-in-Ok-clause-kept : goal.returns-in-Ok-clause-kept
returns-in-Ok-clause-kept c =
    appended_last (last_of c.args.bench.now.list) c.args.keeper.now c.append.new.self c.in_ok-text.text.items
    c.deref.result.now true c.in_ok-text.ensures.text
    c.deref.ensures.value c.in-Ok.ensures.exact

pub returns-in-Err-Failed-clause-kept : goal.returns-in-Err-Failed-clause-kept
returns-in-Err-Failed-clause-kept c =
    appended_last (last_of c.args.bench.now.list) c.args.keeper.now c.append.new.self c.in_ok-text.text.items
    c.deref.result.now false c.in_ok-text.ensures.text
    c.deref.ensures.value (rw c.in-Err-Failed.field-0-is at c.in-Err-Failed.ensures.exact)
