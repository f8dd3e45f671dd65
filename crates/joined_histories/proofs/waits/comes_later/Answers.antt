-- The entries that were joined are the first of the list, the others are left.
use Rattle.std.proofs.Common.{arith}
use Rattle.world_entries.specs.Entries.{entry_of}
use Rattle.joined_histories.specs.Order.{says}
use Rattle.joined_histories.proofs.Waiting.{later_none, later_split}
use Rattle.joined_histories.proofs.waits.comes_later.Goals as goal

pub returns-in-Some : goal.returns-in-Some
returns-in-Some c =
    later_split (says c.args.body.now) entry_of c.args.joined c.entries.result.now c.args.list.now c.entries.ensures
    c.in-Some.before.now c.in-Some.after.now c.is_new_in.result c.in-Some.ensures.cases.1 c.in-Some.ensures.cases.2
    c.is_new_in.ensures

pub returns-in-None : goal.returns-in-None
returns-in-None c =
    later_none (says c.args.body.now) entry_of c.args.joined c.entries.result.now c.args.list.now c.entries.ensures
    (omega (arith, c.in-None.ensures.cases))
