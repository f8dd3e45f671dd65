-- The facts told are those from before and the lists of rows gone over; each turn takes the next, which fits a
-- spelling as all do.
use Rattle.std.proofs.Common.{arith}
use Rattle.plain_lists.proofs.Members.{all_at}
use Rattle.message_types.specs.Spelling.{rows_fit}
use Rattle.protocol_rules.specs.declared.facts.OrderFact.TheVariants as fact
use Rattle.history_rules.proofs.Entries.{at_place}
use Rattle.global_order.proofs.Learning.{learns-start, learns-more, learns-all}
use Rattle.intruder_words.proofs.telling.tell_rows.Goals as goal

pub loop-rows-init : goal.loop-rows-init
loop-rows-init c = learns-start fact.Rows c.args.order.now c.args.all.now

pub take_rows-requires : goal.take_rows-requires
take_rows-requires c = all_at rows_fit
    (at_place c.args.all.now c.loop-rows.rows-index c.rows-item.result c.loop-rows-test.true c.rows-item.is) c.requires

pub loop-rows-preserved : goal.loop-rows-preserved
loop-rows-preserved c = learns-more fact.Rows c.args.order.now _ _ c.args.all.now c.loop-rows.rows-index
    c.rows-item.result c.loop-rows-test.true c.rows-item.is c.loop-rows.invariant c.in_ok-take_rows.ensures.taken

pub returns : goal.returns
returns c = learns-all fact.Rows c.args.order.now _ c.args.all.now c.loop-rows.rows-index
    (omega arith) c.loop-rows.invariant
