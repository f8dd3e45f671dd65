-- The texts kept are those given before and those of the lists of rows gone over; each turn adds the next
-- list's.
use Rattle.std.proofs.Common.{◌++◌, map, take}
use Rattle.message_types.specs.Texts.{rows_text}
use Rattle.history_audit.specs.Texts.{AreTexts}
use Rattle.history_audit.proofs.Loops.{map_starts, map_step, map_whole}
use Rattle.history_audit.proofs.texts.note_plan.Goals as goal

pub loop-rows-init : goal.loop-rows-init
loop-rows-init c = λ given are. map_starts (λ ts. AreTexts ts c.args.kept.now) rows_text given c.args.lists.now are

pub loop-rows-preserved : goal.loop-rows-preserved
loop-rows-preserved c = λ given are.
    map_step (λ ts. AreTexts ts c.note_rows.new.kept) rows_text given c.args.lists.now c.loop-rows.rows-index
    c.rows-item.result c.loop-rows-test.true c.rows-item.is
    (c.in_ok-note_rows.ensures (given ++ map rows_text (take c.loop-rows.rows-index c.args.lists.now))
    (c.loop-rows.invariant given are))

pub returns : goal.returns
returns c = λ given are. map_whole (λ ts. AreTexts ts c.loop-rows.kept) rows_text given c.args.lists.now
    c.loop-rows.rows-index c.loop-rows-test.false (c.loop-rows.invariant given are)
