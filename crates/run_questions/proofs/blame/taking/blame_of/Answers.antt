-- After each entry what is kept is right for the words taken so far; after the last one that is all of them.
use Rattle.std.proofs.Common.{arith}
use Rattle.run_questions.proofs.BlameGrows.{entry_more, entries_all}
use Rattle.run_questions.proofs.blame.taking.blame_of.Goals as goal

pub loop-entry-init : goal.loop-entry-init
loop-entry-init c = c.make-blame.ensures

pub loop-entry-preserved : goal.loop-entry-preserved
loop-entry-preserved c =
    entry_more c.args.sizes.n c.args.entries.now c.loop-entry.entry-index c.entry-item.result
    c.loop-entry.blame c.take_entry.new.blame
    c.loop-entry-test.true c.entry-item.is c.loop-entry.invariant c.in_ok-take_entry.ensures

pub returns : goal.returns
returns c = entries_all c.args.sizes.n c.args.entries.now c.loop-entry.entry-index c.loop-entry.blame
    (omega (arith, c.loop-entry-test.false)) c.loop-entry.invariant
