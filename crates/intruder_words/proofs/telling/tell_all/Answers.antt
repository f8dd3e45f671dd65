-- What the order was told is alike, for the question, to the facts of the frames gone over; each spelled frame
-- adds its own. So at the end it is alike to all facts known.
use Rattle.std.proofs.Common.{arith}
use Rattle.plain_lists.proofs.Members.{all_at}
use Rattle.message_types.specs.Spelling.{has_spelling}
use Rattle.protocol_rules.specs.Group.{group_of}
use Rattle.intruder_words.proofs.Fits.{body-of-spelled}
use Rattle.intruder_words.proofs.Heard.{told-none, told-next, told-all}
use Rattle.history_rules.proofs.Entries.{at_place}
use Rattle.intruder_words.proofs.telling.tell_all.Goals as goal

pub loop-frame-init : goal.loop-frame-init
loop-frame-init c = told-none c.args.question.now (group_of c.args.sizes.now 0)
    c.args.order.now c.args.known.now c.requires.new

pub tell-requires : goal.tell-requires
tell-requires c = body-of-spelled c.frame-item.result
    (all_at has_spelling (at_place c.args.known.now c.loop-frame.frame-index c.frame-item.result
    c.loop-frame-test.true c.frame-item.is) c.requires.spelled)

pub loop-frame-preserved : goal.loop-frame-preserved
loop-frame-preserved c = told-next c.args.question.now (group_of c.args.sizes.now 0) _ _ c.args.known.now
    c.loop-frame.frame-index c.frame-item.result c.loop-frame-test.true c.frame-item.is
    c.loop-frame.invariant c.in_ok-tell.ensures

pub returns : goal.returns
returns c = told-all c.args.question.now (group_of c.args.sizes.now 0) c.loop-frame.order c.args.known.now
    c.loop-frame.frame-index (omega arith) c.loop-frame.invariant
