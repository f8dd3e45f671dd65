-- Frame by frame. Each stands, as all do.
use Rattle.printed_history.specs.Reading.{contents_in}
use Rattle.history_rules.specs.Setup.{stands}
use Rattle.world_rules.specs.Scenarios.{setup_of}
use Rattle.plain_lists.proofs.Lists.{all_at}
use Rattle.station_lives.specs.Saying.{word_line}
use Rattle.stations.proofs.Telling.{words_first, words_more, words_all, tells_word}
use Rattle.stations.proofs.words.say_frames.Goals as goal

pub loop-frame-init : goal.loop-frame-init
loop-frame-init c =
    words_first (contents_in c.args.so_far.now) (word_line (contents_in c.args.so_far.now) c.args.actor)
    c.args.frames.now c.args.batch.now

pub say_frame-requires-clause-stand : goal.say_frame-requires-clause-stand
say_frame-requires-clause-stand c =
    all_at (stands (setup_of (contents_in c.args.so_far.now))) c.args.frames.now c.loop-frame.frame-index
    c.frame-item.result c.requires.stand c.loop-frame-test.true c.frame-item.is

pub loop-frame-preserved : goal.loop-frame-preserved
loop-frame-preserved c =
    words_more (contents_in c.args.so_far.now) (word_line (contents_in c.args.so_far.now) c.args.actor)
    c.args.frames.now c.loop-frame.frame-index c.frame-item.result c.args.batch.now c.loop-frame.batch
    c.say_frame.new.batch c.loop-frame-test.true c.frame-item.is c.loop-frame.invariant
    (tells_word (contents_in c.args.so_far.now)
    (word_line (contents_in c.args.so_far.now) c.args.actor c.frame-item.result) c.loop-frame.batch
    c.say_frame.new.batch c.in_ok-say_frame.ensures)

pub returns : goal.returns
returns c =
    words_all (contents_in c.args.so_far.now) (word_line (contents_in c.args.so_far.now) c.args.actor)
    c.args.frames.now c.loop-frame.frame-index c.args.batch.now c.loop-frame.batch c.loop-frame-test.false
    c.loop-frame.invariant
